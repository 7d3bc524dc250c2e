-- Every count that an entry hands to C is small. Assumes nothing.
use Rattle.tables.proofs.Kit.{Result, Ok, Err, ℕ, zero, suc, ◌≤◌, ◌<◌, List, ◌++◌, arith, length}
use Rattle.tables.specs.{Checks.room_for, Document.{Document, node_count}, Pattern.{Shape, shape_of, pattern_of, table_of}}
use Rattle.tables.specs.{Refusal.{Check, Passes}, declared.Refusal.Refusal}
use Rattle.tables.proofs.Outcomes.{passes_front, passes_rest}
use Rattle.halves.specs.Bytes.{unpacked}
use Rattle.packets.specs.{PatternPacket.{packet_pattern, pattern_checks, length_of}, DocumentPacket.{packet_document, document_rules, lists_check}}
use Rattle.packets.proofs.Views.{read_of, read_document_of, nodes_few}
use Rattle.placing.specs.Answer.{Begins, In}
use Rattle.placing.proofs.Listing.{answers_few}
use Rattle.answers.specs.Answers.{Found, answer_checks, started_checks}
use Rattle.joining.specs.Join.{join_of, join_shape, join_checks}
use Rattle.joining.proofs.Joined.{pair_of}
use Rattle.packet_answers.specs.Documents.{AnswersPut, nodes_room, AnswersPackets, start_check, StartsPackets}
use Rattle.packet_lists.specs.Lists.{ReadsInto, ListAnswers, ListStarted}
use Rattle.packet_patterns.specs.{Contained.ContainsPackets, Patterns.{JoinsPackets, RewritesPackets, CopiesPacket}}
use Rattle.station.specs.Code.{Small}

-- a document has at most 2,048 nodes, so the counts are small
put_small : (First : ℕ → Type 0) (ds ps : List ℕ) (rest : List Check) → Passes ((document_rules ds ++ pattern_checks ps) ++ rest) → (room₀ room : List ℕ)
    (c : ℕ)
    → AnswersPut First (shape_of (packet_pattern ps)) (packet_document ds) room₀ c room → c < 65536
put_small First ds ps rest p room₀ room c f =
    let b = passes_front (document_rules ds ++ pattern_checks ps) rest p in
    let d = read_document_of ds (passes_front (document_rules ds) (pattern_checks ps) b) in
    let v = (read_of ps (passes_rest (document_rules ds) (pattern_checks ps) b)).right in
    omega (arith, d.right.few, f.count, answers_few First (shape_of (packet_pattern ps)) (packet_document ds) f.answers v.output f.lists)

pub answers_small : (ds ps room₀ room : List ℕ) (a : Result ℕ Refusal) → AnswersPackets ds ps room₀ a room → Small a
answers_small ds ps room₀ room (Ok c) h =
    let A = shape_of (packet_pattern ps) in
    put_small (Begins A) ds ps (nodes_room ds (length room₀)) h.says.0 room₀ room c h.says.1
answers_small ds ps room₀ room (Err r) h = tt

pub starts_small : (ds ps ss room₀ room : List ℕ) (a : Result ℕ Refusal) → StartsPackets ds ps ss room₀ a room → Small a
starts_small ds ps ss room₀ room (Ok c) h =
    put_small (In (unpacked ss)) ds ps (start_check ds ps ss ++ nodes_room ds (length room₀)) h.says.0 room₀ room c h.says.1
starts_small ds ps ss room₀ room (Err r) h = tt

-- there are no more answers than nodes
found_few : (First : ℕ → Type 0) (A : Shape) (d : Document) (list₀ work₀ list work : List ℕ) (c : ℕ) → A.output < A.tree.size → Found A d First list₀ work₀
    c list work → c ≤ node_count d
found_few First A d list₀ work₀ list work c o f = omega (arith, f.count, answers_few First A d f.answers o f.lists)

pub list_small : (d : Document) (ps list₀ work₀ list work : List ℕ) (a : Result ℕ Refusal) → ListAnswers d ps list₀ work₀ a list work → Small a
list_small d ps list₀ work₀ list work (Ok c) h =
    let v = passes_rest (pattern_checks ps) (answer_checks (packet_pattern ps) d (length list₀) (length work₀)) h.says.0 in
    let A = shape_of (packet_pattern ps) in
    omega (arith, v.1.0.few, found_few (Begins A) A d list₀ work₀ list work c v.0.output h.says.1)
list_small d ps list₀ work₀ list work (Err r) h = tt

pub started_small : (d : Document) (ps starts list₀ work₀ list work : List ℕ) (a : Result ℕ Refusal) → ListStarted d ps starts list₀ work₀ a list work → Small a
started_small d ps starts list₀ work₀ list work (Ok c) h =
    let v = passes_rest (pattern_checks ps) (started_checks (packet_pattern ps) d starts (length list₀) (length work₀)) h.says.0 in
    let A = shape_of (packet_pattern ps) in
    omega (arith, v.1.0.few, found_few (In starts) A d list₀ work₀ list work c v.0.output h.says.1)
started_small d ps starts list₀ work₀ list work (Err r) h = tt

-- a document has at most 2,048 nodes
pub reads_small : (bs parents₀ labels₀ parents labels : List ℕ) (a : Result ℕ Refusal) → ReadsInto bs parents₀ labels₀ a parents labels → Small a
reads_small bs parents₀ labels₀ parents labels (Ok c) h =
    let p = passes_front (document_rules bs) (lists_check bs (length parents₀) (length labels₀)) h.says.0 in
    omega (arith, h.says.1.0, nodes_few (read_document_of bs p).head)
reads_small bs parents₀ labels₀ parents labels (Err r) h = tt

-- the counts are small
pub joins_small : (us es room₀ room : List ℕ) (a : Result ℕ Refusal) → JoinsPackets us es room₀ a room → Small a
unfolding join_of join_shape pattern_of table_of
joins_small us es room₀ room (Ok c) h =
    let z = room_for (length_of (join_of (packet_pattern us) (packet_pattern es))) (length room₀) in
    let cs = join_checks (packet_pattern us) (packet_pattern es) in
    let p = pair_of (packet_pattern us) (packet_pattern es) (passes_front cs z (passes_rest (pattern_checks us ++ pattern_checks es) (cs ++ z) h.says.0)) in
    omega (arith, p.few, h.says.1.0)
joins_small us es room₀ room (Err r) h = tt

pub rewrites_small : (qs us room₀ room : List ℕ) (a : Result ℕ Refusal) → RewritesPackets qs us room₀ a room → Small a
rewrites_small qs us room₀ room (Ok zero) h = omega arith
rewrites_small qs us room₀ room (Ok (suc c)) h = omega (arith, h.says.1.1.1.joinable.1.0.few, h.says.1.2.0)
rewrites_small qs us room₀ room (Err r) h = tt

pub copies_small : (bs room₀ room : List ℕ) (a : Result ℕ Refusal) → CopiesPacket bs room₀ a room → Small a
copies_small bs room₀ room (Ok c) h =
    let s = (read_of bs (passes_front (pattern_checks bs) (room_for (length bs) (length room₀)) h.says.0)).head.sized in
    omega (arith, h.says.1.0, s.few, s.present)
copies_small bs room₀ room (Err r) h = tt

pub contains_small : (xs ys room₀ room : List ℕ) (a : Result ℕ Refusal) → ContainsPackets xs ys room₀ a room → Small a
contains_small xs ys room₀ room (Ok zero) h = omega arith
contains_small xs ys room₀ room (Ok (suc zero)) h = omega arith
contains_small xs ys room₀ room (Ok (suc (suc c))) h = absurd h.says.1
contains_small xs ys room₀ room (Err r) h = tt
