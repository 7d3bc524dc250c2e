-- A refusal changes no list or buffer that was lent, and hands nothing over: one theorem for each call that is lent something, one for all, and one for each
-- call that hands a pattern or a verdict over. Assumes nothing.
use Rattle.tables.proofs.Kit.{ℕ, ◌≡◌, List, arith, Result, Ok, Err, Option, Some, None}
use Rattle.tables.specs.{Document.Document, declared.Pattern.Pattern, declared.Refusal.Refusal}
use Rattle.packets.specs.{PatternPacket.{ReadsPattern, WritesPattern}, DocumentPacket.{ReadsNodes, ReadsDocument, WritesDocument}}
use Rattle.packets.proofs.PatternTrip.{reads_pattern_unique}
use Rattle.answers.specs.Answers.{FindsAnswers, FindsStarted}
use Rattle.containment.specs.{Containment.DecidesContainment, declared.ContainmentAnswer.ContainmentAnswer}
use Rattle.containment.proofs.Unique.{containment_unique}
use Rattle.joining.specs.Join.{Joins}
use Rattle.joining.proofs.Unique.{joins_unique}
use Rattle.rewriting.specs.Rewriting.{Rewrites}
use Rattle.rewriting.proofs.Unique.{rewrites_unique}
use Rattle.asking.specs.Replies.{ReplyOf}

-- writing a pattern packet: the buffer is as it was
pub writes_pattern_unchanged : (p : Pattern) (before after : List ℕ) (q : Refusal) → WritesPattern p before (Err q) after → after ≡ before
writes_pattern_unchanged p before after q h = h.1

-- reading the nodes of a document packet: both lists are
pub reads_nodes_unchanged : (bs parents₀ labels₀ parents labels : List ℕ) (q : Refusal) → ReadsNodes bs parents₀ labels₀ (Err q) parents labels
    → (parents ≡ parents₀) × (labels ≡ labels₀)
reads_nodes_unchanged bs parents₀ labels₀ parents labels q h = h.1

-- reading a document packet: both lists are
pub reads_document_unchanged : (bs parents₀ labels₀ parents labels : List ℕ) (q : Refusal) → ReadsDocument bs parents₀ labels₀ (Err q) parents labels
    → (parents ≡ parents₀) × (labels ≡ labels₀)
reads_document_unchanged bs parents₀ labels₀ parents labels q h = h.1

-- writing a document packet: the buffer is
pub writes_document_unchanged : (d : Document) (before after : List ℕ) (q : Refusal) → WritesDocument d before (Err q) after → after ≡ before
writes_document_unchanged d before after q h = h.1

-- answers: the answer list and the working list are
pub finds_answers_unchanged : (p : Pattern) (d : Document) (list₀ work₀ list work : List ℕ) (q : Refusal)
    → FindsAnswers p d list₀ work₀ (Err q) list work → (list ≡ list₀) × (work ≡ work₀)
finds_answers_unchanged p d list₀ work₀ list work q h = h.1

-- started answers: both are
pub finds_started_unchanged : (p : Pattern) (d : Document) (starts list₀ work₀ list work : List ℕ) (q : Refusal)
    → FindsStarted p d starts list₀ work₀ (Err q) list work → (list ≡ list₀) × (work ≡ work₀)
finds_started_unchanged p d starts list₀ work₀ list work q h = h.1

-- what `ask` prints: the buffer is
pub reply_unchanged : (bs before after : List ℕ) (q : Refusal) → ReplyOf bs before (Err q) after → after ≡ before
reply_unchanged bs before after q h = h.1

-- containment: both lists are
pub contains_unchanged : (A B : Pattern) (parents₀ labels₀ parents labels : List ℕ) (q : Refusal)
    → DecidesContainment A B parents₀ labels₀ (Err q) parents labels → (parents ≡ parents₀) × (labels ≡ labels₀)
contains_unchanged A B parents₀ labels₀ parents labels q h = h.1

-- and a refusal hands nothing over, whatever the call answers with: no pattern, no mapping, no count
pub refused_alone : {A : Type 0} (q : Refusal) (a : A) → ◌≡◌ {A = Result A Refusal} (Err q) (Ok a) → ⊥
refused_alone q a e = let z : ◌≡◌ {A = ℕ} 0 1 = cc in omega arith

-- nor does "none"
pub none_alone : {A : Type 0} (a : A) → ◌≡◌ {A = Option A} None (Some a) → ⊥
none_alone a e = let z : ◌≡◌ {A = ℕ} 0 1 = cc in omega arith

-- so no pattern fits a packet that is refused
pub reads_pattern_alone : (bs : List ℕ) (q : Refusal) (p : Pattern) → ReadsPattern bs (Err q) → ReadsPattern bs (Ok p) → ⊥
reads_pattern_alone bs q p h k = refused_alone q p (reads_pattern_unique bs (Err q) (Ok p) h k)

-- nor a view and a compensation that are refused
pub joins_alone : (U E : Pattern) (q : Refusal) (p : Pattern) → Joins U E (Err q) → Joins U E (Ok p) → ⊥
joins_alone U E q p h k = refused_alone q p (joins_unique U E (Err q) (Ok p) h k)

-- nor does an answer, "none" or a compensation, fit a query and a view that are refused
pub rewrites_alone : (Q U : Pattern) (q : Refusal) (o : Option Pattern) → Rewrites Q U (Err q) → Rewrites Q U (Ok o) → ⊥
rewrites_alone Q U q o h k = refused_alone q o (rewrites_unique Q U (Err q) (Ok o) h k)

-- nor do a verdict and a mapping fit two patterns that are refused
pub contains_alone : (A B : Pattern) (parents₀ labels₀ parents labels parents' labels' : List ℕ) (q : Refusal) (a : ContainmentAnswer)
    → DecidesContainment A B parents₀ labels₀ (Err q) parents labels → DecidesContainment A B parents₀ labels₀ (Ok a) parents' labels' → ⊥
contains_alone A B parents₀ labels₀ parents labels parents' labels' q a h k =
    refused_alone q a (containment_unique A B parents₀ labels₀ (Err q) (Ok a) parents labels parents' labels' h k).0

-- no compensation fits where the answer is "none"
pub none_rewrites_alone : (Q U p : Pattern) → Rewrites Q U (Ok None) → Rewrites Q U (Ok (Some p)) → ⊥
none_rewrites_alone Q U p h k = h.1 p k.1.0 k.1.1
