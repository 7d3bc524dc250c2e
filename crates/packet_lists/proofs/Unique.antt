-- No second answer and no second content of the lists fits a call on lists. Assumes nothing.
use Rattle.tables.proofs.Kit.{ℕ, ◌≡◌, List, ◌++◌, length, Result}
use Rattle.tables.specs.{Document.Document, Pattern.shape_of, declared.Refusal.Refusal}
use Rattle.packets.specs.PatternPacket.{packet_pattern, pattern_checks}
use Rattle.packets.proofs.DocumentTrip.{reads_document_unique}
use Rattle.placing.specs.Answer.{Begins, In}
use Rattle.answers.specs.Answers.{answer_checks, started_checks}
use Rattle.answers.proofs.Unique.{one_found}
use Rattle.packet_lists.specs.Lists.{ReadsInto, ListAnswers, ListStarted}

pub reads_into_unique : (bs parents₀ labels₀ : List ℕ) (r q : Result ℕ Refusal) (parents parents' labels labels' : List ℕ) → ReadsInto bs parents₀ labels₀ r
    parents
    labels → ReadsInto bs parents₀ labels₀ q parents' labels' → (r ≡ q) × (parents ≡ parents') × (labels ≡ labels')
reads_into_unique bs parents₀ labels₀ r q parents parents' labels labels' h k = reads_document_unique bs parents₀ labels₀ r q parents parents' labels labels'
    h.says k.says

pub list_answers_unique : (d : Document) (ps list₀ work₀ : List ℕ) (r q : Result ℕ Refusal) (list work list' work' : List ℕ) → ListAnswers d ps list₀ work₀ r
    list work
    → ListAnswers d ps list₀ work₀ q list' work'
    → (r ≡ q) × (list ≡ list') × (work ≡ work')
list_answers_unique d ps list₀ work₀ r q list work list' work' h k =
    let A = shape_of (packet_pattern ps) in
    one_found A d (Begins A) (pattern_checks ps ++ answer_checks (packet_pattern ps) d (length list₀) (length work₀)) list₀ work₀ r q list work list' work'
    h.says k.says

pub list_started_unique : (d : Document) (ps starts list₀ work₀ : List ℕ) (r q : Result ℕ Refusal) (list work list' work' : List ℕ) → ListStarted d ps starts
    list₀
    work₀ r list work
    → ListStarted d ps starts list₀ work₀ q list' work' → (r ≡ q) × (list ≡ list') × (work ≡ work')
list_started_unique d ps starts list₀ work₀ r q list work list' work' h k =
    let A = shape_of (packet_pattern ps) in
    one_found A d (In starts) (pattern_checks ps ++ started_checks (packet_pattern ps) d starts (length list₀) (length work₀)) list₀ work₀ r q list work list'
    work' h.says k.says
