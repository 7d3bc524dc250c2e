-- The join call, the Answers call and its started form agree: the joined pattern has, list for list, the answers found by starting the compensation at the
-- view's answers, and these are never refused as a start list. Assumes nothing.
use Rattle.tables.proofs.Kit.{ℕ, ◌≡◌, refl, sym, ap, ◌∙◌, subst, ◌↔◌, List, length, take, drop, take_at, Result, Ok, Err}
use Rattle.tables.specs.{Document.Document, Pattern.{Shape, shape_of}, Refusal.Passes, declared.Pattern.Pattern, declared.Refusal.Refusal}
use Rattle.tables.proofs.Refusals.{refuses_not_passes}
use Rattle.placing.specs.Answer.{Answer, Started, Begins, In, Lists, StartList}
use Rattle.placing.proofs.Listing.{lists_unique, lists_iff}
use Rattle.answers.specs.Answers.{Found, HasRoom, answer_checks, started_checks, FindsAnswers, FindsStarted}
use Rattle.answers.proofs.AnswerList.{started_here}
use Rattle.joining.specs.Join.{Joinable, Joins}
use Rattle.joining.proofs.Called.{called_answers, called_valid}

-- the front of the list that a call leaves is what it found
front_is : (A : Shape) (d : Document) (First : ℕ → Type 0) (list₀ work₀ : List ℕ) (c : ℕ) (list work : List ℕ) (h : Found A d First list₀ work₀ c list work) →
    take c list ≡ h.answers
front_is A d First list₀ work₀ c list work h = ap (take c) h.written ∙ take_at h.answers (drop c list₀) c (sym h.count)

-- and so the list of the answers
pub front : (A : Shape) (d : Document) (First : ℕ → Type 0) (list₀ work₀ : List ℕ) (c : ℕ) (list work : List ℕ) → Found A d First list₀ work₀ c list work →
    Lists (Started First A d) (take c list)
front A d First list₀ work₀ c list work h = subst (Lists (Started First A d)) (sym (front_is A d First list₀ work₀ c list work h)) h.lists

-- a list of the answers starts what the answers start
pub started_by : (A : Shape) (d : Document) (P : ℕ → Type 0) (xs : List ℕ) → Lists P xs → (i : ℕ) → Started (In xs) A d i ↔ Started P A d i
started_by A d P xs l i = (
  λ r. record { by = r.by; sends = r.sends; first = l.sound (r.by 0) r.first; at = r.at },
  λ r. record { by = r.by; sends = r.sends; first = l.complete (r.by 0) r.first; at = r.at },
)

-- whatever the calls were lent, the answers of the join are those of the compensation started at the view's answers
pub join_list : (U E j : Pattern) → Joins U E (Ok j) → (d : Document)
    (l₀ w₀ : List ℕ) (c : ℕ) (l w : List ℕ) → FindsAnswers U d l₀ w₀ (Ok c) l w
    → (m₀ x₀ : List ℕ) (e : ℕ) (m x : List ℕ) → FindsStarted E d (take c l) m₀ x₀ (Ok e) m x
    → (n₀ y₀ : List ℕ) (f : ℕ) (n y : List ℕ) → FindsAnswers j d n₀ y₀ (Ok f) n y
    → take e m ≡ take f n
join_list U E j h d l₀ w₀ c l w u m₀ x₀ e m x s n₀ y₀ f n y q =
    let views = front (shape_of U) d (Begins (shape_of U)) l₀ w₀ c l w u.1 in
    let tails = front (shape_of E) d (In (take c l)) m₀ x₀ e m x s.1 in
    let joins = front (shape_of j) d (Begins (shape_of j)) n₀ y₀ f n y q.1 in
    lists_unique (Started (Answer (shape_of U) d) (shape_of E) d) (take e m) (take f n)
    (lists_iff tails (started_by (shape_of E) d (Answer (shape_of U) d) (take c l) views))
    (lists_iff joins (called_answers U E j h d))

-- the view's answers are never refused as a start list: where E can be joined to U and the lists have room, the started call passes its checks
pub starts_accepted : (U E : Pattern) → Joinable U E → (d : Document) (l₀ w₀ : List ℕ) (c : ℕ) (l w : List ℕ) → FindsAnswers U d l₀ w₀ (Ok c) l w
    → (a b : ℕ) → HasRoom d a b → Passes (started_checks E d (take c l) a b)
starts_accepted U E k d l₀ w₀ c l w u a b room =
    let views = front (shape_of U) d (Begins (shape_of U)) l₀ w₀ c l w u.1 in
    let list : StartList d (take c l) = record {
      ascending = views.ascending;
      nodes = λ p lt. started_here (shape_of U) d (Begins (shape_of U)) k.0 _ (views.sound _ (record { place = p; early = lt; is = refl }));
    } in
    (k.1.0, (u.0.1.0, ((k.1.1.0, list), (room, tt))))

-- so, whatever the two calls answered: given room, both have counted, the same number, and listed the same nodes
pub join_list_room : (U E j : Pattern) → Joins U E (Ok j) → (d : Document)
    (l₀ w₀ : List ℕ) (c : ℕ) (l w : List ℕ) → FindsAnswers U d l₀ w₀ (Ok c) l w
    → (m₀ x₀ : List ℕ) (r : Result ℕ Refusal) (m x : List ℕ) → HasRoom d (length m₀) (length x₀) → FindsStarted E d (take c l) m₀ x₀ r m x
    → (n₀ y₀ : List ℕ) (q : Result ℕ Refusal) (n y : List ℕ) → HasRoom d (length n₀) (length y₀) → FindsAnswers j d n₀ y₀ q n y
    → (e : ℕ) × (r ≡ Ok e) × (q ≡ Ok e) × (take e m ≡ take e n)
join_list_room U E j h d l₀ w₀ c l w u m₀ x₀ (Err r) m x hr s n₀ y₀ q n y hq t =
    absurd (refuses_not_passes (started_checks E d (take c l) (length m₀) (length x₀)) r s.0
    (starts_accepted U E h.0 d l₀ w₀ c l w u (length m₀) (length x₀) hr))
join_list_room U E j h d l₀ w₀ c l w u m₀ x₀ (Ok e) m x hr s n₀ y₀ (Err q) n y hq t =
    absurd (refuses_not_passes (answer_checks j d (length n₀) (length y₀)) q t.0 (called_valid U E j h, (u.0.1.0, (hq, tt))))
join_list_room U E j h d l₀ w₀ c l w u m₀ x₀ (Ok e) m x hr s n₀ y₀ (Ok f) n y hq t =
    let same : take e m ≡ take f n = join_list U E j h d l₀ w₀ c l w u m₀ x₀ e m x s n₀ y₀ f n y t in
    let one : f ≡ e =
    t.1.count ∙ ap length (sym (front_is (shape_of j) d (Begins (shape_of j)) n₀ y₀ f n y t.1) ∙ sym same
    ∙ front_is (shape_of E) d (In (take c l)) m₀ x₀ e m x s.1) ∙ sym s.1.count in
    (e, refl, ap Ok one, subst (λ k. take e m ≡ take k n) one same)
