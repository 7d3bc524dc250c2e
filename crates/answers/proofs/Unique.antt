-- No second count, answer list or working list fits the Answers call. Assumes nothing.
use Rattle.tables.proofs.Kit.{ℕ, ◌+◌, ◌*◌, ◌/◌, ◌%◌, ◌<◌, ◌≡◌, sym, ap, ap₂, ◌∙◌, subst, List, ◌++◌}
use Rattle.tables.proofs.Kit.{arith, dec_lt, ℕ_discrete, length, get_or, drop, ext_get_or, Result}
use Rattle.tables.specs.{Document.{Document, node_count}, Pattern.{Shape, shape_of}}
use Rattle.tables.specs.{Refusal.{Check, Decided}, declared.{Pattern.Pattern, Refusal.Refusal}}
use Rattle.tables.proofs.{Marks.marks_unique, Outcomes.decided_both, Refusals.decided_unique}
use Rattle.placing.specs.Answer.{Begins, Started, In}
use Rattle.placing.proofs.Listing.{lists_unique}
use Rattle.answers.specs.{Working.{FitsAt, PlacedAt, Working}, Answers.{Found, answer_checks, started_checks, FindsAnswers, FindsStarted}}

module _ (A : Shape) (d : Document) (First : ℕ → Type 0) where
  working_unique : (work₀ w z : List ℕ) → Working A d First work₀ w → Working A d First work₀ z → w ≡ z
  working_unique work₀ w z a b = ext_get_or 0 w z (a.same_length ∙ sym b.same_length) (λ k l. go k (dec_lt k (2 * node_count d)) (ℕ_discrete (k % 2) 0))
    where
      go : (k : ℕ) → Dec (k < 2 * node_count d) → Dec (k % 2 ≡ 0) → get_or w k 0 ≡ get_or z k 0
      go k (no h) e = a.rest k (omega arith) ∙ sym (b.rest k (omega arith))
      go k (yes h) (yes e) =
          let i : ℕ = k / 2 in let m : i < node_count d = omega arith in
          subst (λ (x : ℕ). get_or w x 0 ≡ get_or z x 0) {x = 2 * i} (omega arith)
          (marks_unique (get_or w (2 * i) 0) (get_or z (2 * i) 0) (FitsAt A d i) (a.fits i m) (b.fits i m))
      go k (yes h) (no e) =
          let i : ℕ = k / 2 in let m : i < node_count d = omega arith in
          subst (λ (x : ℕ). get_or w x 0 ≡ get_or z x 0) {x = 2 * i + 1} (omega arith)
          (marks_unique (get_or w (2 * i + 1) 0) (get_or z (2 * i + 1) 0) (PlacedAt A d First i) (a.placed i m) (b.placed i m))

  found_count : (list₀ work₀ : List ℕ) (c e : ℕ) (list work list' work' : List ℕ) → Found A d First list₀ work₀ c list work → Found A d First list₀ work₀ e
      list' work' → c ≡ e
  found_count list₀ work₀ c e list work list' work' h k =
      h.count ∙ ap length (lists_unique (Started First A d) h.answers k.answers h.lists k.lists) ∙ sym k.count

  found_lists : (list₀ work₀ : List ℕ) (c e : ℕ) (list work list' work' : List ℕ) → Found A d First list₀ work₀ c list work → Found A d First list₀ work₀ e
      list' work' → (list ≡ list') × (work ≡ work')
  found_lists list₀ work₀ c e list work list' work' h k = (
    h.written ∙ ap₂ (λ xs n. xs ++ drop n list₀) (lists_unique (Started First A d) h.answers k.answers h.lists k.lists)
        (found_count list₀ work₀ c e list work list' work' h k) ∙ sym k.written,
    working_unique work₀ work work' h.working k.working,
  )

  -- whatever is checked first, one count and one content of each list fit
  pub one_found : (cs : List Check) (list₀ work₀ : List ℕ) (r q : Result ℕ Refusal) (list work list' work' : List ℕ)
      → Decided cs r (λ c. Found A d First list₀ work₀ c list work) ((list ≡ list₀) × (work ≡ work₀))
      → Decided cs q (λ c. Found A d First list₀ work₀ c list' work') ((list' ≡ list₀) × (work' ≡ work₀))
      → (r ≡ q) × (list ≡ list') × (work ≡ work')
  one_found cs list₀ work₀ r q list work list' work' h k =
      let l = decided_both cs r q (λ c e x y. found_lists list₀ work₀ c e list work list' work' x y) (λ x y. (x.0 ∙ sym y.0, x.1 ∙ sym y.1)) h k in
      (decided_unique cs r q _ _ _ _ (λ c e x y. found_count list₀ work₀ c e list work list' work' x y) h k, l.0, l.1)

pub finds_answers_unique : (p : Pattern) (d : Document) (list₀ work₀ : List ℕ) (r q : Result ℕ Refusal) (list work list' work' : List ℕ)
    → FindsAnswers p d list₀ work₀ r list work → FindsAnswers p d list₀ work₀ q list' work' → (r ≡ q) × (list ≡ list') × (work ≡ work')
finds_answers_unique p d list₀ work₀ r q list work list' work' h k =
    one_found (shape_of p) d (Begins (shape_of p)) (answer_checks p d (length list₀) (length work₀)) list₀ work₀ r q list work list' work' h k

pub finds_started_unique : (p : Pattern) (d : Document) (starts list₀ work₀ : List ℕ) (r q : Result ℕ Refusal) (list work list' work' : List ℕ)
    → FindsStarted p d starts list₀ work₀ r list work → FindsStarted p d starts list₀ work₀ q list' work' → (r ≡ q) × (list ≡ list') × (work ≡ work')
finds_started_unique p d starts list₀ work₀ r q list work list' work' h k =
    one_found (shape_of p) d (In starts) (started_checks p d starts (length list₀) (length work₀)) list₀ work₀ r q list work list' work' h k
