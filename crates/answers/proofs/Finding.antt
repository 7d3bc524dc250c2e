-- From the first pass to the second: how the starts are marked in both forms of the call. Assumes nothing.
use Rattle.tables.proofs.Kit.{ℕ, ◌+◌, ◌*◌, ◌≤◌, ◌<◌, ◌≡◌, ap, ◌∙◌, subst, ◌⊎◌, inl, inr, ⊎_elim, ◌↔◌, Bool, true, false}
use Rattle.tables.proofs.Kit.{List, arith, ℕ_discrete, length, get_or, set, length-set, get_or-set_same, get_or-set_other}
use Rattle.tables.specs.{Document.{Document, node_count, ValidDocument}, Pattern.{Shape, ValidShape}}
use Rattle.tables.proofs.Tests.{Tells}
use Rattle.placing.specs.Answer.{Begins, In}
use Rattle.answers.specs.{Answers.Found, inner.Standing.Ready}
use Rattle.marking.specs.Entries.{Fitted, Marked}
use Rattle.answers.proofs.Tested.{is_in, tells_in}

-- what the list held before the second pass matters only in its length and past the nodes' entries
pub found_before : (A : Shape) (d : Document) (First : ℕ → Type 0) (list₀ work₀ w : List ℕ) (c : ℕ) (list work : List ℕ) → length w ≡ length work₀ →
    ((q : ℕ) → 2 * node_count d ≤ q → get_or w q 0 ≡ get_or work₀ q 0)
    → Found A d First list₀ w c list work → Found A d First list₀ work₀ c list work
found_before A d First list₀ work₀ w c list work e r h = record {
  answers = h.answers;
  lists = h.lists;
  count = h.count;
  written = h.written;
  working = record {
    same_length = h.working.same_length ∙ e;
    fits = h.working.fits;
    placed = h.working.placed;
    rest = λ q l. h.working.rest q l ∙ r q l;
  };
}

module _ (A : Shape) (d : Document) (va : ValidShape A) (vd : ValidDocument d) (before work : List ℕ) (room : 2 * node_count d ≤ length before) where
  -- step 0 of axis child starts at node 0, which is marked; of axis descendant at every node, as the seed says
  module _ (u : Fitted A d (A.axis 0) before work) where
    marked : List ℕ
    marked = set work 1 1

    pub plain_room : 1 < length work
    plain_room = omega (arith, vd.some, u.same_length)

    entry : (i : ℕ) → i < node_count d → (i ≡ 0 → ⊥) → get_or marked (2 * i + 1) 0 ≡ A.axis 0
    unfolding marked
    entry i l n = get_or-set_other work 1 (2 * i + 1) 1 0 (omega arith) ∙ u.seeded i l

    first : get_or marked 1 0 ≡ 1
    unfolding marked
    first = get_or-set_same work 1 1 0 plain_room

    flag : (i : ℕ) → i < node_count d → Dec (i ≡ 0) → Marked marked i ⊎ (get_or marked (2 * i + 1) 0 ≡ 0)
    flag i l (yes e) = inl (ap (λ x. get_or marked (2 * x + 1) 0) e ∙ first)
    flag i l (no n) = ⊎_elim (λ z. inr (entry i l n ∙ z)) (λ z. inl (entry i l n ∙ z)) (va.steps 0 va.some).axis

    pub plain_ready : Ready A d (set work 1 1)
    unfolding marked
    plain_ready = record {
      room = omega (arith, length-set work 1 1, u.same_length);
      fits = λ i l. rw (get_or-set_other work 1 (2 * i) 1 0 (omega arith)) (u.fits i l);
      flags = λ i l. flag i l (ℕ_discrete i 0);
    }

    pub plain_first : (i : ℕ) → i < node_count d → Marked (set work 1 1) i ↔ Begins A i
    unfolding marked
    plain_first i l = (λ m e. to (ℕ_discrete i 0) m e, λ b. back (ℕ_discrete i 0) b)
      where
        to : Dec (i ≡ 0) → Marked (set work 1 1) i → A.axis 0 ≡ 0 → i ≡ 0
        to (yes z) m e = z
        to (no n) m e = absurd (omega (arith, entry i l n))

        back : Dec (i ≡ 0) → Begins A i → Marked (set work 1 1) i
        back (yes z) b = ap (λ x. get_or (set work 1 1) (2 * x + 1) 0) z ∙ first
        back (no n) b = entry i l n ∙ ⊎_elim (λ z. absurd (n (b z))) (λ z. z) (va.steps 0 va.some).axis

    pub plain_length : length (set work 1 1) ≡ length before
    plain_length = length-set work 1 1 ∙ u.same_length

    pub plain_rest : (q : ℕ) → 2 * node_count d ≤ q → get_or (set work 1 1) q 0 ≡ get_or before q 0
    plain_rest q l = get_or-set_other work 1 q 1 0 (omega (arith, vd.some)) ∙ u.rest q l

  -- in the started form the start nodes are marked, in a list without seeds
  module _ (u : Fitted A d 0 before work) (starts after : List ℕ) (few : (k : ℕ) → k < length starts → get_or starts k 0 < node_count d)
      (long : length after ≡ length work) (put : (i : ℕ) → In starts i → Marked after i)
      (old : (q : ℕ) → ((i : ℕ) → In starts i → q ≡ 2 * i + 1 → ⊥) → get_or after q 0 ≡ get_or work q 0) where
    -- an unmarked node keeps its zero
    zero_entry : (i : ℕ) → i < node_count d → (In starts i → ⊥) → get_or after (2 * i + 1) 0 ≡ 0
    zero_entry i l n = old (2 * i + 1) (λ j w e. n (subst (In starts) {x = j} (omega arith) w)) ∙ u.seeded i l

    start : (i : ℕ) → i < node_count d → (b : Bool) → Tells b (In starts i) → Marked after i ⊎ (get_or after (2 * i + 1) 0 ≡ 0)
    start i l true t = inl (put i (t.says tt))
    start i l false t = inr (zero_entry i l t.test)

    pub started_ready : Ready A d after
    started_ready = record {
      room = omega (arith, u.same_length);
      fits = λ i l. rw (old (2 * i) (λ j w e. omega arith)) (u.fits i l);
      flags = λ i l. start i l (is_in starts i) (tells_in starts i);
    }

    pub started_first : (i : ℕ) → i < node_count d → Marked after i ↔ In starts i
    started_first i l = (go (is_in starts i) (tells_in starts i), put i)
      where
        go : (b : Bool) → Tells b (In starts i) → Marked after i → In starts i
        go true t m = t.says tt
        go false t m = absurd (omega (arith, zero_entry i l t.test))

    pub started_rest : (q : ℕ) → 2 * node_count d ≤ q → get_or after q 0 ≡ get_or before q 0
    started_rest q l = old q (λ i w e. omega (arith, few w.place w.early, w.is)) ∙ u.rest q l
