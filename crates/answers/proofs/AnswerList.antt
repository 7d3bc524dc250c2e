-- The answer list of the second pass, node by node, and what the start marks stand for. Assumes nothing.
use Rattle.tables.proofs.Kit.{ℕ, suc, ◌+◌, ◌*◌, ◌≤◌, ◌<◌, ◌≡◌, refl, sym, ap, ◌∙◌, subst, ◌⊎◌, inl, inr, ⊎_elim, ◌↔◌}
use Rattle.tables.proofs.Kit.{List, [], ◌∷◌, ◌++◌, arith, add-one, length, get_or, set, length-append, length-set}
use Rattle.tables.specs.{Bits.{bit, Marks}, Document.{Document, node_count, nodes_of}, Pattern.{Shape, ValidShape}}
use Rattle.tables.proofs.{Choice.below_or_at, Columns.put_next, Marks.{bit_cases, marks_one, marks_none, marks_to}}
use Rattle.placing.specs.{Placement.Reaches, Answer.Started}
use Rattle.placing.proofs.Listing.{lists_none, lists_more, lists_iff}
use Rattle.answers.specs.{Working.PlacedAt, Answers.Found, inner.Standing.{Ready, Downward, Listed}}
use Rattle.marking.specs.Entries.{Marked, Noted}

-- where two ways to say the start agree on the nodes, placements agree
pub reaches_first : (A : Shape) (d : Document) (First Other : ℕ → Type 0) → ValidShape A → ((i : ℕ) → i < node_count d → First i → Other i) → (s i : ℕ)
    → Reaches A (nodes_of d) First s i → Reaches A (nodes_of d) Other s i
reaches_first A d First Other va f s i r = record {
  by = r.by;
  sends = r.sends;
  first = f (r.by 0) (r.sends.takes 0 va.some).here r.first;
  at = r.at;
}

-- an answer is a node
pub started_here : (A : Shape) (d : Document) (First : ℕ → Type 0) → ValidShape A → (i : ℕ) → Started First A d i → i < node_count d
started_here A d First va i r = subst (λ (x : ℕ). x < node_count d) r.at (r.sends.takes A.output va.output).here

-- what a call has found does not depend on how the start is said
pub found_first : (A : Shape) (d : Document) (First Other : ℕ → Type 0) → ValidShape A → ((i : ℕ) → i < node_count d → First i ↔ Other i) →
    (list₀ work₀ : List ℕ) (c : ℕ) (list work : List ℕ)
    → Found A d First list₀ work₀ c list work → Found A d Other list₀ work₀ c list work
found_first A d First Other va e list₀ work₀ c list work h = record {
  answers = h.answers;
  lists = lists_iff h.lists (λ i. (to A.output i, back A.output i));
  count = h.count;
  written = h.written;
  working = record {
    same_length = h.working.same_length;
    fits = h.working.fits;
    placed = λ i l. marks_to (get_or work (2 * i + 1) 0) (PlacedAt A d First i) (PlacedAt A d Other i) (λ s w. (w.0, to s i w.1))
        (λ s w. (w.0, back s i w.1)) (h.working.placed i l);
    rest = h.working.rest;
  };
}
  where
    to : (s i : ℕ) → Reaches A (nodes_of d) First s i → Reaches A (nodes_of d) Other s i
    to = reaches_first A d First Other va (λ i l. (e i l).0)

    back : (s i : ℕ) → Reaches A (nodes_of d) Other s i → Reaches A (nodes_of d) First s i
    back = reaches_first A d Other First va (λ i l. (e i l).1)

-- the second entries before the pass mark step 0 at the start nodes
pub ready_starts : (A : Shape) (d : Document) (work : List ℕ) → Ready A d work → (i : ℕ) → i < node_count d → Marks (get_or work (2 * i + 1) 0)
    (λ s. (s ≡ 0) × Marked work i)
ready_starts A d work r i l = ⊎_elim (λ e. subst (λ (x : ℕ). Marks x (λ s. (s ≡ 0) × Marked work i)) (sym e)
    (marks_to 1 (λ s. s ≡ 0) (λ s. (s ≡ 0) × Marked work i) (λ s z. (z, e)) (λ s z. z.0) (marks_one 0)))
    (λ e. subst (λ (x : ℕ). Marks x (λ s. (s ≡ 0) × Marked work i)) (sym e) (marks_none (λ s. (s ≡ 0) × Marked work i) (λ s w. omega (arith, w.1))))
    (r.flags i l)

pub down_ready : (A : Shape) (d : Document) (work allowed : List ℕ) → Ready A d work → Downward A d (Marked work) 0 work work allowed
down_ready A d work allowed r = record {
  same_length = refl;
  fits = r.fits;
  placed = λ i l. absurd (omega arith);
  starts = λ i k l. ready_starts A d work r i l;
  allows = λ i l. absurd (omega arith);
  rest = λ q l. refl;
}

module _ (A : Shape) (d : Document) (First : ℕ → Type 0) (va : ValidShape A) where
  pub listed_start : (before : List ℕ) → Listed A d First 0 0 before before
  listed_start before = record {
    answers = [];
    lists = lists_none (λ i. (i < 0) × Started First A d i) (λ i q. omega (arith, q.0));
    count = refl;
    few = omega arith;
    written = refl;
  }

  -- a node that is no answer
  pub listed_skip : (k c : ℕ) (before list : List ℕ) → Listed A d First k c before list → (Started First A d k → ⊥) → Listed A d First (suc k) c before list
  listed_skip k c before list h n = record {
    answers = h.answers;
    lists = lists_iff h.lists (λ i. (
      λ q. (omega (arith, q.0), q.1),
      λ q. below_or_at q.0 (λ l. (l, q.1)) (λ e. absurd (n (subst (Started First A d) e q.1))),
    ));
    count = h.count;
    few = omega (arith, h.few);
    written = h.written;
  }

  -- a node that is one is put at the end of those before it
  pub listed_put : (k c : ℕ) (before list : List ℕ) → Listed A d First k c before list → Started First A d k → c < length before → Listed A d First (suc k)
      (c + 1) before (set list c k)
  listed_put k c before list h a l = record {
    answers = h.answers ++ (k ∷ []);
    lists = lists_iff (lists_more (λ i. (i < k) × Started First A d i) h.answers k h.lists (λ i q. q.0)) (λ i. (
      λ q. ⊎_elim (λ x. (omega (arith, x.0), x.1)) (λ e. (omega arith, subst (Started First A d) (sym e) a)) q,
      λ q. below_or_at q.0 (λ m. inl (m, q.1)) (λ e. inr e),
    ));
    count = omega (arith, h.count, length-append h.answers (k ∷ []));
    few = omega (arith, h.few);
    written = ap (λ x. set x c k) h.written ∙ put_next h.answers before c k (sym h.count) l;
  }

  -- a node's turn in the answer list
  pub listed_noted : (whole output i c r : ℕ) (before list list' : List ℕ) → A.output ≡ output → Marks whole (PlacedAt A d First i) → Noted whole output i c
      list r list' → c < length before
      → Listed A d First i c before list → Listed A d First (i + 1) r before list'
  listed_noted whole output i c r before list list' o m n l h = rw (add-one i) (go (bit_cases whole output))
    where
      go : (bit whole output ≡ 1) ⊎ (bit whole output ≡ 0) → Listed A d First (suc i) r before list'
      go (inl b) = rw ((n.put b).0, (n.put b).1) (listed_put i c before list h
          (subst (λ (s : ℕ). Reaches A (nodes_of d) First s i) (sym o) (m.only output b).1) l)
      go (inr b) =
          let no-bit : bit whole output ≡ 1 → ⊥ = λ e. omega arith in
          rw ((n.skip no-bit).0, (n.skip no-bit).1)
          (listed_skip i c before list h (λ a. no-bit (m.put output (subst (λ (s : ℕ). (s < A.tree.size) × Reaches A (nodes_of d) First s i) o
          (va.output, a)))))

-- a turn puts at most one entry
pub noted_few : (whole output i c r : ℕ) (list list' : List ℕ) → Noted whole output i c list r list' → (r ≤ c + 1) × (length list' ≡ length list)
noted_few whole output i c r list list' n = go (bit_cases whole output)
  where
    go : (bit whole output ≡ 1) ⊎ (bit whole output ≡ 0) → (r ≤ c + 1) × (length list' ≡ length list)
    go (inl b) = (omega (arith, (n.put b).0), ap length (n.put b).1 ∙ length-set list c i)
    go (inr b) = let s = n.skip (λ e. omega arith) in (omega (arith, s.0), ap length s.1)
