-- Two patterns that obey the rules leave a label of 1 to 129 free; the smallest is found by a test that runs, and no second fits. Assumes nothing.
use Rattle.tables.proofs.Kit.{ℕ, ◌+◌, ◌-◌, ◌≤◌, ◌<◌, ◌≡◌, ap, ◌∙◌, ◌⊎◌, inl, inr, ⊎_elim, Bool, true, false, not, ◌||◌, arith, dec_lt, T, eqb}
use Rattle.tables.specs.Pattern.{Shape, ValidShape}
use Rattle.tables.proofs.{Choice.{sel, sel_yes, sel_no}, Tests.{Tells, tells_eq, tells_or, tells_iff, tells_not, some, tells_some}}
use Rattle.placing.proofs.Least.{first_from, first_from_lem, first_from_start}
use Rattle.containment.specs.Witness.{Stands, Fresh}
use Rattle.containment.proofs.Free.{Free, free}

-- the test for a label that stands at a step
unfoldable pub stands_in : Shape → ℕ → Bool
stands_in A l = some A.tree.size (λ s. eqb (A.label s) l)

pub tells_stands : (A : Shape) (l : ℕ) → Tells (stands_in A l) (Stands A l)
unfolding stands_in
tells_stands A l = tells_iff (tells_some (λ s. tells_eq (A.label s) l) A.tree.size)
    (λ q. record { step = q.0; here = q.1; is = q.2 }, λ h. (h.step, h.here, h.is))

unfoldable pub is_free : Shape → Shape → ℕ → Bool
is_free A B l = not (stands_in A l || stands_in B l)

tells_free : (A B : Shape) (l : ℕ) → Tells (is_free A B l) ((Stands A l ⊎ Stands B l) → ⊥)
unfolding is_free
tells_free A B l = tells_not (tells_or (tells_stands A l) (tells_stands B l))

-- a label that is not free stands at a step
used : (A B : Shape) (l : ℕ) → (T (is_free A B l) → ⊥) → Stands A l ⊎ Stands B l
unfolding is_free
used A B l h = go (stands_in A l || stands_in B l) (tells_or (tells_stands A l) (tells_stands B l)) h
  where
    go : (b : Bool) → Tells b (Stands A l ⊎ Stands B l) → (T (not b) → ⊥) → Stands A l ⊎ Stands B l
    go true t n = t.says tt
    go false t n = absurd (n tt)

-- the smallest free label of 1 to 129
unfoldable pub fresh_label : Shape → Shape → ℕ
fresh_label A B = first_from 129 1 (is_free A B)

module _ (A B : Shape) (va : ValidShape A) (vb : ValidShape B) where
  -- the labels of both patterns in one list
  both : ℕ → ℕ
  both s = sel (dec_lt s A.tree.size) (A.label s) (B.label (s - A.tree.size))

  some_free : Free (A.tree.size + B.tree.size) both
  some_free = free (A.tree.size + B.tree.size) both

  free_there : T (is_free A B some_free.label)
  unfolding both
  free_there = (tells_free A B some_free.label).test (λ w. ⊎_elim
      (λ h. some_free.unused h.step (omega (arith, h.here)) (sel_yes (dec_lt h.step A.tree.size) _ _ h.here ∙ h.is))
      (λ h. some_free.unused (A.tree.size + h.step) (omega (arith, h.here))
      (sel_no (dec_lt (A.tree.size + h.step) A.tree.size) _ _ (omega arith) ∙ ap B.label (omega arith) ∙ h.is))
      w)

  search : (j : ℕ) → 1 ≤ j → j ≤ 129 → T (is_free A B j) → T (is_free A B (fresh_label A B)) × (fresh_label A B ≤ j)
  unfolding fresh_label
  search j l m t = first_from_lem (is_free A B) 129 1 j l (omega arith) t

  found : T (is_free A B (fresh_label A B)) × (fresh_label A B ≤ some_free.label)
  found = search some_free.label some_free.from (omega (arith, some_free.to, va.few, vb.few)) free_there

  -- any two patterns leave a label of 1 to 129 free
  pub fresh_label_most : fresh_label A B ≤ 129
  fresh_label_most = omega (arith, found.1, some_free.to, va.few, vb.few)

  fresh_label_least : 1 ≤ fresh_label A B
  unfolding fresh_label
  fresh_label_least = first_from_start (is_free A B) 129 1

  pub fresh_label_lem : Fresh A B (fresh_label A B)
  fresh_label_lem =
      let f : (Stands A (fresh_label A B) ⊎ Stands B (fresh_label A B)) → ⊥ = (tells_free A B (fresh_label A B)).says found.0 in
      record {
        label = record { least = fresh_label_least; most = omega (arith, fresh_label_most) };
        not_first = λ h. f (inl h);
        not_second = λ h. f (inr h);
        least = λ k l m. used A B k (λ t. omega (arith, (search k l (omega (arith, fresh_label_most)) t).1));
      }

-- no second label fits
pub fresh_unique : {A B : Shape} {l k : ℕ} → Fresh A B l → Fresh A B k → l ≡ k
fresh_unique {A} {B} {l} {k} f g = go (dec_lt l k) (dec_lt k l)
  where
    go : Dec (l < k) → Dec (k < l) → l ≡ k
    go (yes h) d = absurd (⊎_elim f.not_first f.not_second (g.least l f.label.least h))
    go (no h) (yes d) = absurd (⊎_elim g.not_first g.not_second (f.least k g.label.least d))
    go (no h) (no d) = omega arith
