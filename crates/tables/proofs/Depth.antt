-- How deep a row stands, that the rows above one row are told apart by their depth, and that what lies below a row stands in one run after it.
-- Assumes nothing.
use Rattle.tables.proofs.Kit.{ℕ, zero, suc, ◌≤◌, ◌<◌, ◌≡◌, refl, sym, ap, ◌∙◌, subst, ◌⊎◌, inl, inr, ⊎_elim, arith, eq-or-lt_of_le}
use Rattle.tables.specs.Tree.{Tree, Child, Below, child, under, From}
use Rattle.tables.proofs.Trees.{Ordered, parent_lt, below_up, below_parent, below_trans}

-- how many parents lie above i, k at most
unfoldable pub depth_to : Tree → ℕ → ℕ → ℕ
depth_to T zero i = 0
depth_to T (suc k) zero = 0
depth_to T (suc k) (suc i) = suc (depth_to T k (T.parent (suc i)))

unfoldable pub depth : Tree → ℕ → ℕ
depth T i = depth_to T i i

pub depth_zero : (T : Tree) → depth T 0 ≡ 0
unfolding depth depth_to
depth_zero T = refl

module _ {T : Tree} (v : Ordered T) where
  stable : (k l i : ℕ) → i ≤ k → i ≤ l → i < T.size → depth_to T k i ≡ depth_to T l i
  unfolding depth_to
  stable zero zero i a b h = refl
  stable zero (suc l) zero a b h = refl
  stable zero (suc l) (suc i) a b h = absurd (omega arith)
  stable (suc k) zero zero a b h = refl
  stable (suc k) zero (suc i) a b h = absurd (omega arith)
  stable (suc k) (suc l) zero a b h = refl
  stable (suc k) (suc l) (suc i) a b h =
      let p : T.parent (suc i) < suc i = parent_lt v (suc i) (omega arith) h in
      ap suc (stable k l (T.parent (suc i)) (omega arith) (omega arith) (omega arith))

  pub depth_child : (q i : ℕ) → Child T q i → depth T i ≡ suc (depth T q)
  unfolding depth depth_to
  depth_child q zero c = absurd (omega (arith, c.late))
  depth_child q (suc i) c =
      let p : T.parent (suc i) < suc i = parent_lt v (suc i) c.late c.here in
      ap suc (stable i (T.parent (suc i)) (T.parent (suc i)) (omega arith) (omega arith) (omega (arith, c.here)) ∙ ap (λ (x : ℕ). depth_to T x x) c.up)

  pub depth_below : {a i : ℕ} → Below T a i → depth T a < depth T i
  depth_below {a} {i} (child c) = omega (arith, depth_child a i c)
  depth_below {a} {i} (under {m = m} c b) = omega (arith, depth_child m i c, depth_below b)

  pub depth_le : (a i : ℕ) → From T a i → depth T a ≤ depth T i
  depth_le a i w = ⊎_elim (λ e. omega (arith, ap (depth T) e)) (λ b. omega (arith, depth_below b)) w

  -- of two rows above one, one is above the other
  comparable : {a b x : ℕ} → Below T a x → From T b x → From T a b ⊎ From T b a
  comparable {a} {b} {x} (child c) w = ⊎_elim (λ e. inl (inr (subst (Below T a) (sym e) (child c)))) (λ s. inr (below_parent s c)) w
  comparable {a} {b} {x} (under c r) w = ⊎_elim (λ e. inl (inr (subst (Below T a) (sym e) (under c r)))) (λ s. comparable r (below_parent s c)) w

  -- and where they are equally deep they are one
  pub depth_unique : (a b x : ℕ) → From T a x → From T b x → depth T a ≡ depth T b → a ≡ b
  depth_unique a b x (inl e) (inl f) d = e ∙ sym f
  depth_unique a b x (inl e) (inr s) d = absurd (omega (arith, depth_below s, ap (depth T) e))
  depth_unique a b x (inr r) w d = go (comparable r w)
    where
      side : {a b : ℕ} → depth T a ≡ depth T b → From T a b → a ≡ b
      side d (inl e) = e
      side d (inr s) = absurd (omega (arith, depth_below s))

      go : From T a b ⊎ From T b a → a ≡ b
      go (inl g) = side d g
      go (inr g) = sym (side (sym d) g)

  -- what is below c stands in one run after c
  run_to : (c i w : ℕ) → Below T c i → c < w → w ≤ i → Below T c w
  run_to c zero w b l m = absurd (omega arith)
  run_to c (suc i) w b l m = ⊎_elim (λ e. subst (Below T c) (sym e) b) (λ n. ⊎_elim (λ e. absurd (omega arith)) (λ d. run_to c i w d l (omega arith)) prev)
      (eq-or-lt_of_le m)
    where
      prev : From T c i
      prev = ⊎_elim (λ e. subst (From T c) e (below_up b).1) (λ d. ⊎_elim (λ e. inr (subst (λ (x : ℕ). Below T x i) (sym e) d)) (λ r. inr (below_trans r d))
          (below_up b).1) (v.order i (below_up b).0.here)

  pub run : (c i w : ℕ) → From T c i → c ≤ w → w ≤ i → From T c w
  run c i w f l m = ⊎_elim (λ e. inl e) (λ n. ⊎_elim (λ e. absurd (omega arith)) (λ b. inr (run_to c i w b n m)) f) (eq-or-lt_of_le l)
