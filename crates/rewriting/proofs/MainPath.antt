-- The main path has a step for each depth down to the output's, and every step from which the output can be reached is one of them. Assumes nothing.
use Rattle.tables.proofs.Kit.{ℕ, zero, suc, ◌-◌, ◌≤◌, ◌<◌, ◌≡◌, refl, sym, ap, ◌∙◌, subst, inl, inr}
use Rattle.tables.proofs.Kit.{[], ◌∷◌, ◌++◌, arith, length, get_or, length-append, get_or-append, get_or-append-add}
use Rattle.tables.specs.{Tree.{Tree, Child, From}, Pattern.{Shape, ValidShape}}
use Rattle.tables.proofs.{Choice.below_or_at, Trees.{Ordered, parent_lt, from_child}}
use Rattle.tables.proofs.{Depth.{depth, depth_zero, depth_child, depth_le, depth_unique}, Rules.shape_ordered}
use Rattle.rewriting.specs.Candidate.{path_to, main_path, cut_step}

module _ {T : Tree} (v : Ordered T) where
  path_length_to : (k s : ℕ) → s < k → s < T.size → length (path_to T k s) ≡ suc (depth T s)
  unfolding path_to
  path_length_to zero s l h = absurd (omega arith)
  path_length_to (suc k) zero l h = ap suc (sym (depth_zero T))
  path_length_to (suc k) (suc s) l h =
      let q : ℕ = T.parent (suc s) in
      let c : Child T q (suc s) = record { late = omega arith; here = h; up = refl } in
      let d : q < suc s = parent_lt v (suc s) (omega arith) h in
      length-append (path_to T k q) (suc s ∷ []) ∙ omega (arith, path_length_to k q (omega arith) (omega arith), depth_child v q (suc s) c)

  -- entry n of the path is above its end, and stands at depth n
  path_at_to : (k s : ℕ) → s < k → s < T.size → (n : ℕ) → n < suc (depth T s) → From T (get_or (path_to T k s) n 0) s
      × (depth T (get_or (path_to T k s) n 0) ≡ n)
  unfolding path_to
  path_at_to zero s l h n m = absurd (omega arith)
  path_at_to (suc k) zero l h n m =
      let z : n ≡ 0 = omega (arith, depth_zero T) in
      subst (λ (x : ℕ). From T (get_or (0 ∷ []) x 0) 0 × (depth T (get_or (0 ∷ []) x 0) ≡ x)) (sym z) (inl refl, depth_zero T)
  path_at_to (suc k) (suc s) l h n m =
      let q : ℕ = T.parent (suc s) in
      let c : Child T q (suc s) = record { late = omega arith; here = h; up = refl } in
      let d : q < suc s = parent_lt v (suc s) (omega arith) h in
      let e : depth T (suc s) ≡ suc (depth T q) = depth_child v q (suc s) c in
      let long : length (path_to T k q) ≡ suc (depth T q) = path_length_to k q (omega arith) (omega arith) in
      below_or_at {u = n} {k = suc (depth T q)} (omega arith)
      (λ g.
      let r = path_at_to k q (omega arith) (omega arith) n g in
      subst (λ (x : ℕ). From T x (suc s) × (depth T x ≡ n)) (sym (get_or-append (path_to T k q) (suc s ∷ []) 0 n (omega arith)))
      (inr (from_child r.0 c), r.1))
      (λ z.
      subst (λ (x : ℕ). From T x (suc s) × (depth T x ≡ n))
      (sym (ap (λ i. get_or (path_to T k q ++ (suc s ∷ [])) i 0) (omega arith) ∙ get_or-append-add (path_to T k q) (suc s ∷ []) 0 0))
      (inl refl, omega arith))

-- how long the main path is
pub main_length_lem : {A : Shape} → ValidShape A → length (main_path A) ≡ suc (depth A.tree A.output)
unfolding main_path
main_length_lem {A} v = path_length_to (shape_ordered v) (suc A.output) A.output (omega arith) v.output

-- the step at or above the output that stands at depth n is entry n of the main path
pub main_at : {A : Shape} → ValidShape A → (c n : ℕ) → From A.tree c A.output → depth A.tree c ≡ n → c ≡ get_or (main_path A) n 0
unfolding main_path
main_at {A} v c n w e =
    let o = shape_ordered v in
    let r = path_at_to o (suc A.output) A.output (omega arith) v.output n (omega (arith, depth_le o c A.output w)) in
    depth_unique o c (get_or (main_path A) n 0) A.output w r.0 (e ∙ sym r.1)

-- where the query's main path is long enough, the cut step is on it, as deep as the view's output
pub cut_on_path : {Q U : Shape} → ValidShape Q → ValidShape U → length (main_path U) ≤ length (main_path Q)
    → From Q.tree (cut_step Q U) Q.output × (depth Q.tree (cut_step Q U) ≡ depth U.tree U.output)
unfolding main_path cut_step
cut_on_path {Q} {U} vq vu l =
    let r = path_at_to (shape_ordered vq) (suc Q.output) Q.output (omega arith) vq.output (length (main_path U) - 1)
    (omega (arith, main_length_lem vq, main_length_lem vu)) in
    (r.0, r.1 ∙ omega (arith, main_length_lem vu))

-- and it is the only such step
pub cut_step_is : {Q U : Shape} → ValidShape Q → ValidShape U → (c : ℕ) → From Q.tree c Q.output → depth Q.tree c ≡ depth U.tree U.output
    → (length (main_path U) ≤ length (main_path Q)) × (cut_step Q U ≡ c)
cut_step_is {Q} {U} vq vu c w e = (long, depth_unique (shape_ordered vq) (cut_step Q U) c Q.output r.0 w (r.1 ∙ sym e))
  where
    long : length (main_path U) ≤ length (main_path Q)
    long = omega (arith, main_length_lem vq, main_length_lem vu, depth_le (shape_ordered vq) c Q.output w)

    r : From Q.tree (cut_step Q U) Q.output × (depth Q.tree (cut_step Q U) ≡ depth U.tree U.output)
    r = cut_on_path vq vu long
