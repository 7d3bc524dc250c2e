-- Shapes that agree on their steps: containment, mappings and witnesses, joins, and candidates for rewriting are the same. Assumes nothing.
use Rattle.tables.proofs.Kit.{ℕ, zero, suc, ◌+◌, ◌-◌, ◌≤◌, ◌<◌, ◌≡◌, refl, sym, ap, ap₂, ◌∙◌, subst}
use Rattle.tables.proofs.Kit.{inl, inr, ⊎_elim, [], ◌∷◌, ◌++◌, arith, dec_lt, length, get_or}
use Rattle.tables.specs.{Column.blocks, Document.document_of, Pattern.{Shape, shape_of, ValidShape, ValidPattern}, declared.Pattern.Pattern}
use Rattle.tables.proofs.{Trees.{parent_lt, from_here}, Columns.blocks_ext, Rules.{Agree, agree_sym, pattern_of_agree, shape_ordered}}
use Rattle.placing.specs.Smallest.{NoLater}
use Rattle.containment.specs.Mapping.{Maps, LeastMap, Contained}
use Rattle.containment.specs.Witness.{Stands, Fresh, descendants, own_node_of, witness_size, hook, parents_for, labels_for, witness_of, answer_node}
use Rattle.joining.specs.Join.{renumber, by_part, added, join_shape, join_of}
use Rattle.joining.proofs.Parts.{part_front, part_middle, part_rest}
use Rattle.rewriting.specs.Candidate.{path_to, main_path, cut_step, Cut, Candidate}
use Rattle.promises.specs.SameSteps.{SameSteps}
use Rattle.promises.proofs.Agreeing.{same_agree, from_alike, sends_into, sends_alike, answer_alike}

module _ {A A' B B' : Shape} (e : Agree A A') (f : Agree B B') (a : 0 < A.tree.size) (b : 0 < B.tree.size) where
  -- containment
  pub contained_alike : Contained A B → Contained A' B'
  contained_alike h d v i x = answer_alike f b d i (h d v i (answer_alike (agree_sym e) (omega (arith, e.size)) d i x))

  -- mappings
  pub maps_alike : (m : ℕ → ℕ) → Maps B A m → Maps B' A' m
  maps_alike m h = record {
    sends = sends_alike f (sends_into e h.sends);
    first = λ z. let w = h.first (f.axis 0 b ∙ z) in (w.0, sym (e.axis 0 a) ∙ w.1);
    output = ap m (sym f.output) ∙ h.output ∙ e.output;
  }

-- labels that stand
stands_alike : {A A' : Shape} → Agree A A' → {l : ℕ} → Stands A l → Stands A' l
stands_alike e h = record { step = h.step; here = omega (arith, e.size, h.here); is = sym (e.label h.step h.here) ∙ h.is }

module _ {A A' B B' : Shape} (e : Agree A A') (f : Agree B B') (a : 0 < A.tree.size) (b : 0 < B.tree.size) where
  -- the smallest mapping
  pub least_alike : (m : ℕ → ℕ) → LeastMap B A m → LeastMap B' A' m
  least_alike m h = record {
    maps = maps_alike e f a b m h.maps;
    least = λ n k. subst (NoLater m n) f.size (h.least n (maps_alike (agree_sym e) (agree_sym f) (omega (arith, e.size)) (omega (arith, f.size)) n k));
  }

-- the fresh label
pub fresh_alike : {A A' B B' : Shape} → Agree A A' → Agree B B' → (l : ℕ) → Fresh A B l → Fresh A' B' l
fresh_alike e f l h = record {
  label = h.label;
  not_first = λ s. h.not_first (stands_alike (agree_sym e) s);
  not_second = λ s. h.not_second (stands_alike (agree_sym f) s);
  least = λ k m n. ⊎_elim (λ s. inl (stands_alike e s)) (λ s. inr (stands_alike f s)) (h.least k m n);
}

module _ {A B : Shape} (e : Agree A B) where
  -- how many descendant steps there are among the first k
  descendants_alike : (k : ℕ) → k ≤ A.tree.size → descendants A k ≡ descendants B k
  unfolding descendants
  descendants_alike zero l = refl
  descendants_alike (suc k) l = ap₂ (λ x y. x + y) (descendants_alike k (omega arith)) (e.axis k (omega arith))

  -- how many nodes the witness has
  pub size_alike : witness_size A ≡ witness_size B
  size_alike = ap₂ (λ x y. x + y) e.size (descendants_alike A.tree.size (omega arith) ∙ ap (descendants B) e.size)

  -- the node of a step
  own_alike : (s : ℕ) → s < A.tree.size → own_node_of A s ≡ own_node_of B s
  unfolding own_node_of
  own_alike s l = ap (λ x. s + x) (descendants_alike (suc s) (omega arith))

  module _ (v : ValidShape A) where
    -- the answer node
    pub node_alike : answer_node A ≡ answer_node B
    node_alike = own_alike A.output v.output ∙ ap (own_node_of B) e.output

    -- the parent of the first node written for a step
    hook_alike : (s : ℕ) → s < A.tree.size → hook A s ≡ hook B s
    unfolding hook
    hook_alike zero l = refl
    hook_alike (suc s) l =
        own_alike (A.tree.parent (suc s)) (omega (arith, parent_lt (shape_ordered v) (suc s) (omega arith) l)) ∙ ap (own_node_of B) (e.parent (suc s) l)

    -- the witness
    pub witness_alike : (l : ℕ) → witness_of A l ≡ witness_of B l
    unfolding witness_of parents_for labels_for
    witness_alike l = ap₂ document_of (blocks_ext (parents_for A) (parents_for B) A.tree.size
        (λ s k. cc (e.axis s k, hook_alike s k, descendants_alike s (omega arith))) ∙ ap (blocks (parents_for B)) e.size)
        (blocks_ext (labels_for A l) (labels_for B l) A.tree.size (λ s k. cc (e.axis s k, e.label s k)) ∙ ap (blocks (labels_for B l)) e.size)

-- a choice by the part of the join
part_alike : (o a u x y z x' y' z' : ℕ) → (u ≤ o → x ≡ x') → (o < u → u ≤ o + a → y ≡ y') → (o + a < u → z ≡ z') → by_part o a u x y z ≡ by_part o a u x' y' z'
part_alike o a u x y z x' y' z' f g h = go (dec_lt o u) (dec_lt (o + a) u)
  where
    go : Dec (o < u) → Dec (o + a < u) → by_part o a u x y z ≡ by_part o a u x' y' z'
    go (no k) m = part_front o a u x y z (omega arith) ∙ f (omega arith) ∙ sym (part_front o a u x' y' z' (omega arith))
    go (yes k) (no m) = part_middle o a u x y z k (omega arith) ∙ g k (omega arith) ∙ sym (part_middle o a u x' y' z' k (omega arith))
    go (yes k) (yes m) = part_rest o a u x y z m ∙ h m ∙ sym (part_rest o a u x' y' z' m)

-- the join
module _ {U U' E E' : Shape} (e : Agree U U') (f : Agree E E') (u : ValidShape U) (v : ValidShape E) where
  join_agree : Agree (join_shape U E) (join_shape U' E')
  unfolding join_shape
  join_agree =
      let o = e.output in let a : added E ≡ added E' = ap (λ n. n - 1) f.size in
      record {
        size = ap₂ (λ m n. m + n) e.size a;
        output = ap₂ (λ m n. m + n) o f.output;
        parent = λ s l. part_alike U.output (added E) s _ _ _ _ _ _ (λ k. e.parent s (omega (arith, u.output)))
            (λ k m. ap (λ x. U.output + x) (f.parent (s - U.output) (omega (arith, v.some))))
            (λ k. ap (renumber U.output (added E)) (e.parent (s - added E) (omega arith)))
            ∙ ap₂ (λ x y. by_part x y s (U'.tree.parent s) (x + E'.tree.parent (s - x)) (renumber x y (U'.tree.parent (s - y)))) o a;
        axis = λ s l. part_alike U.output (added E) s _ _ _ _ _ _ (λ k. e.axis s (omega (arith, u.output)))
            (λ k m. f.axis (s - U.output) (omega (arith, v.some))) (λ k. e.axis (s - added E) (omega arith))
            ∙ ap₂ (λ x y. by_part x y s (U'.axis s) (E'.axis (s - x)) (U'.axis (s - y))) o a;
        label = λ s l. part_alike U.output (added E) s _ _ _ _ _ _ (λ k. e.label s (omega (arith, u.output)))
            (λ k m. f.label (s - U.output) (omega (arith, v.some))) (λ k. e.label (s - added E) (omega arith))
            ∙ ap₂ (λ x y. by_part x y s (U'.label s) (E'.label (s - x)) (U'.label (s - y))) o a;
      }

pub join_alike : {U U' E E' : Pattern} → SameSteps U U' → SameSteps E E' → ValidPattern U → ValidPattern E → join_of U E ≡ join_of U' E'
unfolding join_of
join_alike e f u v = pattern_of_agree (join_agree (same_agree e) (same_agree f) u v)

module _ {A B : Shape} (e : Agree A B) (v : ValidShape A) where
  -- the path to a step
  path_alike : (k s : ℕ) → s < A.tree.size → path_to A.tree k s ≡ path_to B.tree k s
  unfolding path_to
  path_alike zero s l = refl
  path_alike (suc k) zero l = refl
  path_alike (suc k) (suc s) l =
      let p = A.tree.parent (suc s) in
      ap (λ xs. xs ++ (suc s ∷ []))
      (path_alike k p (omega (arith, parent_lt (shape_ordered v) (suc s) (omega arith) l)) ∙ ap (path_to B.tree k) (e.parent (suc s) l))

  -- the main path
  pub main_alike : main_path A ≡ main_path B
  unfolding main_path
  main_alike = path_alike (suc A.output) A.output v.output ∙ ap (λ o. path_to B.tree (suc o) o) e.output

  -- a cut, of a step before the output step
  pub cut_alike : (c : ℕ) (C : Shape) → Cut A c C → Cut B c C
  cut_alike c C h =
      let here : (t : ℕ) → t < C.tree.size → c + t < A.tree.size = λ t l. from_here (omega (arith, v.output, h.output)) (h.only t l) in
      record {
        all = λ u k. h.all u (from_alike (agree_sym e) k);
        only = λ t l. from_alike e (h.only t l);
        label = λ t l. sym (e.label (c + t) (here t l)) ∙ h.label t l;
        axis = λ t k l. sym (e.axis (c + t) (here t l)) ∙ h.axis t k l;
        parent = λ t k l. sym (e.parent (c + t) (here t l)) ∙ h.parent t k l;
        first_axis = h.first_axis;
        root = h.root;
        output = sym e.output ∙ h.output;
      }

-- the candidate
pub candidate_alike : {Q Q' U U' : Pattern} → SameSteps Q Q' → SameSteps U U' → ValidPattern Q → ValidPattern U → (E : Pattern) → Candidate Q U E
    → Candidate Q' U' E
unfolding cut_step
candidate_alike {Q} {Q'} {U} {U'} same-q same-u q u E h =
    let e = same_agree same-q in let f = same_agree same-u in let p = main_alike e q in let r = main_alike f u in
    let c : cut_step (shape_of Q) (shape_of U) ≡ cut_step (shape_of Q') (shape_of U') = ap₂ (λ xs ys. get_or xs (length ys - 1) 0) p r in
    let o = f.output in
    record {
      long = subst (λ (x : ℕ). x ≤ length (main_path (shape_of Q'))) (ap length r)
          (subst (λ (x : ℕ). length (main_path (shape_of U)) ≤ x) (ap length p) h.long);
      same = ap (shape_of U').label (sym o) ∙ sym (f.label (shape_of U).output u.output) ∙ h.same
          ∙ e.label (cut_step (shape_of Q) (shape_of U)) (omega (arith, q.output, h.cut.output)) ∙ ap (shape_of Q').label c;
      shape = h.shape;
      cut = subst (λ (x : ℕ). Cut (shape_of Q') x h.shape) c (cut_alike e q (cut_step (shape_of Q) (shape_of U)) h.shape h.cut);
      table = h.table;
    }
