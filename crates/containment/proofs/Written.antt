-- The witness as it is written, step by step, has the rows that the theory asks for. Assumes nothing.
use Rattle.tables.proofs.Kit.{ℕ, zero, suc, ◌+◌, ◌≤◌, ◌<◌, ◌≡◌, refl, sym, ap, ◌∙◌, ◌⊎◌, inl, inr, List, [], ◌∷◌, arith, length, get_or, length-append}
use Rattle.tables.specs.{Tree.Child, Column.blocks, Document.nodes_of, Pattern.Shape}
use Rattle.tables.proofs.Columns.{blocks_at}
use Rattle.containment.specs.Witness.{descendants, own_node_of, hook, by_axis, parents_for, labels_for, witness_of}
use Rattle.containment.proofs.Nodes.{Axes, Witness}

-- blocks of 1 + axis entries
Blocks : Shape → (ℕ → List ℕ) → Type 0
Blocks A b = (s : ℕ) → s < A.tree.size → length (b s) ≡ suc (A.axis s)

widths_length : (A : Shape) (b : ℕ → List ℕ) → Blocks A b → (k : ℕ) → k ≤ A.tree.size → length (blocks b k) ≡ k + descendants A k
unfolding blocks descendants Blocks
widths_length A b h zero l = refl
widths_length A b h (suc k) l = omega (arith, length-append (blocks b k) (b k), widths_length A b h k (omega arith), h k (omega arith))

-- a step's own row is its block's last, and its fresh row the first
own_row : (A : Shape) (b : ℕ → List ℕ) → Blocks A b → (s : ℕ) → s < A.tree.size → get_or (blocks b A.tree.size) (own_node_of A s) 0 ≡ get_or (b s) (A.axis s) 0
unfolding Blocks own_node_of descendants
own_row A b h s l =
    ap (λ i. get_or (blocks b A.tree.size) i 0) (omega (arith, widths_length A b h s (omega arith)))
    ∙ blocks_at b A.tree.size s (A.axis s) l (omega (arith, h s l))

new_row : (A : Shape) (b : ℕ → List ℕ) → Blocks A b → (s i : ℕ) → s < A.tree.size → A.axis s ≡ 1 → suc i ≡ own_node_of A s → get_or (blocks b A.tree.size) i
    0 ≡ get_or (b s) 0 0
unfolding Blocks own_node_of descendants
new_row A b h s i l a e =
    ap (λ i. get_or (blocks b A.tree.size) i 0) (omega (arith, widths_length A b h s (omega arith)))
    ∙ blocks_at b A.tree.size s 0 l (omega (arith, h s l))

by_axis_length : (a u v z : ℕ) → (a ≡ 0) ⊎ (a ≡ 1) → length (by_axis a (z ∷ []) (u ∷ v ∷ [])) ≡ suc a
by_axis_length a u v z (inl e) = rw e
by_axis_length a u v z (inr e) = rw e

hook_late : (A : Shape) (s q : ℕ) → Child A.tree q s → hook A s ≡ own_node_of A q
unfolding hook
hook_late A zero q c = absurd (omega (arith, c.late))
hook_late A (suc s) q c = ap (own_node_of A) c.up

parents_widths : (A : Shape) → Axes A → Blocks A (parents_for A)
unfolding Blocks parents_for
parents_widths A ax s l = by_axis_length (A.axis s) _ _ _ (ax s l)

labels_widths : (A : Shape) (φ : ℕ) → Axes A → Blocks A (labels_for A φ)
unfolding Blocks labels_for
labels_widths A φ ax s l = by_axis_length (A.axis s) _ _ _ (ax s l)

-- how many entries the first k steps write
pub parents_length : (A : Shape) → Axes A → (k : ℕ) → k ≤ A.tree.size → length (blocks (parents_for A) k) ≡ k + descendants A k
parents_length A ax = widths_length A (parents_for A) (parents_widths A ax)

pub labels_length : (A : Shape) (φ : ℕ) → Axes A → (k : ℕ) → k ≤ A.tree.size → length (blocks (labels_for A φ) k) ≡ k + descendants A k
labels_length A φ ax = widths_length A (labels_for A φ) (labels_widths A φ ax)

-- the witness has a label for each node, and node 0 has the mark for its parent
pub witness_equal : (A : Shape) (φ : ℕ) → Axes A → length (witness_of A φ).labels ≡ length (witness_of A φ).parents
unfolding witness_of
witness_equal A φ ax =
    widths_length A (labels_for A φ) (labels_widths A φ ax) A.tree.size (omega arith)
    ∙ sym (widths_length A (parents_for A) (parents_widths A ax) A.tree.size (omega arith))

pub witness_root : (A : Shape) (φ : ℕ) → Axes A → 0 < A.tree.size → get_or (witness_of A φ).parents 0 0 ≡ 65535
unfolding witness_of blocks Blocks hook parents_for
witness_root A φ ax h =
    ap (λ i. get_or (blocks (parents_for A) A.tree.size) i 0) (omega arith)
    ∙ blocks_at (parents_for A) A.tree.size 0 0 h (omega (arith, parents_widths A ax 0 h))
    ∙ first (A.axis 0)
  where
    first : (a : ℕ) → get_or (by_axis a (hook A 0 ∷ []) (hook A 0 ∷ (0 + descendants A 0) ∷ [])) 0 0 ≡ 65535
    first zero = refl
    first (suc a) = refl

pub witness_is : (A : Shape) (φ : ℕ) → Axes A → Witness A φ (nodes_of (witness_of A φ))
unfolding witness_of parents_for labels_for Blocks own_node_of descendants
witness_is A φ ax = record {
  size = widths_length A (parents_for A) pb A.tree.size (omega arith);
  flat = λ i. refl;
  own_label = λ s l. own_row A (labels_for A φ) lb s l ∙ label s (ax s l);
  own_along = λ s q c e. own_row A (parents_for A) pb s c.here ∙ rw e (hook_late A s q c);
  own_down = λ s l e. ap suc (own_row A (parents_for A) pb s l ∙ rw e) ∙ under s e;
  new_label = λ s i l e d. new_row A (labels_for A φ) lb s i l e d ∙ rw e;
  new_up = λ s q i c e d. new_row A (parents_for A) pb s i c.here e d ∙ rw e (hook_late A s q c);
}
  where
    pb : Blocks A (parents_for A)
    pb = parents_widths A ax

    lb : Blocks A (labels_for A φ)
    lb = labels_widths A φ ax

    label : (s : ℕ) → (A.axis s ≡ 0) ⊎ (A.axis s ≡ 1) → get_or (labels_for A φ s) (A.axis s) 0 ≡ A.label s
    label s (inl e) = rw e
    label s (inr e) = rw e

    under : (s : ℕ) → A.axis s ≡ 1 → suc (s + descendants A s) ≡ own_node_of A s
    under s e = omega arith
