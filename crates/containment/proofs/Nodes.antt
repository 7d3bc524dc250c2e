-- Laws of the nodes that a witness writes, and what is known of the witness row by row. Assumes nothing.
use Rattle.tables.proofs.Kit.{ℕ, zero, suc, ◌+◌, ◌≤◌, ◌<◌, ◌≡◌, sym, ap, ◌∙◌, ◌⊎◌, inl, inr, ⊎_elim, arith, eq-or-lt_of_le, dec_lt, ℕ_discrete}
use Rattle.tables.specs.{Tree.{Child, Rows}, Pattern.Shape}
use Rattle.containment.specs.Witness.{descendants, own_node_of, witness_size}

-- every axis is 0 or 1
abbrev pub Axes : Shape → Type 0
Axes A = (s : ℕ) → s < A.tree.size → (A.axis s ≡ 0) ⊎ (A.axis s ≡ 1)

-- W is the witness of A with the fresh label φ. The fresh node of a descendant step s is the i with suc i ≡ own_node_of A s.
pub record Witness (A : Shape) (φ : ℕ) (W : Rows) : Type 0 where
  pub size : W.tree.size ≡ witness_size A
  pub flat : (i : ℕ) → W.axis i ≡ 0
  pub own_label : (s : ℕ) → s < A.tree.size → W.label (own_node_of A s) ≡ A.label s
  pub own_along : (s q : ℕ) → Child A.tree q s → A.axis s ≡ 0 → W.tree.parent (own_node_of A s) ≡ own_node_of A q
  pub own_down : (s : ℕ) → s < A.tree.size → A.axis s ≡ 1 → suc (W.tree.parent (own_node_of A s)) ≡ own_node_of A s
  pub new_label : (s i : ℕ) → s < A.tree.size → A.axis s ≡ 1 → suc i ≡ own_node_of A s → W.label i ≡ φ
  pub new_up : (s q i : ℕ) → Child A.tree q s → A.axis s ≡ 1 → suc i ≡ own_node_of A s → W.tree.parent i ≡ own_node_of A q

-- node i was written for step t: as its own node, or as the fresh node before it
pub data For (A : Shape) (t i : ℕ) : Type 0 where
  own : i ≡ own_node_of A t → For A t i
  new : A.axis t ≡ 1 → suc i ≡ own_node_of A t → For A t i

pub record Kind (A : Shape) (k i : ℕ) : Type 0 where
  pub step : ℕ
  pub small : step < k
  pub what : For A step i

pub kind_to : (A : Shape) (k i : ℕ) → ((s : ℕ) → s < k → (A.axis s ≡ 0) ⊎ (A.axis s ≡ 1)) → i < k + descendants A k → Kind A k i
unfolding descendants own_node_of
kind_to A zero i ax l = absurd (omega arith)
kind_to A (suc k) i ax l =
    go (λ l'. kind_to A k i (λ s m. ax s (omega arith)) l') (dec_lt i (k + descendants A k)) (ax k (omega arith)) (ℕ_discrete i (own_node_of A k))
  where
    go : (i < k + descendants A k → Kind A k i) → Dec (i < k + descendants A k) → (A.axis k ≡ 0) ⊎ (A.axis k ≡ 1) → Dec (i ≡ own_node_of A k) → Kind A (suc k) i
    go r (yes h) a d = record { step = (r h).step; small = omega (arith, (r h).small); what = (r h).what }
    go r (no h) a (yes e) = record { step = k; small = omega arith; what = own e }
    go r (no h) (inl e) (no d) = absurd (d (omega arith))
    go r (no h) (inr e) (no d) = record { step = k; small = omega arith; what = new e (omega arith) }

pub descendants_mono : (A : Shape) (k l : ℕ) → k ≤ l → descendants A k ≤ descendants A l
unfolding descendants
descendants_mono A k zero h = omega (arith, ap (descendants A) (eq_zero h))
  where
    eq_zero : {n : ℕ} → n ≤ 0 → n ≡ 0
    eq_zero h = omega arith
descendants_mono A k (suc l) h = go (λ h'. descendants_mono A k l h') (eq-or-lt_of_le h)
  where
    go : (k ≤ l → descendants A k ≤ descendants A l) → (k ≡ suc l) ⊎ (k < suc l) → descendants A k ≤ descendants A (suc l)
    go r (inl e) = omega (arith, ap (descendants A) e)
    go r (inr g) = omega (arith, r (omega arith))

pub own_mono : (A : Shape) (s t : ℕ) → s < t → own_node_of A s + A.axis t < own_node_of A t
unfolding own_node_of descendants
own_mono A s t h = omega (arith, descendants_mono A (suc s) t h)

pub own_inj : (A : Shape) (s t : ℕ) → own_node_of A s ≡ own_node_of A t → s ≡ t
own_inj A s t e = go (ℕ_discrete s t) (dec_lt s t)
  where
    go : Dec (s ≡ t) → Dec (s < t) → s ≡ t
    go (yes d) l = d
    go (no d) (yes l) = omega (arith, own_mono A s t l)
    go (no d) (no l) = omega (arith, own_mono A t s (omega arith))

-- a fresh node is no step's own
pub own_new : (A : Shape) (s t i : ℕ) → i ≡ own_node_of A s → A.axis t ≡ 1 → suc i ≡ own_node_of A t → ⊥
own_new A s t i e a d = go (ℕ_discrete s t) (dec_lt s t)
  where
    go : Dec (s ≡ t) → Dec (s < t) → ⊥
    go (yes f) l = omega (arith, ap (own_node_of A) f)
    go (no f) (yes l) = omega (arith, own_mono A s t l)
    go (no f) (no l) = omega (arith, own_mono A t s (omega arith))

pub own_zero : (A : Shape) → own_node_of A 0 ≡ A.axis 0
unfolding own_node_of descendants
own_zero A = omega arith

pub own_first : (A : Shape) (t : ℕ) → t ≡ 0 → own_node_of A t ≡ A.axis t
own_first A t z = ap (own_node_of A) z ∙ own_zero A ∙ ap A.axis (sym z)

pub descendants_le : (A : Shape) → Axes A → (k : ℕ) → k ≤ A.tree.size → descendants A k ≤ k
unfolding descendants
descendants_le A ax zero l = omega arith
descendants_le A ax (suc k) l = ⊎_elim (λ e. omega (arith, descendants_le A ax k (omega arith))) (λ e. omega (arith, descendants_le A ax k (omega arith)))
    (ax k l)
