-- Laws of trees in document order: parents come first, what lies below a row comes after it. Assumes nothing.
use Rattle.tables.proofs.Kit.{ℕ, zero, suc, ◌≤◌, ◌<◌, ◌≡◌, refl, sym, ◌∙◌, subst}
use Rattle.tables.proofs.Kit.{inl, inr, ⊎_elim, arith, eq-zero-or-pos, dec_lt, ℕ_discrete, map_dec}
use Rattle.tables.specs.Tree.{Tree, Child, Below, child, under, From}

pub below_trans : {T : Tree} {a m i : ℕ} → Below T a m → Below T m i → Below T a i
below_trans h (child c) = under c h
below_trans h (under c b) = under c (below_trans h b)

-- there is a row, and every row after the first hangs right
pub record Ordered (T : Tree) : Type 0 where
  pub some : 0 < T.size
  pub order : (i : ℕ) → suc i < T.size → From T (T.parent (suc i)) i

-- what lies below a lies past it, where parents go down up to i
pub below_lt_to : {T : Tree} {a i : ℕ} → ((j : ℕ) → j ≤ i → 0 < j → j < T.size → T.parent j < j) → Below T a i → a < i
below_lt_to {T} {a} {i} h (child c) = omega (arith, h i (omega arith) c.late c.here, c.up)
below_lt_to {T} {a} {i} h (under {m = m} c b) =
    let g : m < i = omega (arith, h i (omega arith) c.late c.here, c.up) in
    let r : a < m = below_lt_to (λ j l. h j (omega arith)) b in
    omega arith

-- a row that hangs right, and with it every row before it, has a parent before it
pub parent_lt_to : {T : Tree} (k : ℕ) → ((j : ℕ) → j < k → suc j < T.size → From T (T.parent (suc j)) j) → (i : ℕ) → i ≤ k → 0 < i → i < T.size → T.parent
    i < i
parent_lt_to zero v i l p s = omega arith
parent_lt_to (suc k) v zero l p s = omega arith
parent_lt_to (suc k) v (suc i) l p s = ⊎_elim (λ e. omega arith)
    (λ b. omega (arith, below_lt_to (λ j m. parent_lt_to k (λ x h. v x (omega arith)) j (omega arith)) b))
    (v i (omega arith) s)

pub parent_lt : {T : Tree} → Ordered T → (i : ℕ) → 0 < i → i < T.size → T.parent i < i
parent_lt v i = parent_lt_to i (λ j l. v.order j) i (omega arith)

pub below_lt : {T : Tree} {a i : ℕ} → Ordered T → Below T a i → a < i
below_lt v b = below_lt_to (λ j l. parent_lt v j) b

pub from_child : {T : Tree} {s q u : ℕ} → From T s q → Child T q u → Below T s u
from_child {T} {s} {q} {u} (inl e) c = child (record { late = c.late; here = c.here; up = c.up ∙ sym e })
from_child (inr b) c = under c b

-- what is below s hangs on what is s or below it
pub below_up : {T : Tree} {s u : ℕ} → Below T s u → Child T (T.parent u) u × From T s (T.parent u)
below_up (child c) = (record { late = c.late; here = c.here; up = refl }, inl (sym c.up))
below_up {T} {s} {u} (under {m = m} c b) = (record { late = c.late; here = c.here; up = refl }, inr (subst (Below T s) (sym c.up) b))

pub below_parent : {T : Tree} {s q u : ℕ} → Below T s u → Child T q u → From T s q
below_parent {T} {s} {q} {u} b c = subst (From T s) c.up (below_up b).1

pub below_here : {T : Tree} {s u : ℕ} → Below T s u → u < T.size
below_here b = (below_up b).0.here

-- every row but the first is below the first
root_to : {T : Tree} → Ordered T → (k i : ℕ) → i ≤ k → 0 < i → i < T.size → Below T 0 i
root_to v zero i l p h = absurd (omega arith)
root_to {T} v (suc k) i l p h =
    let c : Child T (T.parent i) i = record { late = p; here = h; up = refl } in
    let g : T.parent i < i = parent_lt v i p h in
    ⊎_elim (λ e. child (record { late = p; here = h; up = e })) (λ q. under c (root_to v k (T.parent i) (omega arith) q (omega arith)))
    (eq-zero-or-pos (T.parent i))

pub below_root : {T : Tree} → Ordered T → (i : ℕ) → 0 < i → i < T.size → Below T 0 i
below_root v i = root_to v i i (omega arith)

-- a test for "below", by climbing
dec_to : {T : Tree} → Ordered T → (k s u : ℕ) → u ≤ k → Dec (Below T s u)
dec_to v zero s u l = no (λ b. omega (arith, below_lt v b))
dec_to {T} v (suc k) s u l = go (λ p h. dec_to v k s (T.parent u) (omega (arith, parent_lt v u p h))) (dec_lt 0 u) (dec_lt u T.size)
    (ℕ_discrete (T.parent u) s)
  where
    go : (0 < u → u < T.size → Dec (Below T s (T.parent u))) → Dec (0 < u) → Dec (u < T.size) → Dec (T.parent u ≡ s) → Dec (Below T s u)
    go r (no p) h e = no (λ b. p (below_up b).0.late)
    go r (yes p) (no h) e = no (λ b. h (below_here b))
    go r (yes p) (yes h) (yes e) = yes (child (record { late = p; here = h; up = e }))
    go r (yes p) (yes h) (no e) = map_dec (under (record { late = p; here = h; up = refl })) (λ b. ⊎_elim (λ f. absurd (e (sym f))) (λ d. d) (below_up b).1)
        (r p h)

pub dec_below : {T : Tree} → Ordered T → (s u : ℕ) → Dec (Below T s u)
dec_below v s u = dec_to v u s u (omega arith)

pub dec_from : {T : Tree} → Ordered T → (s u : ℕ) → Dec (From T s u)
dec_from {T} v s u = go (ℕ_discrete s u) (dec_below v s u)
  where
    go : Dec (s ≡ u) → Dec (Below T s u) → Dec (From T s u)
    go (yes e) d = yes (inl e)
    go (no e) (yes b) = yes (inr b)
    go (no e) (no b) = no (λ w. ⊎_elim e b w)

pub from_trans : {T : Tree} {a b i : ℕ} → From T a b → From T b i → From T a i
from_trans {T} {a} {b} {i} w (inl e) = subst (From T a) e w
from_trans {T} {a} {b} {i} (inl e) (inr r) = inr (subst (λ (x : ℕ). Below T x i) (sym e) r)
from_trans (inr q) (inr r) = inr (below_trans q r)

pub from_below : {T : Tree} {a b i : ℕ} → From T a b → Below T b i → Below T a i
from_below {T} {a} {b} {i} (inl e) r = subst (λ (x : ℕ). Below T x i) (sym e) r
from_below (inr b) r = below_trans b r

pub from_le : {T : Tree} → Ordered T → (a i : ℕ) → From T a i → a ≤ i
from_le v a i w = ⊎_elim (λ e. omega arith) (λ b. omega (arith, below_lt v b)) w

pub from_here : {T : Tree} {s u : ℕ} → s < T.size → From T s u → u < T.size
from_here l w = ⊎_elim (λ e. omega arith) below_here w

pub from_root : {T : Tree} → Ordered T → (u : ℕ) → u < T.size → From T 0 u
from_root v u l = ⊎_elim (λ e. inl (sym e)) (λ p. inr (below_root v u p l)) (eq-zero-or-pos u)

-- what is below a row is a child of it, or below one, and the other way round
pub below_top : {T : Tree} {a i : ℕ} → Below T a i → (c : ℕ) × Child T a c × From T c i
below_top {T} {a} {i} (child c) = (i, c, inl refl)
below_top {T} {a} {i} (under {m = m} c b) =
    let r = below_top b in
    (r.0, r.1, inr (⊎_elim (λ e. child (record { late = c.late; here = c.here; up = c.up ∙ sym e })) (λ d. under c d) r.2))

pub top_below : {T : Tree} {a c i : ℕ} → Child T a c → From T c i → Below T a i
top_below {T} {a} {c} {i} h (inl e) = subst (Below T a) e (child h)
top_below h (inr b) = join h b
  where
    join : {T : Tree} {a c i : ℕ} → Child T a c → Below T c i → Below T a i
    join h (child d) = under d (child h)
    join h (under d b) = under d (join h b)
