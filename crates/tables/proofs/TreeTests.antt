-- Tests for "child", "below" and the rule for a row's parent, by climbing: they run, and tell what the definitions say. Assumes nothing.
use Rattle.tables.proofs.Kit.{ℕ, zero, suc, ◌≤◌, sym, inl, inr, ⊎_elim, Bool, false, ◌&&◌, ◌||◌, arith, T, ltb, eqb}
use Rattle.tables.specs.Tree.{Tree, Child, Below, child, under, From, Hangs}
use Rattle.tables.proofs.{Trees.{Ordered, below_lt, below_up}, Tests.{Tells, tells_lt, tells_eq, tells_and, tells_or, tells_iff, tells_self}}

unfoldable pub is_child : Tree → ℕ → ℕ → Bool
is_child D a i = ltb 0 i && (ltb i D.size && eqb (D.parent i) a)

pub tells_child : (D : Tree) (a i : ℕ) → Tells (is_child D a i) (Child D a i)
unfolding is_child
tells_child D a i = tells_iff (tells_and (tells_lt 0 i) (tells_and (tells_lt i D.size) (tells_eq (D.parent i) a)))
    (λ p. record { late = p.0; here = p.1.0; up = p.1.1 }, λ c. (c.late, (c.here, c.up)))

-- by climbing, k steps at most
unfoldable pub climbs : Tree → ℕ → ℕ → ℕ → Bool
climbs D zero a i = false
climbs D (suc k) a i = is_child D a i || (is_child D (D.parent i) i && climbs D k a (D.parent i))

unfoldable pub is_below : Tree → ℕ → ℕ → Bool
is_below D a i = climbs D i a i

climbs_below : (D : Tree) (k a i : ℕ) → T (climbs D k a i) → Below D a i
unfolding climbs
climbs_below D zero a i t = absurd t
climbs_below D (suc k) a i t = ⊎_elim child (λ q. under q.0 (climbs_below D k a (D.parent i) q.1))
    ((tells_or (tells_child D a i) (tells_and (tells_child D (D.parent i) i) tells_self)).says t)

below_climbs : (D : Tree) → Ordered D → (k a i : ℕ) → i ≤ k → Below D a i → T (climbs D k a i)
unfolding climbs
below_climbs D v zero a i l b = omega (arith, below_lt v b)
below_climbs D v (suc k) a i l b =
    let c : Child D (D.parent i) i = (below_up b).0 in
    (tells_or (tells_child D a i) (tells_and (tells_child D (D.parent i) i) tells_self)).test
    (⊎_elim (λ e. inl (record { late = c.late; here = c.here; up = sym e }))
    (λ d. inr (c, below_climbs D v k a (D.parent i) (omega (arith, below_lt v (child c))) d)) (below_up b).1)

-- what the test finds is below, in any table
pub is_below_sound : (D : Tree) (a i : ℕ) → T (is_below D a i) → Below D a i
unfolding is_below
is_below_sound D a i t = climbs_below D i a i t

pub tells_below : (D : Tree) → Ordered D → (a i : ℕ) → Tells (is_below D a i) (Below D a i)
unfolding is_below
tells_below D v a i = record { says = climbs_below D i a i; test = below_climbs D v i a i (omega arith) }

unfoldable pub is_from : Tree → ℕ → ℕ → Bool
is_from D a i = eqb a i || is_below D a i

pub tells_from : (D : Tree) → Ordered D → (a i : ℕ) → Tells (is_from D a i) (From D a i)
unfolding is_from
tells_from D v a i = tells_or (tells_eq a i) (tells_below D v a i)

is_from_sound : (D : Tree) (a i : ℕ) → T (is_from D a i) → From D a i
unfolding is_from
is_from_sound D a i t = ⊎_elim inl (λ b. inr (is_below_sound D a i b)) ((tells_or (tells_eq a i) tells_self).says t)

-- row i hangs right
unfoldable pub hangs_right : Tree → ℕ → ℕ → Bool
hangs_right D root zero = eqb (D.parent 0) root
hangs_right D root (suc i) = is_from D (D.parent (suc i)) i

pub hangs_sound : (D : Tree) (root i : ℕ) → T (hangs_right D root i) → Hangs D root i
unfolding hangs_right
hangs_sound D root zero t = (tells_eq (D.parent 0) root).says t
hangs_sound D root (suc i) t = is_from_sound D (D.parent (suc i)) i t

pub hangs_complete : (D : Tree) → Ordered D → (root i : ℕ) → Hangs D root i → T (hangs_right D root i)
unfolding hangs_right
hangs_complete D v root zero h = (tells_eq (D.parent 0) root).test h
hangs_complete D v root (suc i) h = (tells_from D v (D.parent (suc i)) i).test h
