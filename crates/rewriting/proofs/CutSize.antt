-- The steps at or below c, counted from c on: the count ends at the first later step that hangs before c. Assumes nothing.
use Rattle.tables.proofs.Kit.{ℕ, ◌+◌, ◌-◌, ◌≤◌, ◌<◌, refl, subst, inl, inr, ⊎_elim, arith, dec_lt}
use Rattle.tables.specs.Tree.{Tree, Child, From}
use Rattle.tables.proofs.{Choice.below_or_at, Depth.run, Trees.{Ordered, parent_lt, below_up, from_child, from_here, from_le}}

-- the rows from c up to u, u left out, are c or below it
pub record Taken (T : Tree) (c u : ℕ) : Type 0 where
  pub past : c < u
  pub here : u ≤ T.size
  pub each : (w : ℕ) → c ≤ w → w < u → From T c w

-- the r rows from c on are c or below it, and no other is
abbrev pub CutSteps : Tree → ℕ → ℕ → Type 0
CutSteps T c r = ((u : ℕ) → From T c u → u < c + r) × ((t : ℕ) → t < r → From T c (c + t))

-- c itself is the first
pub taken_one : (T : Tree) (c : ℕ) → c < T.size → Taken T c (c + 1)
taken_one T c l = record { past = omega arith; here = omega arith; each = λ w h k. inl (omega arith) }

module _ {T : Tree} (v : Ordered T) {c u : ℕ} (r : Taken T c u) where
  -- a row that hangs on c or later is one more
  pub taken_next : u < T.size → c ≤ T.parent u → Taken T c (u + 1)
  taken_next l h =
      let d : Child T (T.parent u) u = record { late = omega (arith, r.past); here = l; up = refl } in
      let p : T.parent u < u = parent_lt v u d.late l in
      let w : From T c u = inr (from_child (r.each (T.parent u) h p) d) in
      record {
        past = omega (arith, r.past);
        here = omega arith;
        each = λ x k m. below_or_at {u = x} {k = u} (omega arith) (r.each x k) (λ e. subst (From T c) {x = u} (omega arith) w);
      }

  -- where no row from u on is, the run is whole
  whole : ((x : ℕ) → From T c x → x < u) → CutSteps T c (u - c)
  whole f = (λ x w. omega (arith, f x w, r.past), λ t l. r.each (c + t) (omega arith) (omega arith))

  -- where the rows end, all are taken
  pub taken_end : T.size ≤ u → CutSteps T c (u - c)
  taken_end l = whole (λ x w. omega (arith, from_here (omega (arith, r.past, r.here)) w))

  -- and where a row hangs before c
  pub taken_stop : T.parent u < c → CutSteps T c (u - c)
  taken_stop h = whole (λ x w. go x w (dec_lt x u))
    where
      no_later : (x : ℕ) → From T c x → u ≤ x → ⊥
      no_later x w l = ⊎_elim (λ e. omega (arith, r.past)) (λ b. omega (arith, from_le v c (T.parent u) (below_up b).1))
          (run v c x u w (omega (arith, r.past)) l)

      go : (x : ℕ) → From T c x → Dec (x < u) → x < u
      go x w (yes l) = l
      go x w (no l) = absurd (no_later x w (omega arith))
