-- The cut at a step of the main path, as its table is written. Assumes nothing.
use Rattle.tables.proofs.Kit.{ℕ, ◌+◌, ◌≤◌, ◌<◌, ◌≡◌, arith, dec_lt}
use Rattle.tables.specs.{Tree.From, Pattern.{shape_of, ValidPattern, ValidShape}, declared.Pattern.Pattern}
use Rattle.tables.proofs.{Rules.shape_ordered, Trees.from_le}
use Rattle.rewriting.specs.Candidate.{Cut}
use Rattle.rewriting.proofs.{Cuts.{cut_shape, cut_shape_lem, cut_valid, cut_small}, CutSize.CutSteps}

module _ (q : Pattern) (v : ValidPattern q) (c : ℕ) (w : From (shape_of q).tree c (shape_of q).output) where
  -- the step is one of the pattern's
  pub cut_here : c < q.count
  cut_here = omega (arith, cut_low, v.output)
    where
      cut_low : c ≤ (shape_of q).output
      cut_low = from_le (shape_ordered v) c (shape_of q).output w

  -- the shape computed is its cut
  pub cut_is : Cut (shape_of q) c (cut_shape (shape_of q) c)
  cut_is = cut_shape_lem (shape_ordered v) c cut_here w

  -- and obeys the rules
  pub cut_rules : ValidShape (cut_shape (shape_of q) c)
  cut_rules = cut_valid v cut_is cut_here w

  -- its size is that of the run from c on
  pub whole_size : (r : ℕ) → CutSteps (shape_of q).tree c r → r ≡ (cut_shape (shape_of q) c).tree.size
  whole_size r h = go (dec_lt r m) (dec_lt m r)
    where
      m : ℕ
      m = (cut_shape (shape_of q) c).tree.size

      go : Dec (r < m) → Dec (m < r) → r ≡ m
      go (yes l) d = absurd (omega (arith, h.0 (c + r) (cut_is.only r l)))
      go (no l) (yes d) = absurd (omega (arith, cut_is.all (c + m) (h.1 m d)))
      go (no l) (no d) = omega arith

  -- a later step of it is one of the pattern's, and hangs on c or later
  pub cut_late : (t : ℕ) → 0 < t → t < (cut_shape (shape_of q) c).tree.size → (c + t < q.count) × (c ≤ (shape_of q).tree.parent (c + t))
  cut_late t p l = (cut_small (shape_ordered v) cut_is t l cut_here, omega (arith, cut_is.parent t p l))
