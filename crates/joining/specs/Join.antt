-- The join of a view U and a compensation E (docs/RULES.md, "Join"): U up to and including its output step, then E without its step 0, then the rest of U.
--   renumber    the number that a step of U has in the join
--   by_part      a choice by the part of the join that a step is in
--   added       how many steps of E the join takes
--   join_shape   the joined pattern
--   join_of      its table
--   join_checks  what joining checks, in order
--   Joinable    the pair can be joined
--   Joins       what joining answers
-- Assumes nothing.
use Rattle.std.specs.Prelude.{ℕ, ◌+◌, ◌-◌, ◌≤◌, ◌≡◌, cond, List, [], ◌∷◌, ltb, Result}
use Rattle.tables.specs.Pattern.{Shape, shape_of, pattern_of, ValidPattern}
use Rattle.tables.specs.Refusal.{Check, Passes, Decided}
use Rattle.tables.specs.declared.Pattern.{Pattern}
use Rattle.tables.specs.declared.Refusal.{Refusal}

-- the number of U's step s in the join, where e steps of E stand past U's output step o
unfoldable pub renumber : ℕ → ℕ → ℕ → ℕ
renumber o e s = cond (ltb o s) (s + e) s

-- step u of the join is in U's front, in E's part, or in the rest of U: x, y or z
unfoldable pub by_part : ℕ → ℕ → ℕ → ℕ → ℕ → ℕ → ℕ
by_part o e u x y z = cond (ltb o u) (cond (ltb (o + e) u) z y) x

-- how many steps of E the join takes: all but its step 0
abbrev pub added : Shape → ℕ
added E = E.tree.size - 1

-- the joined pattern: children of E's step 0 hang on U's output step. For the view /line/strip[control] with output step 1 and the compensation strip/frame:
--   view            0 line, 1 strip on 0, 2 control on 1
--   compensation    0 strip, 1 frame on 0
--   join            0 line, 1 strip on 0 (the view up to its output), 2 frame on 1 (the compensation past its step 0), 3 control on 1 (the rest of the view)
unfoldable pub join_shape : Shape → Shape → Shape
join_shape U E = record {
  tree = record {
    size = U.tree.size + added E;
    parent = λ u. by_part U.output (added E) u
        (U.tree.parent u) (U.output + E.tree.parent (u - U.output)) (renumber U.output (added E) (U.tree.parent (u - added E)));
  };
  label = λ u. by_part U.output (added E) u (U.label u) (E.label (u - U.output)) (U.label (u - added E));
  axis = λ u. by_part U.output (added E) u (U.axis u) (E.axis (u - U.output)) (U.axis (u - added E));
  output = U.output + E.output;
}

-- its table
unfoldable pub join_of : Pattern → Pattern → Pattern
join_of U E = pattern_of (join_shape (shape_of U) (shape_of E))

-- joining U and E: U's rules, E's rules, the axis of E's step 0, the two labels, the size
abbrev pub join_checks : Pattern → Pattern → List Check
join_checks U E =
    record { asks = ValidPattern U; gives = 3 } ∷ record { asks = ValidPattern E; gives = 3 }
    ∷ record { asks = (shape_of E).axis 0 ≡ 0; gives = 6 } ∷ record { asks = (shape_of U).label (shape_of U).output ≡ (shape_of E).label 0; gives = 7 }
    ∷ record { asks = U.count + added (shape_of E) ≤ 64; gives = 8 } ∷ []

-- E can be joined to U
abbrev pub Joinable : Pattern → Pattern → Type 0
Joinable U E = Passes (join_checks U E)

-- joining gives the join, or refuses
abbrev pub Joins : Pattern → Pattern → Result Pattern Refusal → Type 0
Joins U E r = Decided (join_checks U E) r (λ p. p ≡ join_of U E) (Unit {0})
