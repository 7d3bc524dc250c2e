-- Two tables with the same steps (docs/RULES.md, "Patterns"): entries past the step count are not read. Assumes nothing.
use Rattle.std.specs.Prelude.{ℕ, ◌<◌, ◌≡◌, get_or}
use Rattle.tables.specs.Column.{step_no}
use Rattle.tables.specs.declared.Pattern.{Pattern}

-- p and q have the same step count, the same output step and the same entries for each step, whatever stands past them
pub record SameSteps (p q : Pattern) : Type 0 where
  pub count : p.count ≡ q.count
  pub output : p.output.0 ≡ q.output.0
  pub parent : (s : ℕ) → s < p.count → (get_or p.parent s (step_no 0)).0 ≡ (get_or q.parent s (step_no 0)).0
  pub axis : (s : ℕ) → s < p.count → get_or p.axis s 0 ≡ get_or q.axis s 0
  pub label : (s : ℕ) → s < p.count → get_or p.label s 0 ≡ get_or q.label s 0
