-- When one list of numbers is smaller than another, compared from the first entry (docs/RULES.md, "Containment"). Assumes nothing.
use Rattle.std.specs.Prelude.{ℕ, ◌<◌, ◌≡◌}

-- the first n entries of f are those of g, or smaller than those of g at the first entry where the two differ: 0 2 5 is no later than 0 2 5, and than 0 3 1
-- (at entry 1), but later than 0 2 4
pub data NoLater (f g : ℕ → ℕ) (n : ℕ) : Type 0 where
  same : ((u : ℕ) → u < n → f u ≡ g u) → NoLater f g n
  less : (t : ℕ) → t < n → ((u : ℕ) → u < t → f u ≡ g u) → f t < g t → NoLater f g n
