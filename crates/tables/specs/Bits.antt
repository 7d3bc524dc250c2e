-- The bits of a number, and numbers whose bits are marks (docs/RULES.md, "Answers"). Assumes nothing.
use Rattle.std.specs.Prelude.{ℕ, ◌/◌, ◌%◌, ◌^◌, ◌≡◌}

-- bit s of x, 0 or 1
unfoldable pub bit : ℕ → ℕ → ℕ
bit x s = x / 2 ^ s % 2

-- the bits of x that are set are exactly those of which P holds
pub record Marks (x : ℕ) (P : ℕ → Type 0) : Type 0 where
  pub put : (s : ℕ) → P s → bit x s ≡ 1
  pub only : (s : ℕ) → bit x s ≡ 1 → P s
