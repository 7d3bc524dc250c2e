-- One row's turn in a pass from the last row to the first, over two numbers of each row. Only private functions of the calls cite this file: a reader of the
-- public contracts need not read it. Assumes nothing.
use Rattle.std.specs.Prelude.{ℕ, ◌<◌, ◌≡◌, List, get_or}
use Rattle.std.specs.Int.Bits.{bit_or}

-- a list of numbers as a function of the row
abbrev pub entries : List ℕ → ℕ → ℕ
entries xs k = get_or xs k 0

-- row i gets f, and its parent p gathers g in its first number, f and b in its second; the other rows before i stay, and so do the first numbers after i
pub record Turned (i p f g b : ℕ) (fit under fit' under' : ℕ → ℕ) : Type 0 where
  pub own : fit' i ≡ f
  pub up : fit' p ≡ bit_or (fit p) g
  pub up_under : under' p ≡ bit_or (bit_or (under p) f) b
  pub others : (k : ℕ) → k < i → (k ≡ p → ⊥) → (fit' k ≡ fit k) × (under' k ≡ under k)
  pub later : (k : ℕ) → i < k → fit' k ≡ fit k
