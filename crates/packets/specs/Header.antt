-- What both kinds of packet begin with: the version, and a length field that stands for a number of rows of four bytes (docs/RULES.md, "Packets").
-- Assumes nothing.
use Rattle.std.specs.Prelude.{ℕ, ◌+◌, ◌*◌, ◌≤◌, ◌≡◌, List, [], ◌∷◌, length, get_or}
use Rattle.tables.specs.Refusal.{Check}
use Rattle.halves.specs.Bytes.{half}

-- the length field stands for n rows, `most` at most, after `extra` bytes, and agrees with the bytes present
pub record Sized (bs : List ℕ) (extra most n : ℕ) : Type 0 where
  pub some : 1 ≤ n
  pub few : n ≤ most
  pub field : half bs 1 ≡ extra + 4 * n
  pub present : length bs ≡ extra + 4 * n + 3

-- what reading checks first: fewer than 3 bytes, the version, the rest of the length
abbrev pub head_checks : List ℕ → ℕ → ℕ → List Check
head_checks bs extra most =
    record { asks = 3 ≤ length bs; gives = 2 } ∷ record { asks = get_or bs 0 0 ≡ 1; gives = 1 }
    ∷ record { asks = (n : ℕ) × Sized bs extra most n; gives = 2 } ∷ []
