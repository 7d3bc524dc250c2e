-- Bytes, the 16-bit numbers that two of them make, high byte first, and lists of such numbers (docs/RULES.md, "Packets"). Assumes nothing.
use Rattle.std.specs.Prelude.{ℕ, ◌+◌, ◌*◌, ◌/◌, ◌%◌, ◌<◌, List, [], ◌∷◌, length, get_or}
use Rattle.tables.specs.Column.{blocks, column}

-- every entry is a byte
abbrev pub Bytes : List ℕ → Type 0
Bytes bs = (k : ℕ) → get_or bs k 0 < 256

-- the high byte of a 16-bit number
abbrev pub high : ℕ → ℕ
high x = x / 256

-- the low byte
abbrev pub low : ℕ → ℕ
low x = x % 256

-- the 16-bit number at byte o
abbrev pub half : List ℕ → ℕ → ℕ
half bs o = get_or bs o 0 * 256 + get_or bs (o + 1) 0

-- the two bytes of entry k
unfoldable pub half_bytes : List ℕ → ℕ → List ℕ
half_bytes xs k = high (get_or xs k 0) ∷ low (get_or xs k 0) ∷ []

-- a list in bytes
abbrev pub packed : List ℕ → List ℕ
packed xs = blocks (half_bytes xs) (length xs)

-- the list that bytes are read as
unfoldable pub unpacked : List ℕ → List ℕ
unpacked bs = column (λ k. half bs (2 * k)) (length bs / 2)
