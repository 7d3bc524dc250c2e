-- The three packets that stand end to end in the input of `ask` (docs/RULES.md, "The program ask").
--   packet_at        the packet that begins at a byte
--   next_at          where it ends
--   document_part    the document packet
--   view_part        the view packet
--   query_part       the query packet
--   parts_end        where the query packet ends
-- Assumes nothing.
use Rattle.std.specs.Prelude.{ℕ, ◌+◌, List, length, take, drop}
use Rattle.halves.specs.Bytes.{half}

-- the packet that begins at byte o, as long as its length field says; where the input ends early, what is left of it
unfoldable pub packet_at : List ℕ → ℕ → List ℕ
packet_at bs o = take (half bs (o + 1) + 3) (drop o bs)

-- the byte past the packet that begins at byte o
unfoldable pub next_at : List ℕ → ℕ → ℕ
next_at bs o = o + length (packet_at bs o)

-- the input begins with the document packet
abbrev pub document_part : List ℕ → List ℕ
document_part bs = packet_at bs 0

-- the view packet follows it
abbrev pub view_part : List ℕ → List ℕ
view_part bs = packet_at bs (next_at bs 0)

-- the query packet follows that
abbrev pub query_part : List ℕ → List ℕ
query_part bs = packet_at bs (next_at bs (next_at bs 0))

-- the byte past the query packet
abbrev pub parts_end : List ℕ → ℕ
parts_end bs = next_at bs (next_at bs (next_at bs 0))
