-- To which steps a set of steps leads, by tables that a byte looks up or by groups. Only private functions of the calls cite this file: a reader of the public
-- contracts need not read it.
--   no_edges    the edges before any step has come
--   ToParent    a step leads to its parent
--   Led         the steps to which the steps of a number lead
--   Doubled     entries of a table joined with one number
--   no_table    a table before any step has come
--   Spread      a table of 8 bytes' entries for a relation between steps
--   looked_up      what the bytes of a number find in such a table
--   LaterChild  a step and a child step that is not the step just after it
--   fork        an entry of a list of forks
--   Grouped     the steps with later child steps, and these
--   Groups      the same, of lists alone
--   Reached     the steps that the marks of a number lead to, through such groups
-- Assumes nothing.
use Rattle.std.specs.Prelude.{ℕ, zero, suc, ◌+◌, ◌*◌, ◌/◌, ◌%◌, ◌^◌, ◌≤◌, ◌<◌, ◌≡◌, List, length, get_or, replicate}
use Rattle.std.specs.Int.Bits.{bit_and, bit_or}
use Rattle.tables.specs.Bits.{bit, Marks}
use Rattle.tables.specs.Tree.{Child}
use Rattle.tables.specs.Pattern.{Shape}
use Rattle.plan.specs.Steps.{without}
use Rattle.plan.specs.declared.{byte_table.ByteTable.{ByteTable}, edges.Edges.{Edges}, forks.Fork.{Fork}}

-- no set and no table has a step
abbrev pub no_edges : Edges
no_edges = record {
  sets = record { child = 0; descendant = 0; next = 0; forked = 0 };
  children = replicate 64 0;
  parents = replicate 64 0;
}

-- a step leads to its parent
abbrev pub ToParent : Shape → ℕ → ℕ → Type 0
ToParent A t s = Child A.tree s t

-- the steps to which the steps of x lead
abbrev pub Led : (ℕ → ℕ → Type 0) → ℕ → ℕ → Type 0
Led R x s = (t : ℕ) × (bit x t ≡ 1) × R t s

-- the entries from base + top on are those from base on with m joined, top of them; the others stay
pub record Doubled (before : List ℕ) (base top m : ℕ) (after : List ℕ) : Type 0 where
  pub same_length : length after ≡ length before
  pub joined : (u : ℕ) → u < top → get_or after (base + top + u) 0 ≡ bit_or (get_or before (base + u) 0) m
  pub early : (k : ℕ) → k < base + top → get_or after k 0 ≡ get_or before k 0
  pub late : (k : ℕ) → base + 2 * top ≤ k → get_or after k 0 ≡ get_or before k 0

-- the table in which no step leads anywhere
abbrev pub no_table : ByteTable
no_table = record { entries = replicate 2048 0 }

-- R t s says that step t leads to step s. Entry 256c + v of the table has the steps to which the steps 8c + b lead, where b goes through the bits of v; all
-- those steps are below n.
pub record Spread (R : ℕ → ℕ → Type 0) (n : ℕ) (table : List ℕ) : Type 0 where
  pub size : length table ≡ 2048
  pub entry : (c v : ℕ) → c < 8 → v < 256 → ((b : ℕ) → bit v b ≡ 1 → 8 * c + b < n) → Marks (get_or table (256 * c + v) 0)
      (λ s. (b : ℕ) × (bit v b ≡ 1) × R (8 * c + b) s)

-- what the first k bytes of x find in the table, joined
unfoldable pub looked_up : List ℕ → ℕ → ℕ → ℕ
looked_up table x zero = 0
looked_up table x (suc c) = bit_or (looked_up table x c) (get_or table (256 * c + x / 2 ^ (8 * c) % 256) 0)

-- step t is a child step of s and not the step just after it
abbrev pub LaterChild : Shape → ℕ → ℕ → Type 0
LaterChild A s t = Child A.tree s t × (s + 1 ≡ t → ⊥)

-- entry k of a list of forks
abbrev pub fork : List Fork → ℕ → Fork
fork forks k = get_or forks k (record { step = 0; later = 0 })

-- each of the first n entries has a step, as one bit, and its later child steps, as bits; every step that has such child steps has an entry
pub record Grouped (A : Shape) (n : ℕ) (forks : List Fork) : Type 0 where
  pub few : n ≤ 64
  pub each : (k : ℕ) → k < n → (s : ℕ) × ((fork forks k).step ≡ 2 ^ s) × Marks (fork forks k).later (LaterChild A s)
  pub all : (s t : ℕ) → LaterChild A s t → (k : ℕ) × (k < n) × ((fork forks k).step ≡ 2 ^ s) × (bit (fork forks k).later t ≡ 1)

-- the same of lists alone: the first r entries are those of the first n steps s whose entry of `to` has other bits than those of `next`, with these
pub record Groups (to : List ℕ) (next n r : ℕ) (forks : List Fork) : Type 0 where
  pub few : r ≤ n
  pub each : (k : ℕ) → k < r → (s : ℕ) × (s < n) × ((fork forks k).step ≡ 2 ^ s) × ((fork forks k).later ≡ without (get_or to s 0) next)
  pub all : (s : ℕ) → s < n → (without (get_or to s 0) next ≡ 0 → ⊥) → (k : ℕ) × (k < r) × ((fork forks k).step ≡ 2 ^ s)
      × ((fork forks k).later ≡ without (get_or to s 0) next)

-- bit s stands in the step of one of the first n entries whose later child steps have a bit of m
abbrev pub Reached : List Fork → ℕ → ℕ → ℕ → Type 0
Reached forks m n s = (k : ℕ) × (k < n) × (bit_and m (fork forks k).later ≡ 0 → ⊥) × (bit (fork forks k).step s ≡ 1)
