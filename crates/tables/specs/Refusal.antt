-- The refusal numbers, and what it is to refuse by the first check that fails (docs/RULES.md, "Refusals"). Each call's checks stand with that call.
--   number     the number of each refusal
--   Check      what a call asks, and the number that it gives where that fails
--   Passes     every check holds
--   Refuses    the first check that fails gives the refusal
--   Decided    an answer by a list of checks
-- Assumes nothing.
use Rattle.std.specs.Prelude.{ℕ, ◌≡◌, ◌⊎◌, List, [], ◌∷◌, Result, Ok, Err}
use Rattle.tables.specs.declared.Refusal.{Refusal}
use Rattle.tables.specs.declared.Refusal.TheVariants.{Version, Length, BadPattern, BadDocument, Room, Start, OtherLabel, TooLarge, NoLabel}

-- the number of each refusal
abbrev pub number : Refusal → ℕ
-- the version byte of a packet is not 1
number Version = 1
-- a packet has fewer than 3 bytes, or a length that is not allowed or disagrees with the bytes present
number Length = 2
-- a pattern breaks its rules
number BadPattern = 3
-- a document breaks its rules, lists of unequal length included
number BadDocument = 4
-- a lent list or buffer is too short
number Room = 5
-- what is started or joined begins with axis descendant, or a start list does not hold nodes of the document in ascending order
number Start = 6
-- a compensation begins with another label than that of the view's output step
number OtherLabel = 7
-- more than 64 steps in a join, or more than 32 in what is to be rewritten
number TooLarge = 8
-- no label is free for a witness
number NoLabel = 9

-- a check of a call: what it asks, and the number of the refusal that it gives where that does not hold
pub record Check : Type 1 where
  pub asks : Type 0
  pub gives : ℕ

-- every check holds: the call answers
abbrev pub Passes : List Check → Type 0
Passes [] = Unit {0}
Passes (c ∷ cs) = c.asks × Passes cs

-- the first check that fails gives the number of the refusal r
abbrev pub Refuses : List Check → Refusal → Type 0
Refuses [] r = ⊥
Refuses (c ∷ cs) r = ((c.asks → ⊥) × (number r ≡ c.gives)) ⊎ (c.asks × Refuses cs r)

-- a call's answer by its checks: where all hold, X says what the answer is; else the refusal, with Y
abbrev pub Decided : {A : Type 0} → List Check → Result A Refusal → (A → Type 0) → Type 0 → Type 0
Decided cs (Ok a) X Y = Passes cs × X a
Decided cs (Err r) X Y = Refuses cs r × Y
