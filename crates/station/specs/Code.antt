-- Answers as the number that C is handed (docs/RULES.md, "From C").
--   code_of  the number of an answer
--   Small   the counts that there are
--   Coded   what an entry states: its number is that of an answer that is right
--   Told    what C may read from the number's sign
-- Assumes nothing.
use Rattle.std.specs.Prelude.{ℕ, suc, ◌<◌, ◌≡◌, List, ℤ, pos, neg_ℤ, Result, Ok, Err}
use Rattle.tables.specs.Refusal.{number, Check, Passes, Refuses}
use Rattle.tables.specs.declared.Refusal.{Refusal}

-- the count as it is, or minus the number of the refusal
abbrev pub code_of : Result ℕ Refusal → ℤ
code_of (Ok n) = pos n
code_of (Err r) = neg_ℤ (pos (number r))

-- the answer is a small count or a refusal
abbrev pub Small : Result ℕ Refusal → Type 0
Small (Ok n) = n < 65536
Small (Err r) = Unit {0}

-- r is the number of an answer that is right
pub record Coded (IsRight : Result ℕ Refusal → Type 0) (r : ℤ) : Type 0 where
  pub answer : Result ℕ Refusal
  pub holds : IsRight answer
  pub code : r ≡ code_of answer

-- what the number r tells of a call: its checks, what an answer n says, and that everything lent is as it was
pub record Told (cs : List Check) (X : ℕ → Type 0) (Kept : Type 0) (r : ℤ) : Type 0 where
  pub answered : (n : ℕ) → r ≡ pos n → Passes cs × X n
  pub refused : (k : ℕ) → r ≡ neg_ℤ (pos (suc k)) → (q : Refusal) × (number q ≡ suc k) × Refuses cs q × Kept
