-- What the last step of an entry answers and leaves in the room. Assumes nothing.
use Rattle.std.specs.Prelude.{ℕ, ◌≡◌, List, ◌++◌, length, drop, Result}
use Rattle.tables.specs.Checks.{room_for}
use Rattle.tables.specs.Refusal.{Decided}
use Rattle.tables.specs.declared.Refusal.{Refusal}

-- where the room has `least` bytes the answer is k and the first m bytes of the room are the text; else it is refused and the room stays
pub record Puts (least : ℕ) (text : List ℕ) (m k : ℕ) (room₀ : List ℕ) (r : Result ℕ Refusal) (room : List ℕ) : Type 0 where
  pub says : Decided (room_for least (length room₀)) r (λ c. (c ≡ k) × (room ≡ text ++ drop m room₀)) (room ≡ room₀)
