-- Joining gives one answer: no second one fits. Assumes nothing.
use Rattle.tables.proofs.Kit.{◌≡◌, sym, ◌∙◌, Result}
use Rattle.tables.specs.{declared.Pattern.Pattern, declared.Refusal.Refusal}
use Rattle.tables.proofs.Refusals.{decided_unique}
use Rattle.joining.specs.Join.{join_of, join_checks, Joins}

-- no second answer fits
pub joins_unique : (U E : Pattern) (r q : Result Pattern Refusal) → Joins U E r → Joins U E q → r ≡ q
joins_unique U E r q = decided_unique (join_checks U E) r q (λ p. p ≡ join_of U E) (Unit {0}) (λ p. p ≡ join_of U E) (Unit {0}) (λ c e x y. x ∙ sym y)
