-- Entries past the step count are not read: two tables with the same steps get the same result from every call that takes a pattern, since what fits the
-- call's contract for the one fits it for the other, and one result fits. Assumes nothing.
use Rattle.tables.proofs.Kit.{ℕ, ◌≡◌, refl, Bool, List, Result, Option}
use Rattle.tables.specs.{
  Checks.{pattern_right, ChecksPattern},
  Document.Document,
  declared.Pattern.Pattern,
  declared.Refusal.Refusal,
  declared.right.RightPattern.RightPattern,
}
use Rattle.tables.proofs.Refusals.{verdict, verdict_unique, recast, recast_unique}
use Rattle.packets.specs.PatternPacket.{WritesPattern}
use Rattle.packets.proofs.PatternTrip.{writes_pattern_unique}
use Rattle.answers.specs.Answers.{FindsAnswers, FindsStarted}
use Rattle.answers.proofs.Unique.{finds_answers_unique, finds_started_unique}
use Rattle.containment.specs.{Containment.DecidesContainment, Equality.DecidesEquality}
use Rattle.containment.specs.{declared.ContainmentAnswer.ContainmentAnswer}
use Rattle.containment.proofs.Unique.{containment_unique, equality_unique}
use Rattle.joining.specs.Join.{Joins}
use Rattle.joining.proofs.Unique.{joins_unique}
use Rattle.rewriting.specs.Rewriting.{Rewrites}
use Rattle.rewriting.proofs.Unique.{rewrites_unique}
use Rattle.promises.specs.SameSteps.{SameSteps}
use Rattle.promises.proofs.{Moved.{check_fit, write_fit, answers_fit, started_fit}, MovedPairs.{contains_fit, equal_fit, join_fit, rewrite_fit}}

module _ {p q : Pattern} (e : SameSteps p q) where
  -- the check of a pattern: it hands back the table that it was lent, and what it says of it is the same
  pub check_unread : (r s : Result RightPattern Refusal) → ChecksPattern p r → ChecksPattern q s → verdict r ≡ verdict s
  check_unread r s h k = verdict_unique (pattern_right q) r s (λ a. a.table.now ≡ p) (Unit {0}) (λ a. a.table.now ≡ q) (Unit {0}) (check_fit e r h) k

  -- so the answer for the one is the answer for the other, with that other table handed back
  pub check_lent_unread : (r s : Result RightPattern Refusal) → ChecksPattern p r → ChecksPattern q s
      → recast (λ (a : RightPattern). q) r ≡ recast (λ (a : RightPattern). a.table.now) s
  check_lent_unread r s h k = recast_unique _ _ q (pattern_right q) r s _ _ _ _ (λ a x. refl) (λ a x. x) (check_fit e r h) k

  -- writing its packet
  pub write_unread : (before : List ℕ) (r s : Result ℕ Refusal) (a b : List ℕ) → WritesPattern p before r a → WritesPattern q before s b → (r ≡ s) × (a ≡ b)
  write_unread before r s a b h k = writes_pattern_unique q before r s a b (write_fit e before r a h) k

  -- the Answers call
  pub answers_unread : (d : Document) (l₀ w₀ : List ℕ) (r s : Result ℕ Refusal) (l w m x : List ℕ) → FindsAnswers p d l₀ w₀ r l w → FindsAnswers q d l₀ w₀ s m x
      → (r ≡ s) × (l ≡ m) × (w ≡ x)
  answers_unread d l₀ w₀ r s l w m x h k = finds_answers_unique q d l₀ w₀ r s l w m x (answers_fit e d l₀ w₀ r l w h) k

  -- its started form
  pub started_unread : (d : Document) (starts l₀ w₀ : List ℕ) (r s : Result ℕ Refusal) (l w m x : List ℕ) → FindsStarted p d starts l₀ w₀ r l w
      → FindsStarted q d starts l₀ w₀ s m x → (r ≡ s) × (l ≡ m) × (w ≡ x)
  started_unread d starts l₀ w₀ r s l w m x h k = finds_started_unique q d starts l₀ w₀ r s l w m x (started_fit e d starts l₀ w₀ r l w h) k

module _ {A A' B B' : Pattern} (e : SameSteps A A') (f : SameSteps B B') where
  -- containment
  pub contains_unread : (parents₀ labels₀ : List ℕ) (r s : Result ContainmentAnswer Refusal) (parents labels parents' labels' : List ℕ)
      → DecidesContainment A B parents₀ labels₀ r parents labels → DecidesContainment A' B' parents₀ labels₀ s parents' labels'
      → (r ≡ s) × (parents ≡ parents') × (labels ≡ labels')
  contains_unread parents₀ labels₀ r s parents labels parents' labels' h k =
      containment_unique A' B' parents₀ labels₀ r s parents labels parents' labels'
      (contains_fit e f parents₀ labels₀ r parents labels h) k

  -- equality
  pub equal_unread : (r s : Result Bool Refusal) → DecidesEquality A B r → DecidesEquality A' B' s → r ≡ s
  equal_unread r s h k = equality_unique A' B' r s (equal_fit e f r h) k

  -- joining
  pub join_unread : (r s : Result Pattern Refusal) → Joins A B r → Joins A' B' s → r ≡ s
  join_unread r s h k = joins_unique A' B' r s (join_fit e f r h) k

  -- rewriting
  pub rewrite_unread : (r s : Result (Option Pattern) Refusal) → Rewrites A B r → Rewrites A' B' s → r ≡ s
  rewrite_unread r s h k = rewrites_unique A' B' r s (rewrite_fit e f r h) k
