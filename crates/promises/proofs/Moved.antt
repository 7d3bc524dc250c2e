-- What fits the contract of a call on one pattern fits it for every table with the same steps. Assumes nothing.
use Rattle.tables.proofs.Kit.{ℕ, ◌≡◌, sym, ap, ◌∙◌, ◌↔◌, List, ◌++◌, arith, length, drop, Result}
use Rattle.tables.specs.{Checks.{pattern_right, ChecksPattern}, Document.Document, Pattern.{shape_of, ValidPattern}}
use Rattle.tables.specs.{Refusal.Decided, declared.Pattern.Pattern, declared.Refusal.Refusal, declared.right.RightPattern.RightPattern}
use Rattle.tables.proofs.{Rules.agree_sym, Agreement.valid_agree, Refusals.{recast, decided_recast}}
use Rattle.placing.specs.Answer.{Begins, In}
use Rattle.packets.specs.PatternPacket.{length_of, write_checks, PacketPut, WritesPattern}
use Rattle.packets.proofs.PatternTrip.{pattern_packet_agree}
use Rattle.answers.specs.Answers.{answer_checks, started_checks, FindsAnswers, FindsStarted}
use Rattle.promises.specs.SameSteps.{SameSteps}
use Rattle.promises.proofs.{Agreeing.{same_agree, alike, decided_alike, reaches_alike, begins_alike, fits_alike}, Starting.found_alike}

-- the rules hold for both
pub valid_alike : {p q : Pattern} → SameSteps p q → ValidPattern p ↔ ValidPattern q
valid_alike e = (valid_agree (same_agree e), valid_agree (agree_sym (same_agree e)))

module _ {p q : Pattern} (e : SameSteps p q) where
  -- the check of a pattern, but for the table that is handed back
  pub check_fit : (r : Result RightPattern Refusal) → ChecksPattern p r → Decided (pattern_right q) r (λ a. a.table.now ≡ p) (Unit {0})
  check_fit r = decided_alike (pattern_right p) (pattern_right q) r (λ a. a.table.now ≡ p) (λ a. a.table.now ≡ p) (Unit {0}) (Unit {0})
      (alike (valid_alike e) (λ v. tt)) (λ v a x. x) (λ x. x)

  -- and with that other table handed back it fits in full
  pub check_lent_fit : (a : RightPattern) → a.table.now ≡ q → (r : Result RightPattern Refusal) → ChecksPattern p r → ChecksPattern q (recast (λ b. a) r)
  check_lent_fit a l r h = decided_recast (λ b. a) (pattern_right q) r _ _ (Unit {0}) (λ b x. l) (check_fit r h)

  -- writing its packet
  pub write_fit : (before : List ℕ) (r : Result ℕ Refusal) (a : List ℕ) → WritesPattern p before r a → WritesPattern q before r a
  write_fit before r a =
      let n : length_of p ≡ length_of q = omega (arith, e.count) in
      decided_alike (write_checks p (length before)) (write_checks q (length before)) r (λ c. PacketPut p before c a) (λ c. PacketPut q before c a)
      (a ≡ before) (a ≡ before)
      (alike (valid_alike e) (λ v. alike (λ x. omega (arith, n), λ x. omega (arith, n)) (λ w. tt)))
      (λ v c w. (w.0 ∙ n, w.1 ∙ ap (λ xs. xs ++ drop c before) (pattern_packet_agree (same_agree e)))) (λ x. x)

  -- the Answers call
  pub answers_fit : (d : Document) (l₀ w₀ : List ℕ) (r : Result ℕ Refusal) (l w : List ℕ) → FindsAnswers p d l₀ w₀ r l w → FindsAnswers q d l₀ w₀ r l w
  answers_fit d l₀ w₀ r l w =
      let a = same_agree e in let b = agree_sym a in
      decided_alike (answer_checks p d (length l₀) (length w₀)) (answer_checks q d (length l₀) (length w₀)) r _ _ _ _
      (alike (valid_alike e) (λ v. alike (λ x. x, λ x. x) (λ x. alike (λ y. y, λ y. y) (λ y. tt))))
      (λ v c. found_alike {First = Begins (shape_of p)} {Other = Begins (shape_of q)} e.output (fits_alike a d) (fits_alike b d)
      (reaches_alike a (begins_alike a v.0.some)) (reaches_alike b (begins_alike b ((valid_alike e).0 v.0).some)) e.count l₀ w₀ c l w) (λ x. x)

  -- its started form
  pub started_fit : (d : Document) (starts l₀ w₀ : List ℕ) (r : Result ℕ Refusal) (l w : List ℕ) → FindsStarted p d starts l₀ w₀ r l w → FindsStarted q d
      starts l₀ w₀
      r l w
  started_fit d starts l₀ w₀ r l w =
      let a = same_agree e in let b = agree_sym a in
      decided_alike (started_checks p d starts (length l₀) (length w₀)) (started_checks q d starts (length l₀) (length w₀)) r _ _ _ _
      (alike (valid_alike e) (λ v. alike (λ x. x, λ x. x) (λ x. alike (λ y. (sym (e.axis 0 v.some) ∙ y.0, y.1), λ y. (e.axis 0 v.some ∙ y.0, y.1))
      (λ y. alike (λ z. z, λ z. z) (λ z. tt)))))
      (λ v c. found_alike {First = In starts} {Other = In starts} e.output (fits_alike a d) (fits_alike b d)
      (reaches_alike a (λ i x. x)) (reaches_alike b (λ i x. x)) e.count l₀ w₀ c l w) (λ x. x)
