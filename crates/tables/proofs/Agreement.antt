-- Rows hang right together in trees that agree, and shapes that agree obey the rules together. Assumes nothing.
use Rattle.tables.proofs.Kit.{ℕ, zero, suc, ◌<◌, ◌≡◌, sym, ◌∙◌, subst, ◌⊎◌, inl, inr}
use Rattle.tables.proofs.Kit.{arith}
use Rattle.tables.specs.{Tree.{Tree, Child, Below, child, under, From, Hangs, IsLabel}}
use Rattle.tables.specs.{Pattern.{Shape, StepRule, ValidShape}}
use Rattle.tables.proofs.Rules.{Agree}

module _ {S T : Tree} (n : S.size ≡ T.size) (p : (i : ℕ) → i < S.size → S.parent i ≡ T.parent i) where
  child_agree : {a i : ℕ} → Child S a i → Child T a i
  child_agree {a} {i} c = record { late = c.late; here = omega (arith, c.here); up = sym (p i c.here) ∙ c.up }

  -- the same rows lie below a row
  pub below_agree : {a i : ℕ} → Below S a i → Below T a i
  below_agree (child c) = child (child_agree c)
  below_agree (under c b) = under (child_agree c) (below_agree b)

  -- a row hangs right in both
  pub hangs_agree : (root s : ℕ) → s < S.size → Hangs S root s → Hangs T root s
  hangs_agree root zero l h = sym (p 0 l) ∙ h
  hangs_agree root (suc s) l h = subst (λ (x : ℕ). From T x s) (p (suc s) l) (from h)
    where
      from : {a : ℕ} → From S a s → From T a s
      from (inl e) = inl e
      from (inr b) = inr (below_agree b)

-- shapes that agree are valid together
pub valid_agree : {A B : Shape} → Agree A B → ValidShape A → ValidShape B
valid_agree {A} {B} e v = record {
  some = omega (arith, e.size, v.some);
  few = omega (arith, e.size, v.few);
  steps = λ s l. step s (omega (arith, e.size));
  output = omega (arith, e.size, e.output, v.output);
}
  where
    step : (s : ℕ) → s < A.tree.size → StepRule B s
    step s l = record {
      hangs = hangs_agree e.size e.parent 255 s l (v.steps s l).hangs;
      axis = subst (λ (x : ℕ). (x ≡ 0) ⊎ (x ≡ 1)) (e.axis s l) (v.steps s l).axis;
      label = subst IsLabel (e.label s l) (v.steps s l).label;
    }
