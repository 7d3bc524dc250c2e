-- However n labels are chosen, one of the first n + 1 is free. Assumes nothing.
use Rattle.tables.proofs.Kit.{ℕ, zero, suc, ◌≤◌, ◌<◌, ◌≡◌, sym, ap, ◌∙◌, ◌≢◌, arith, ℕ_discrete}
use Rattle.tables.proofs.Choice.{sel, sel_yes, sel_no, below_or_at}

-- a label of 1 to n + 1 that none of n labels is
pub record Free (n : ℕ) (lab : ℕ → ℕ) : Type 0 where
  pub label : ℕ
  pub from : 1 ≤ label
  pub to : label ≤ suc n
  pub unused : (s : ℕ) → s < n → lab s ≢ label

pub free : (n : ℕ) (lab : ℕ → ℕ) → Free n lab
free zero lab = record { label = 1; from = omega arith; to = omega arith; unused = λ s l. absurd (omega arith) }
free (suc n) lab = go (free n swapped) (λ s e. sel_yes (ℕ_discrete (lab s) (suc (suc n))) _ _ e) (λ s e. sel_no (ℕ_discrete (lab s) (suc (suc n))) _ _ e)
  where
    swapped : ℕ → ℕ
    swapped s = sel (ℕ_discrete (lab s) (suc (suc n))) (lab n) (lab s)

    go : Free n swapped → ((s : ℕ) → lab s ≡ suc (suc n) → swapped s ≡ lab n) → ((s : ℕ) → lab s ≢ suc (suc n) → swapped s ≡ lab s) → Free (suc n) lab
    go w y z = pick (ℕ_discrete (lab n) w.label)
      where
        pick : Dec (lab n ≡ w.label) → Free (suc n) lab
        pick (yes e) = record {
          label = suc (suc n);
          from = omega arith;
          to = omega arith;
          unused = λ s l h. below_or_at l (λ m. w.unused s m (y s h ∙ e)) (λ k. omega (arith, w.to, ap lab k));
        }
        pick (no e) = record {
          label = w.label;
          from = w.from;
          to = omega (arith, w.to);
          unused = λ s l h. below_or_at l (λ m. w.unused s m (z s (λ k. omega (arith, w.to)) ∙ h)) (λ k. e (sym (ap lab k) ∙ h));
        }
