-- The containment call's checks, from those of the patterns, the fresh label and the room. Assumes nothing.
use Rattle.tables.proofs.Kit.{ℕ, ◌≤◌, ◌≡◌, refl, inl, inr, ⊎_elim, Ok, Err, arith}
use Rattle.std.proofs.Common.{Option, Some, None, ok_or}
use Rattle.tables.specs.{Pattern.{Shape, shape_of, ValidPattern}, Refusal.{Passes, Refuses}, declared.Pattern.Pattern}
use Rattle.tables.specs.{declared.Refusal.Refusal, declared.Refusal.TheVariants.{NoLabel, Room}}
use Rattle.containment.specs.{Witness.{Fresh, witness_size}, Containment.containment_checks, inner.Results.FreshOrNone}

-- what was searched for as a result: a label is fresh, and a refusal says that none is
pub fresh_found : (A B : Shape) (o : Option ℕ) (l : ℕ) → Ok l ≡ ok_or o NoLabel → FreshOrNone A B o → Fresh A B l
fresh_found A B (Some k) l e f = let z : l ≡ k = cc in rw z f
fresh_found A B None l e f = absurd cc

fresh_missing : (A B : Shape) (o : Option ℕ) (r : Refusal) → Err r ≡ ok_or o NoLabel → FreshOrNone A B o → (r ≡ NoLabel) × ((k : ℕ) × Fresh A B k → ⊥)
fresh_missing A B (Some k) r e f = absurd cc
fresh_missing A B None r e f =
    (cc, λ w. ⊎_elim w.1.not_first w.1.not_second (f w.0 w.1.label.least (omega (arith, w.1.label.most))))

module _ (A B : Pattern) (a b : ℕ) (va : ValidPattern A) (vb : ValidPattern B) where
  pub label_refuses : ((l : ℕ) × Fresh (shape_of A) (shape_of B) l → ⊥) → Refuses (containment_checks A B a b) NoLabel
  label_refuses n = inr (va, inr (vb, inl (n, refl)))

  -- the same of what was searched for
  pub missing_refuses : (o : Option ℕ) → FreshOrNone (shape_of A) (shape_of B) o → (r : Refusal) → Err r ≡ ok_or o NoLabel → Refuses
      (containment_checks A B a b) r
  missing_refuses o f r e = let h = fresh_missing (shape_of A) (shape_of B) o r e f in rw h.0 (label_refuses h.1)

  module _ (l : ℕ) (f : Fresh (shape_of A) (shape_of B) l) where
    pub room_refuses : ((witness_size (shape_of A) ≤ a) × (witness_size (shape_of A) ≤ b) → ⊥) → Refuses (containment_checks A B a b) Room
    room_refuses n = inr (va, inr (vb, inr ((l, f), inl (n, refl))))

    pub all_pass : witness_size (shape_of A) ≤ a → witness_size (shape_of A) ≤ b → Passes (containment_checks A B a b)
    all_pass x y = (va, (vb, ((l, f), ((x, y), tt))))
