-- Sending a cut into its query, and what is sent into the query at or below the cut's step into the cut. Assumes nothing.
use Rattle.tables.proofs.Kit.{ℕ, zero, suc, ◌+◌, ◌-◌, ◌≤◌, ◌<◌, ◌≡◌, refl, sym, ap, ◌∙◌, subst, inl, inr, ⊎_elim, arith, eq-zero-or-pos}
use Rattle.tables.specs.{Tree.{Child, child, From}, Pattern.{Shape, rows_of}}
use Rattle.tables.proofs.Trees.{Ordered, below_lt, below_root, from_le}
use Rattle.placing.specs.Placement.{Takes, Goes, Sends}
use Rattle.placing.proofs.Compose.{below_sends}
use Rattle.rewriting.specs.Candidate.{Cut}
use Rattle.rewriting.proofs.Cuts.{cut_small, cut_child, cut_below}

module _ {Q C : Shape} {c : ℕ} (vq : Ordered Q.tree) (k : Cut Q c C) (h : c < Q.tree.size) where
  -- the cut is sent into the query
  pub cut_into : Sends C (rows_of Q) (λ t. c + t)
  cut_into = record { takes = λ t l. record { here = cut_small vq k t l h; fits = record { same = k.label t l } }; edge = λ t q d. go t q d (C.axis t) refl }
    where
      go : (t q : ℕ) → Child C.tree q t → (a : ℕ) → C.axis t ≡ a → Goes (rows_of Q) a (c + q) (c + t)
      go t q d a e = pick a e
        where
          up : Child Q.tree (c + q) (c + t)
          up = record { late = omega (arith, d.late); here = cut_small vq k t d.here h; up = k.parent t d.late d.here ∙ ap (λ x. c + x) d.up }

          pick : (a : ℕ) → C.axis t ≡ a → Goes (rows_of Q) a (c + q) (c + t)
          pick zero e = (up, k.axis t d.late d.here ∙ e)
          pick (suc a) e = child up

  -- what the query takes at or below step c, the cut takes
  pub cut_back : {E : Shape} {φ : ℕ → ℕ} → Ordered E.tree → Sends E (rows_of Q) φ → φ 0 ≡ c → Sends E (rows_of C) (λ t. φ t - c)
  cut_back {E} {φ} ve p z = record {
    takes = λ t l. ok t (p.takes t l) (at t l);
    edge = λ t q d. go (E.axis t) (φ q) (φ t) (at q (omega (arith, below_lt ve (child d), d.here))) (p.edge t q d);
  }
    where
      at : (t : ℕ) → t < E.tree.size → From Q.tree c (φ t)
      at t l = subst (λ (x : ℕ). From Q.tree x (φ t)) z
          (⊎_elim (λ e. inl (ap φ (sym e))) (λ h. inr (below_sends p (below_root ve t h l))) (eq-zero-or-pos t))

      ok : (t : ℕ) → Takes (rows_of Q) (E.label t) (φ t) → From Q.tree c (φ t) → Takes (rows_of C) (E.label t) (φ t - c)
      ok t r f =
          let a : c ≤ φ t = from_le vq c (φ t) f in let b : φ t < c + C.tree.size = k.all (φ t) f in
          let y : c + (φ t - c) ≡ φ t = omega arith in
          record { here = omega arith; fits = record { same = sym (k.label (φ t - c) (omega arith)) ∙ ap Q.label y ∙ r.fits.same } }

      go : (a j i : ℕ) → From Q.tree c j → Goes (rows_of Q) a j i → Goes (rows_of C) a (j - c) (i - c)
      go zero j i f h = let d = cut_child vq k j i f h.0 in (d.0, d.1 ∙ h.1)
      go (suc a) j i f h = cut_below vq k f h
