-- Sending composes, at once for placements and for mappings, and has an identity. Assumes nothing.
use Rattle.tables.proofs.Kit.{ℕ, zero, suc, ◌≡◌, refl, ◌∙◌, subst}
use Rattle.tables.specs.{Tree.{Child, Below, child, under, Rows}, Pattern.{Shape, rows_of}}
use Rattle.tables.proofs.Trees.{below_trans}
use Rattle.placing.specs.Placement.{LabelFits, Goes, Sends}

pub fits_refl : (l : ℕ) → LabelFits l l
fits_refl l = record { same = refl }

pub fits_trans : {a b c : ℕ} → LabelFits a b → LabelFits b c → LabelFits a c
fits_trans h k = record { same = k.same ∙ h.same }

-- whatever its axis, a step goes to a proper descendant
pub goes_below : (X : Rows) (a j i : ℕ) → Goes X a j i → Below X.tree j i
goes_below X zero j i h = child h.0
goes_below X (suc a) j i h = h

-- what is below stays below
pub below_sends : {A : Shape} {X : Rows} {f : ℕ → ℕ} → Sends A X f → {s t : ℕ} → Below A.tree s t → Below X.tree (f s) (f t)
below_sends {A} {X} {f} p {s} {t} (child c) = goes_below X (A.axis t) (f s) (f t) (p.edge t s c)
below_sends {A} {X} {f} p {s} {t} (under {m = m} c b) = below_trans (below_sends p b) (goes_below X (A.axis t) (f m) (f t) (p.edge t m c))

-- B sent into A, and A into X, is B sent into X
pub compose : {B A : Shape} {X : Rows} {m f : ℕ → ℕ} → Sends B (rows_of A) m → Sends A X f → Sends B X (λ t. f (m t))
compose {B} {A} {X} {m} {f} p q = record {
  takes = λ t l. record {
    here = (q.takes (m t) (p.takes t l).here).here;
    fits = fits_trans (p.takes t l).fits (q.takes (m t) (p.takes t l).here).fits;
  };
  edge = λ t r c. go (B.axis t) (m r) (m t) (p.edge t r c);
}
  where
    go : (a j i : ℕ) → Goes (rows_of A) a j i → Goes X a (f j) (f i)
    go zero j i h = subst (λ (a : ℕ). Goes X a (f j) (f i)) h.1 (q.edge i j h.0)
    go (suc a) j i h = below_sends q h

-- a pattern is sent into itself
pub identity : (A : Shape) → Sends A (rows_of A) (λ t. t)
identity A = record { takes = λ t l. record { here = l; fits = fits_refl (A.label t) }; edge = λ t r c. go t r c (A.axis t) refl }
  where
    go : (t r : ℕ) → Child A.tree r t → (a : ℕ) → A.axis t ≡ a → Goes (rows_of A) a r t
    go t r c zero e = (c, e)
    go t r c (suc a) e = child c
