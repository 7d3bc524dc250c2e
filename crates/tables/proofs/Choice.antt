-- Choices by a test, and what holds below k + 1: plain numbers, no tables. Assumes nothing.
use Rattle.tables.proofs.Kit.{ℕ, suc, ◌<◌, ◌≡◌, refl, ⊎_elim, ◌≢◌, arith, eq-or-lt_of_le, ℕ_discrete}

-- a where the test holds, else b
unfoldable pub sel : {X : Type 0} → Dec X → ℕ → ℕ → ℕ
sel (yes h) a b = a
sel (no h) a b = b

pub sel_yes : {X : Type 0} (d : Dec X) (a b : ℕ) → X → sel d a b ≡ a
unfolding sel
sel_yes (yes h) a b x = refl
sel_yes (no h) a b x = absurd (h x)

pub sel_no : {X : Type 0} (d : Dec X) (a b : ℕ) → (X → ⊥) → sel d a b ≡ b
unfolding sel
sel_no (yes h) a b x = absurd (x h)
sel_no (no h) a b x = refl

-- f with its value at k replaced
unfoldable pub upd : (ℕ → ℕ) → ℕ → ℕ → ℕ → ℕ
upd f k v u = sel (ℕ_discrete u k) v (f u)

pub upd_same : (f : ℕ → ℕ) (k v u : ℕ) → u ≡ k → upd f k v u ≡ v
unfolding upd
upd_same f k v u e = sel_yes (ℕ_discrete u k) v (f u) e

pub upd_other : (f : ℕ → ℕ) (k v u : ℕ) → u ≢ k → upd f k v u ≡ f u
unfolding upd
upd_other f k v u e = sel_no (ℕ_discrete u k) v (f u) e

-- below k + 1 is below k or at k
pub below_or_at : {X : Type 0} {u k : ℕ} → u < suc k → (u < k → X) → (u ≡ k → X) → X
below_or_at g f h = ⊎_elim (λ e. h (omega arith)) (λ e. f (omega arith)) (eq-or-lt_of_le g)
