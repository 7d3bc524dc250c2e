-- Marks that a loop over rows gathers, in one number or in a table by a key. Assumes nothing.
use Rattle.tables.proofs.Kit.{ℕ, ◌+◌, ◌^◌, ◌≤◌, ◌<◌, ◌≡◌, refl, sym, subst, ◌⊎◌, inl, inr, ◌≢◌, ⊎_elim, List, arith, ℕ_discrete, bit_or}
use Rattle.tables.proofs.Kit.{length, get_or, set, replicate, get_or-set_same, get_or-set_other}
use Rattle.std.proofs.lemmas.Grind.{common_steps}
use Rattle.tables.specs.{Bits.Marks, Tree.Child, Pattern.{Shape, ValidShape}}
use Rattle.tables.proofs.{Marks.{marks_none, marks_to, marks_with}, Rules.shape_ordered, Trees.parent_lt}

-- from low on and below k, with Q
abbrev pub Among : ℕ → ℕ → (ℕ → Type 0) → ℕ → Type 0
Among low k Q s = (low ≤ s) × (s < k) × Q s

module _ (low : ℕ) (Q : ℕ → Type 0) where
  -- there is none from low on and below low
  pub among_none : Marks 0 (Among low low Q)
  among_none = marks_none (Among low low Q) (λ s q. omega (arith, q.0, q.1))

  -- one of those below k is one of those below k + 1, and the other way where it is not k
  wider : (k s : ℕ) → Among low k Q s → Among low (k + 1) Q s
  wider k s q = (q.0, omega (arith, q.1), q.2)

  narrower : (k s : ℕ) → Among low (k + 1) Q s → s ≢ k → Among low k Q s
  narrower k s q n = (q.0, omega (arith, q.1), q.2)

  -- k is not one of them
  pub among_skip : (x k : ℕ) → (Q k → ⊥) → Marks x (Among low k Q) → Marks x (Among low (k + 1) Q)
  among_skip x k h = marks_to x (Among low k Q) (Among low (k + 1) Q) (wider k) (λ s q. narrower k s q (λ e. h (subst Q e q.2)))

  -- k is one of them
  pub among_more : (x k : ℕ) → low ≤ k → Q k → Marks x (Among low k Q) → Marks (bit_or x (2 ^ k)) (Among low (k + 1) Q)
  among_more x k l h m =
      marks_to (bit_or x (2 ^ k)) (λ s. Among low k Q s ⊎ (s ≡ k)) (Among low (k + 1) Q)
      (λ s o. ⊎_elim (λ q. wider k s q) (λ e. (omega arith, omega arith, subst Q (sym e) h)) o)
      (λ s q. elim (ℕ_discrete s k) [ yes e ↦ inr e | no n ↦ inl (narrower k s q n) ])
      (marks_with x k (Among low k Q) m)

-- every entry of zeros is 0, past the end too
pub zeros_at : (n b : ℕ) → get_or {A = ℕ} (replicate n 0) b 0 ≡ 0
zeros_at n b = grind (arith, common_steps)

-- entry b has the numbers from low on and below k whose key is b
pub record Keyed (f : ℕ → ℕ) (low k : ℕ) (table : List ℕ) : Type 0 where
  pub entry : (b : ℕ) → Marks (get_or table b 0) (Among low k (λ s. f s ≡ b))

module _ (f : ℕ → ℕ) (low : ℕ) where
  -- zeros have none
  pub keyed_none : (n : ℕ) → Keyed f low low (replicate n 0)
  keyed_none n = record { entry = λ b. rw (zeros_at n b) (among_none low (λ s. f s ≡ b)) }

  -- k goes to the entry of its key
  pub keyed_more : (k : ℕ) (table : List ℕ) → low ≤ k → f k < length table → Keyed f low k table
      → Keyed f low (k + 1) (set table (f k) (bit_or (get_or table (f k) 0) (2 ^ k)))
  keyed_more k table l h m = record { entry = λ b. go b (ℕ_discrete b (f k)) }
    where
      go : (b : ℕ) → Dec (b ≡ f k) → Marks (get_or (set table (f k) (bit_or (get_or table (f k) 0) (2 ^ k))) b 0) (Among low (k + 1) (λ s. f s ≡ b))
      go b (yes e) = rw (e, get_or-set_same) (among_more low (λ s. f s ≡ f k) (get_or table (f k) 0) k l refl (m.entry (f k)))
      go b (no n) = rw get_or-set_other (among_skip low (λ s. f s ≡ b) (get_or table b 0) k (λ e. n (sym e)) (m.entry b))

-- with 0 the lowest, the bound alone is left
pub keyed_all : (f : ℕ → ℕ) (n : ℕ) (table : List ℕ) → Keyed f 0 n table → (b : ℕ) → Marks (get_or table b 0) (λ s. (s < n) × (f s ≡ b))
keyed_all f n table m b =
    marks_to (get_or table b 0) (Among 0 n (λ s. f s ≡ b)) (λ s. (s < n) × (f s ≡ b))
    (λ s q. (q.1, q.2)) (λ s q. (omega arith, q.0, q.1)) (m.entry b)

-- the child steps of all steps, by their parent
pub children_all : (A : Shape) (to : List ℕ) → Keyed A.tree.parent 1 A.tree.size to → (s : ℕ) → Marks (get_or to s 0) (Child A.tree s)
children_all A to m s =
    marks_to (get_or to s 0) (Among 1 A.tree.size (λ t. A.tree.parent t ≡ s)) (Child A.tree s)
    (λ t q. record { late = q.0; here = q.1; up = q.2 }) (λ t q. (q.late, q.here, q.up)) (m.entry s)

module _ (A : Shape) (v : ValidShape A) where
  -- a step's parent is below 64
  pub parent_few : (t : ℕ) → 0 < t → t < A.tree.size → A.tree.parent t < 64
  parent_few t l h = let p = parent_lt (shape_ordered v) t l h in let f = v.few in omega arith

  -- a step's label is below 65536
  pub label_small : (s : ℕ) → s < A.tree.size → A.label s < 65536
  label_small s h = let p = (v.steps s h).label.most in omega arith
