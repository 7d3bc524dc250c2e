-- What a loop over the steps fills: the steps by the bytes of their label, the parent of each, and those on which another than the next hangs.
-- Assumes nothing.
use Rattle.tables.proofs.Kit.{ℕ, ◌+◌, ◌/◌, ◌%◌, ◌^◌, ◌<◌, ◌≡◌, sym, ap, ◌∙◌, subst, ◌≢◌, List, arith, ℕ_discrete}
use Rattle.tables.proofs.Kit.{length, get_or, set, replicate, get_or-set_same, get_or-set_other, bit_and, bit_or}
use Rattle.tables.specs.{Bits.{bit, Marks}, Pattern.Shape}
use Rattle.tables.proofs.{Bits.{set_here, set_other}, Marks.{marks_none, marks_to, marks_one, marks_and}, MarkTables.{zeros_at}}
use Rattle.plan.specs.{Steps.{OfLabel, Labelled, Forked}, Leading.ToParent, declared.labels.Labels.Labels}

-- entry u has the one number f u, where u is from 1 on and below k
pub record Pointed (f : ℕ → ℕ) (k : ℕ) (table : List ℕ) : Type 0 where
  pub entry : (u : ℕ) → Marks (get_or table u 0) (λ s. (0 < u) × (u < k) × (f u ≡ s))

module _ (f : ℕ → ℕ) where
  -- zeros have none
  pub pointed_none : (n : ℕ) → Pointed f 1 (replicate n 0)
  pointed_none n =
      record { entry = λ u. rw (zeros_at n u) (marks_none (λ s. (0 < u) × (u < 1) × (f u ≡ s)) (λ s q. omega (arith, q.0, q.1))) }

  -- entry k gets its number
  pub pointed_more : (k : ℕ) (table : List ℕ) → 0 < k → k < length table → Pointed f k table → Pointed f (k + 1) (set table k (2 ^ f k))
  pointed_more k table l h m = record { entry = λ u. go u (ℕ_discrete u k) }
    where
      go : (u : ℕ) → Dec (u ≡ k) → Marks (get_or (set table k (2 ^ f k)) u 0) (λ s. (0 < u) × (u < k + 1) × (f u ≡ s))
      go u (yes e) =
          rw (e, get_or-set_same)
          (marks_to (2 ^ f k) (λ s. s ≡ f k) (λ s. (0 < k) × (k < k + 1) × (f k ≡ s)) (λ s q. (l, omega arith, sym q)) (λ s q. sym q.2) (marks_one (f k)))
      go u (no n) =
          rw get_or-set_other
          (marks_to (get_or table u 0) (λ s. (0 < u) × (u < k) × (f u ≡ s)) (λ s. (0 < u) × (u < k + 1) × (f u ≡ s))
          (λ s q. (q.0, omega (arith, q.1), q.2)) (λ s q. (q.0, omega (arith, q.1), q.2)) (m.entry u))

-- x has the number f u of each u from 1 on and below k that is not the next one after it
pub record Forking (f : ℕ → ℕ) (k x : ℕ) : Type 0 where
  pub has : (u : ℕ) → 0 < u → u < k → f u + 1 ≢ u → bit x (f u) ≡ 1

module _ (f : ℕ → ℕ) where
  -- there is none from 1 on and below 1
  pub forking_none : (x : ℕ) → Forking f 1 x
  forking_none x = record { has = λ u l h n. absurd (omega arith) }

  -- k is the next one after its number
  pub forking_skip : (k x : ℕ) → f k + 1 ≡ k → Forking f k x → Forking f (k + 1) x
  forking_skip k x e m = record {
    has = λ u l h n. elim (ℕ_discrete u k) [ yes z ↦ absurd (n (subst (λ y. f y + 1 ≡ y) (sym z) e)) | no w ↦ m.has u l (omega arith) n ];
  }

  -- the number of k is put
  pub forking_more : (k x : ℕ) → Forking f k x → Forking f (k + 1) (bit_or x (2 ^ f k))
  forking_more k x m = record { has = λ u l h n. go u l h n (ℕ_discrete u k) (ℕ_discrete (f u) (f k)) }
    where
      go : (u : ℕ) → 0 < u → u < k + 1 → f u + 1 ≢ u → Dec (u ≡ k) → Dec (f u ≡ f k) → bit (bit_or x (2 ^ f k)) (f u) ≡ 1
      go u l h n d (yes e) = rw e (set_here x (f k))
      go u l h n (yes z) (no w) = absurd (w (ap f z))
      go u l h n (no z) (no w) = set_other x (f k) (f u) w ∙ m.has u l (omega arith) n

module _ (A : Shape) where
  -- the two bytes tell whether a label fits
  pub of_label : (x : Labels) (l : ℕ) → Labelled A x → Marks (bit_and (get_or x.low (l % 256) 0) (get_or x.high (l / 256) 0)) (OfLabel A l)
  of_label x l t =
      let y = get_or x.low (l % 256) 0 in let z = get_or x.high (l / 256) 0 in
      let Low : ℕ → Type 0 = λ s. (s < A.tree.size) × (A.label s % 256 ≡ l % 256) in
      let High : ℕ → Type 0 = λ s. (s < A.tree.size) × (A.label s / 256 ≡ l / 256) in
      marks_to (bit_and y z) (λ s. Low s × High s) (OfLabel A l)
      (λ s q. (q.0.0, record { same = omega (arith, q.0.1, q.1.1) }))
      (λ s q. ((q.0, omega (arith, q.1.same)), (q.0, omega (arith, q.1.same))))
      (marks_and y z Low High (t.lows (l % 256)) (t.highs (l / 256)))

  -- the steps on which another step than the next hangs
  pub forks_all : (x : ℕ) → Forking A.tree.parent A.tree.size x → Forked A x
  forks_all x m =
      record { has = λ s t k n. subst (λ y. bit x y ≡ 1) k.up (m.has t k.late k.here (λ e. n (subst (λ y. y + 1 ≡ t) k.up e))) }

  -- the parents of all steps
  pub parents_all : (to : List ℕ) → Pointed A.tree.parent A.tree.size to → (t : ℕ) → Marks (get_or to t 0) (ToParent A t)
  parents_all to m t =
      marks_to (get_or to t 0) (λ s. (0 < t) × (t < A.tree.size) × (A.tree.parent t ≡ s)) (ToParent A t)
      (λ s q. record { late = q.0; here = q.1; up = q.2 }) (λ s q. (q.late, q.here, q.up)) (m.entry t)
