-- The smallest way to send a task: each row in turn goes to the smallest number that its parent's and what lies below it allow. It runs, it fits whenever
-- anything does, and no other list is smaller. Assumes nothing.
use Rattle.tables.proofs.Kit.{ℕ, zero, suc, ◌+◌, ◌≤◌, ◌<◌, ◌≡◌, refl, sym, ap, ◌∙◌, subst, ⊎_elim, Bool, true, false, ◌&&◌, cond, List, [], ◌∷◌, ◌++◌}
use Rattle.tables.proofs.Kit.{arith, eq-or-lt_of_le, eq-zero-or-pos, dec_lt, T, length, get_or, length-append, get_or-append, get_or-append-add}
use Rattle.tables.specs.Tree.{Tree, Child, child}
use Rattle.tables.proofs.{Choice.below_or_at, Trees.{Ordered, below_lt}, Tests.{Tells, tells_and}}
use Rattle.placing.specs.Smallest.{NoLater, same, less}
use Rattle.placing.proofs.{Fit.{Task, Fit, Able, able_ok, able_next, whole_able}, Probe.{Probe, Probes, can_send, tells_can}}

-- two lists each no later than the other are one
pub no_later_unique : (f g : ℕ → ℕ) (n : ℕ) → NoLater f g n → NoLater g f n → (u : ℕ) → u < n → f u ≡ g u
no_later_unique f g n (same h) k u m = h u m
no_later_unique f g n (less t l h d) (same k) u m = absurd (omega (arith, k t l))
no_later_unique f g n (less t l h d) (less s m k e) u o = absurd (go (dec_lt s t) (dec_lt t s))
  where
    go : Dec (s < t) → Dec (t < s) → ⊥
    go (yes p) q = omega (arith, h s p)
    go (no p) (yes q) = omega (arith, k t q)
    go (no p) (no q) = let z : s ≡ t = omega arith in omega (arith, ap f z, ap g z)

-- f takes the smallest number that it can, row by row
pub record Greedy (P : Task) (First : ℕ → Type 0) (f : ℕ → ℕ) : Type 0 where
  pub first : (j : ℕ) → First j → Able P 0 j → f 0 ≤ j
  pub next : (t q j : ℕ) → Child P.tree q t → P.edge t (f q) j → Able P t j → f t ≤ j

module _ (P : Task) (First : ℕ → Type 0) (v : Ordered P.tree) (f g : ℕ → ℕ) (h : Greedy P First f) (k : Fit P g) (st : First (g 0)) where
  can : (t : ℕ) → t < P.tree.size → Able P t (g t)
  can t l = whole_able P First v t (g t) l (record { by = g; fit = k; start = st; at = refl })

  at_most : (t : ℕ) → t < P.tree.size → ((u : ℕ) → u < t → f u ≡ g u) → f t ≤ g t
  at_most t l e = ⊎_elim (λ z. subst (λ (x : ℕ). f x ≤ g x) (sym z) (h.first (g 0) st (can 0 v.some)))
      (λ p. let c : Child P.tree (P.tree.parent t) t = record { late = p; here = l; up = refl } in
      h.next t (P.tree.parent t) (g t) c (subst (λ (x : ℕ). P.edge t x (g t)) (sym (e (P.tree.parent t) (below_lt v (child c))))
      (k.edge t (P.tree.parent t) c)) (can t l))
      (eq-zero-or-pos t)

  to : (n : ℕ) → n ≤ P.tree.size → NoLater f g n
  to zero l = same (λ u m. absurd (omega arith))
  to (suc n) l = go (to n (omega arith))
    where
      go : NoLater f g n → NoLater f g (suc n)
      go (less t m e d) = less t (omega arith) e d
      go (same e) = ⊎_elim (λ z. same (λ u m. below_or_at m (e u) (λ y. ap f y ∙ z ∙ ap g (sym y)))) (λ d. less n (omega arith) e d)
          (eq-or-lt_of_le (at_most n (omega arith) e))

  -- a greedy list is no later than any that fits
  pub greedy_least : NoLater f g P.tree.size
  greedy_least = to P.tree.size (omega arith)

-- the smallest number from i on that passes, in k tries
unfoldable pub first_from : ℕ → ℕ → (ℕ → Bool) → ℕ
first_from zero i p = i
first_from (suc k) i p = cond (p i) i (first_from k (suc i) p)

pub first_from_start : (p : ℕ → Bool) (k i : ℕ) → i ≤ first_from k i p
unfolding first_from
first_from_start p zero i = omega arith
first_from_start p (suc k) i = go (p i) (first_from_start p k (suc i))
  where
    go : (b : Bool) → suc i ≤ first_from k (suc i) p → i ≤ cond b i (first_from k (suc i) p)
    go true l = omega arith
    go false l = omega arith

-- where j passes, the search from i finds one that passes and is no larger
pub first_from_lem : (p : ℕ → Bool) (k i j : ℕ) → i ≤ j → j < i + k → T (p j) → T (p (first_from k i p)) × (first_from k i p ≤ j)
unfolding first_from
first_from_lem p zero i j l m t = absurd (omega arith)
first_from_lem p (suc k) i j l m t = go (p i) (λ x. x) (λ x. x) (λ d. first_from_lem p k (suc i) j d (omega arith) t)
  where
    go : (b : Bool) → (T b → T (p i)) → (T (p i) → T b) → (suc i ≤ j → T (p (first_from k (suc i) p)) × (first_from k (suc i) p ≤ j))
        → T (p (cond b i (first_from k (suc i) p))) × (cond b i (first_from k (suc i) p) ≤ j)
    go true x y r = (x tt, l)
    go false x y r = ⊎_elim (λ e. absurd (y (subst (λ (n : ℕ). T (p n)) (sym e) t))) r (eq-or-lt_of_le l)

-- where some number below n is right, the search finds a right one that is no larger
found : (p : ℕ → Bool) (X : ℕ → Type 0) → ((i : ℕ) → Tells (p i) (X i)) → (n j : ℕ) → j < n → X j → X (first_from n 0 p) × (first_from n 0 p ≤ j)
found p X h n j l x = let r = first_from_lem p n 0 j (omega arith) (omega arith) ((h j).test x) in ((h (first_from n 0 p)).says r.0, r.1)

-- the smallest number for row t, given those of the rows before it
unfoldable pub pick : Tree → Probe → ℕ → List ℕ → ℕ
pick S R zero xs = first_from R.bound 0 (λ i. R.first i && can_send S R 0 i)
pick S R (suc t) xs = first_from R.bound 0 (λ j. R.edge (suc t) (get_or xs (S.parent (suc t)) 0) j && can_send S R (suc t) j)

-- the numbers of the first k rows
unfoldable pub chosen : Tree → Probe → ℕ → List ℕ
chosen S R zero = []
chosen S R (suc k) = let xs = chosen S R k in xs ++ (pick S R k xs ∷ [])

unfoldable pub best : Tree → Probe → ℕ → ℕ
best S R t = get_or (chosen S R S.size) t 0

pub chosen_length : (S : Tree) (R : Probe) (k : ℕ) → length (chosen S R k) ≡ k
unfolding chosen
chosen_length S R zero = refl
chosen_length S R (suc k) = length-append (chosen S R k) (pick S R k (chosen S R k) ∷ []) ∙ omega (arith, chosen_length S R k)

pub chosen_at : (S : Tree) (R : Probe) (n k : ℕ) → k < n → get_or (chosen S R n) k 0 ≡ pick S R k (chosen S R k)
unfolding chosen
chosen_at S R zero k l = absurd (omega arith)
chosen_at S R (suc n) k l = below_or_at l
    (λ h. get_or-append (chosen S R n) (pick S R n (chosen S R n) ∷ []) 0 k (omega (arith, chosen_length S R n)) ∙ chosen_at S R n k h)
    (λ e. ap (λ i. get_or (chosen S R n ++ (pick S R n (chosen S R n) ∷ [])) i 0) (omega (arith, chosen_length S R n))
    ∙ get_or-append-add (chosen S R n) (pick S R n (chosen S R n) ∷ []) 0 0 ∙ ap (λ x. pick S R x (chosen S R x)) (sym e))

best_is : (S : Tree) (R : Probe) (t : ℕ) → t < S.size → best S R t ≡ pick S R t (chosen S R t)
unfolding best
best_is S R t l = chosen_at S R S.size t l

best_before : (S : Tree) (R : Probe) (t q : ℕ) → q < t → q < S.size → get_or (chosen S R t) q 0 ≡ best S R q
best_before S R t q l m = chosen_at S R t q l ∙ sym (best_is S R q m)

module _ (R : Probe) (P : Task) (First : ℕ → Type 0) (p : Probes R P First) where
  abbrev at : ℕ → ℕ
  at t = best P.tree R t

  -- row 0 goes to the smallest number that is right
  at_zero : (j : ℕ) → First j → Able P 0 j → (First (at 0) × Able P 0 (at 0)) × (at 0 ≤ j)
  unfolding pick
  at_zero j f a =
      let n : 0 < P.tree.size = p.ordered.some in
      rw (best_is P.tree R 0 n)
      (found (λ i. R.first i && can_send P.tree R 0 i) (λ i. First i × Able P 0 i) (λ i. tells_and (p.first i) (tells_can R P First p 0 i n))
      R.bound j (p.within 0 j (able_ok P a)) (f, a))

  -- a later row goes to the smallest number that is right under its parent's
  at_child : (t q j : ℕ) → Child P.tree q t → P.edge t (at q) j → Able P t j → (P.edge t (at q) (at t) × Able P t (at t)) × (at t ≤ j)
  unfolding pick
  at_child zero q j c h a = absurd (omega (arith, c.late))
  at_child (suc t) q j c h a =
      let l : q < suc t = below_lt p.ordered (child c) in
      let e : get_or (chosen P.tree R (suc t)) (P.tree.parent (suc t)) 0 ≡ best P.tree R q
      = ap (λ o. get_or (chosen P.tree R (suc t)) o 0) c.up ∙ best_before P.tree R (suc t) q l (omega (arith, c.here)) in
      rw (best_is P.tree R (suc t) c.here, e)
      (found (λ i. R.edge (suc t) (best P.tree R q) i && can_send P.tree R (suc t) i) (λ i. P.edge (suc t) (best P.tree R q) i × Able P (suc t) i)
      (λ i. tells_and (p.edge (suc t) (best P.tree R q) i) (tells_can R P First p (suc t) i c.here))
      R.bound j (p.within (suc t) j (able_ok P a)) (h, a))

  -- the smallest list is greedy
  pub best_greedy : Greedy P First at
  best_greedy = record { first = λ j f a. (at_zero j f a).1; next = λ t q j c h a. (at_child t q j c h a).1 }

  module _ (j : ℕ) (f : First j) (a : Able P 0 j) where
    best_able_to : (k t : ℕ) → t ≤ k → t < P.tree.size → Able P t (at t)
    best_able_to zero t l m = subst (λ (x : ℕ). Able P x (at x)) {x = 0} (omega arith) (at_zero j f a).0.1
    best_able_to (suc k) t l m = ⊎_elim (λ z. best_able_to k t (omega arith) m) (λ w. let q : ℕ = P.tree.parent t in
        let c : Child P.tree q t = record { late = w; here = m; up = refl } in
        let d : q < t = below_lt p.ordered (child c) in
        let n = able_next P (best_able_to k q (omega arith) (omega arith)) t c in
        (at_child t q n.0 c n.1 n.2).0.1)
        (eq-zero-or-pos t)

    best_able : (t : ℕ) → t < P.tree.size → Able P t (at t)
    best_able t l = best_able_to t t (omega arith) l

    -- and fits whenever anything does
    pub best_fit : Fit P at
    best_fit = record {
      ok = λ t l. able_ok P (best_able t l);
      edge = λ t q c.
          let n = able_next P (best_able q (omega (arith, below_lt p.ordered (child c), c.here))) t c in
          (at_child t q n.0 c n.1 n.2).0.0;
    }

    pub best_first : First (at 0)
    best_first = (at_zero j f a).0.0
