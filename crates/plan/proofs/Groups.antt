-- The groups of later child steps: how they are filled, and what they find. Assumes nothing.
use Rattle.tables.proofs.Kit.{ℕ, ◌+◌, ◌^◌, ◌<◌, ◌≡◌, sym, ap, ◌∙◌, subst, ◌⊎◌, inl, inr, ⊎_elim, List, arith}
use Rattle.tables.proofs.Kit.{ℕ_discrete, bit_and, bit_or, length, get_or, set, take, get_or-set_same, get_or-set_other, get_or-take}
use Rattle.tables.specs.{Bits.{bit, Marks}, Tree.{Child, child}, Pattern.{Shape, ValidShape}}
use Rattle.tables.proofs.{Bits.bit_zero, Marks.{marks_none, marks_to, marks_bits, marks_or, marks_without}, Rules.shape_ordered, Trees.below_lt}
use Rattle.plan.specs.{Steps.{without, Next}, Leading.{LaterChild, fork, Grouped, Groups, Reached}, declared.forks.Fork.Fork}

module _ (to : List ℕ) (next : ℕ) where
  module _ (s k : ℕ) (forks : List Fork) (g : Groups to next s k forks) where
    -- step s has no other child steps
    pub groups_skip : without (get_or to s 0) next ≡ 0 → Groups to next (s + 1) k forks
    groups_skip e = record {
      few = omega (arith, g.few);
      each = λ j l. let w = g.each j l in (w.0, omega (arith, w.1), w.2, w.3);
      all = λ u l n. elim (ℕ_discrete u s) [
        | yes h ↦ absurd (n (subst (λ (x : ℕ). without (get_or to x 0) next ≡ 0) (sym h) e))
        | no h ↦ g.all u (omega arith)
            n
      ];
    }

    module _ (x : ℕ) (e : x ≡ without (get_or to s 0) next) (a : k < length forks) where
      -- the list with the step's entry
      abbrev after : List Fork
      after = set forks k (record { step = 2 ^ s; later = x })

      -- entry j is that of step u
      abbrev At : ℕ → ℕ → Type 0
      At j u = ((fork after j).step ≡ 2 ^ u) × ((fork after j).later ≡ without (get_or to u 0) next)

      own : At k s
      own = let h = get_or-set_same forks k (record { step = 2 ^ s; later = x }) (record { step = 0; later = 0 }) a in
          (ap (λ (f : Fork). f.step) h, ap (λ (f : Fork). f.later) h ∙ e)

      -- the entries before it stay
      before : (j u : ℕ) → j < k → (fork forks j).step ≡ 2 ^ u → (fork forks j).later ≡ without (get_or to u 0) next → At j u
      before j u l w z =
          let h = get_or-set_other forks k j (record { step = 2 ^ s; later = x }) (record { step = 0; later = 0 }) (omega arith) in
          (ap (λ (f : Fork). f.step) h ∙ w, ap (λ (f : Fork). f.later) h ∙ z)

      each : (j : ℕ) → j < k + 1 → Dec (j ≡ k) → (u : ℕ) × (u < s + 1) × At j u
      each j l (yes h) = (s, omega arith, subst (λ (y : ℕ). At y s) (sym h) own)
      each j l (no h) = let w = g.each j (omega arith) in (w.0, omega (arith, w.1), before j w.0 (omega arith) w.2 w.3)

      all : (u : ℕ) → u < s + 1 → (without (get_or to u 0) next ≡ 0 → ⊥) → Dec (u ≡ s) → (j : ℕ) × (j < k + 1) × At j u
      all u l n (yes h) = (k, omega arith, subst (λ (y : ℕ). At k y) (sym h) own)
      all u l n (no h) = let w = g.all u (omega arith) n in (w.0, omega (arith, w.1), before w.0 u w.1 w.2 w.3)

      -- step s has others, x
      pub groups_more : Groups to next (s + 1) (k + 1) (set forks k (record { step = 2 ^ s; later = x }))
      groups_more = record {
        few = omega (arith, g.few);
        each = λ j l. let w = each j l (ℕ_discrete j k) in (w.0, w.1, w.2.0, w.2.1);
        all = λ u l n. let w = all u l n (ℕ_discrete u s) in (w.0, w.1, w.2.0, w.2.1);
      }

-- what has a bit is not 0
pub bit_some : (x t : ℕ) → bit x t ≡ 1 → x ≡ 0 → ⊥
bit_some x t b e = let z = bit_zero t in let h : bit 0 t ≡ 1 = subst (λ (y : ℕ). bit y t ≡ 1) e b in omega arith

-- over a pattern the groups are its later child steps
module _ (A : Shape) (v : ValidShape A) (to : List ℕ) (next : ℕ) (c : (s : ℕ) → Marks (get_or to s 0) (Child A.tree s)) (m : Marks next (Next A)) where
  others : (s : ℕ) → Marks (without (get_or to s 0) next) (LaterChild A s)
  others s = marks_to (without (get_or to s 0) next) (λ t. Child A.tree s t × (Next A t → ⊥)) (LaterChild A s)
      (λ t q. (q.0, λ e. q.1 (q.0.late, q.0.here, omega (arith, q.0.up))))
      (λ t q. (q.0, λ w. q.1 (omega (arith, q.0.up, w.2))))
      (marks_without (get_or to s 0) next (Child A.tree s) (Next A) (c s) m)

  pub grouped : (r : ℕ) (forks : List Fork) → length (take A.tree.size to) ≡ A.tree.size
      → Groups (take A.tree.size to) next (length (take A.tree.size to)) r forks → Grouped A r forks
  grouped r forks e g =
      let n = A.tree.size in record {
        few = omega (arith, g.few, v.few);
        each = λ k l.
            let w = g.each k l in
            let h : w.0 < n = omega (arith, w.1) in
            (w.0, w.2, rw (w.3, get_or-take n to w.0 0 h) (others w.0));
        all = λ s t h.
            let l : s < n = omega (arith, below_lt (shape_ordered v) (child h.0), h.0.here) in
            let b : bit (without (get_or (take n to) s 0) next) t ≡ 1 = rw (get_or-take n to s 0 l) ((others s).put t h) in
            let w = g.all s (omega arith) (bit_some _ t b) in
            (w.0, w.1, w.2, rw w.3 b);
      }

module _ (forks : List Fork) (m : ℕ) where
  pub reached_none : Marks 0 (Reached forks m 0)
  reached_none = marks_none (Reached forks m 0) (λ s q. omega (arith, q.1))

  -- entry k has no bit of m
  pub reached_skip : (x k : ℕ) → bit_and m (fork forks k).later ≡ 0 → Marks x (Reached forks m k) → Marks x (Reached forks m (k + 1))
  reached_skip x k e = marks_to x (Reached forks m k) (Reached forks m (k + 1)) (λ s q. (q.0, omega (arith, q.1), q.2, q.3))
      (λ s q. elim (ℕ_discrete q.0 k) [
        | yes h ↦ absurd (q.2 (subst (λ (y : ℕ). bit_and m (fork forks y).later ≡ 0) (sym h) e))
        | no h ↦ (q.0, omega (arith, q.1), q.2, q.3)
      ])

  -- entry k has one
  pub reached_more : (x k : ℕ) → (bit_and m (fork forks k).later ≡ 0 → ⊥) → Marks x (Reached forks m k) → Marks (bit_or x (fork forks k).step)
      (Reached forks m (k + 1))
  reached_more x k n w = marks_to (bit_or x (fork forks k).step) (λ s. Reached forks m k s ⊎ (bit (fork forks k).step s ≡ 1))
      (Reached forks m (k + 1))
      (λ s o. ⊎_elim (λ q. (q.0, omega (arith, q.1), q.2, q.3)) (λ b. (k, omega arith, n, b)) o)
      (λ s q. elim (ℕ_discrete q.0 k) [
        | yes h ↦ inr (subst (λ (y : ℕ). bit (fork forks y).step s ≡ 1) h q.3)
        | no h ↦ inl (q.0, omega (arith, q.1), q.2, q.3)
      ])
      (marks_or x (fork forks k).step (Reached forks m k) (λ s. bit (fork forks k).step s ≡ 1) w (marks_bits (fork forks k).step))
