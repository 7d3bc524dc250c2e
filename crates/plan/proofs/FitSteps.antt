-- The steps that are missing below a row, the steps that lack one of them, found by a table, a shift or groups, and the steps that fit. Assumes nothing.
use Rattle.tables.proofs.Kit.{ℕ, ◌+◌, ◌/◌, ◌^◌, ◌≡◌, sym, subst, ◌⊎◌, inl, inr, ⊎_elim, List, arith, ℕ_discrete, bit_or, bit_and}
use Rattle.tables.specs.{Bits.{bit, Marks}, Tree.Child, Pattern.Shape}
use Rattle.tables.proofs.Bits.{bit_pow, some_bit}
use Rattle.tables.proofs.Marks.{bit_cases, marks_none, marks_bits, marks_to, marks_one, marks_or, marks_and, marks_without, marks_lt}
use Rattle.placing.specs.Placement.{LabelFits}
use Rattle.plan.specs.Steps.{mask_for, without, OfLabel, OfAxis, SetsOf, Missing, Lacks, Lacking, FitsBy}
use Rattle.plan.specs.{Leading.{ToParent, Led, Spread, looked_up, LaterChild, fork, Grouped, Reached}, declared.{edges.Sets.Sets, forks.Fork.Fork}}
use Rattle.plan.proofs.{Bytes.look_up_led, Shifts.{only_next, shift_down, shift_in}, Groups.bit_some}

module _ (A : Shape) (sets : Sets) (g : SetsOf A sets) (c d : ℕ) where
  -- an edge has an axis, and a place is found by it
  abbrev Edge : ℕ → Type 0
  Edge t = OfAxis A 0 t ⊎ OfAxis A 1 t

  abbrev Had : ℕ → Type 0
  Had t = ((bit c t ≡ 1) × OfAxis A 0 t) ⊎ ((bit d t ≡ 1) × OfAxis A 1 t)

  -- having a place, by the axis
  place : (t a b : ℕ) → a ≡ b → bit (mask_for a c d) t ≡ 1 → bit (mask_for b c d) t ≡ 1
  place t a b e h = subst (λ (x : ℕ). bit (mask_for x c d) t ≡ 1) e h

  missing_into : (t : ℕ) → Edge t × (Had t → ⊥) → Missing A c d t
  missing_into t q = ⊎_elim (λ o. (o.0, o.1, λ h. q.1 (inl (place t (A.axis t) 0 o.2 h, o))))
      (λ o. (o.0, o.1, λ h. q.1 (inr (place t (A.axis t) 1 o.2 h, o))))
      q.0

  missing_back : (t : ℕ) → Missing A c d t → Edge t × (Had t → ⊥)
  missing_back t q = (
    ⊎_elim (λ e. inl (q.0, q.1, e)) (λ e. inr (q.0, q.1, e)) (g.valid.steps t q.1).axis,
    λ f. q.2 (⊎_elim (λ o. place t 0 (A.axis t) (sym o.1.2) o.0) (λ o. place t 1 (A.axis t) (sym o.1.2) o.0) f),
  )

  -- the steps that are missing, by the sets of the axes
  pub marks_missing : Marks (without (bit_or sets.child sets.descendant) (bit_or (bit_and c sets.child) (bit_and d sets.descendant))) (Missing A c d)
  marks_missing =
      let x = sets.child in let y = sets.descendant in
      let on = marks_and c x (λ t. bit c t ≡ 1) (OfAxis A 0) (marks_bits c) g.child in
      let under = marks_and d y (λ t. bit d t ≡ 1) (OfAxis A 1) (marks_bits d) g.descendant in
      marks_to (without (bit_or x y) (bit_or (bit_and c x) (bit_and d y))) (λ t. Edge t × (Had t → ⊥)) (Missing A c d) missing_into missing_back
      (marks_without (bit_or x y) (bit_or (bit_and c x) (bit_and d y)) Edge Had
      (marks_or x y (OfAxis A 0) (OfAxis A 1) g.child g.descendant)
      (marks_or (bit_and c x) (bit_and d y) (λ t. (bit c t ≡ 1) × OfAxis A 0 t) (λ t. (bit d t ≡ 1) × OfAxis A 1 t) on under))

  module _ (x : ℕ) (m : Marks x (Missing A c d)) where
    -- the steps that lack one are the parents of those that are missing
    led_lacks : (s : ℕ) → Led (ToParent A) x s → Lacks A c d s
    led_lacks s q = (q.0, q.2, (m.only q.0 q.1).2)

    lost : (s : ℕ) (q : Lacks A c d s) → bit x q.0 ≡ 1
    lost s q = m.put q.0 (q.1.late, q.1.here, q.2)

    -- by the table of parents
    pub lacking_table : (mask : ℕ) (table : List ℕ) → Spread (ToParent A) A.tree.size table → Lacking A mask c d (looked_up table x 8)
    lacking_table mask table t =
        let r = look_up_led (ToParent A) A.tree.size table x t (marks_lt 64 x (Missing A c d) m (λ s q. omega (arith, q.1, g.valid.few)))
        (λ s e. (m.only s e).1) in
        record { sound = λ s b. led_lacks s (r.only s b); complete = λ s b q. r.put s (q.0, lost s q, q.1) }

    -- by a shift, for steps that are not forked
    pub lacking_shift : (mask : ℕ) → bit_and mask sets.forked ≡ 0 → Lacking A mask c d (bit_and x sets.next / 2 ^ 1)
    lacking_shift mask z = record {
      sound = λ s b. led_lacks s (shift_down A g.valid sets.next sets.forked g.next g.forked x s b);
      complete = λ s b q. shift_in A g.valid sets.next sets.forked g.next g.forked x s q.0
          (only_next A g.valid sets.next sets.forked g.next g.forked mask s q.0 z b q.1) (lost s q) q.1;
    }

    -- by a shift and the groups
    module _ (forks : List Fork) (n : ℕ) (p : Grouped A n forks) (r : ℕ) (mr : Marks r (Reached forks x n)) where
      from_group : (s : ℕ) → Reached forks x n s → Lacks A c d s
      from_group s q =
          let e = p.each q.0 q.1 in let y = (fork forks q.0).later in
          let t = some_bit (bit_and x y) q.2 in
          let w = (marks_and x y (Missing A c d) (LaterChild A e.0) m e.2).only t.0 t.1 in
          let z : s ≡ e.0 = (marks_one e.0).only s (subst (λ (u : ℕ). bit u s ≡ 1) e.1 q.3) in
          (t.0, subst (λ (u : ℕ). Child A.tree u t.0) (sym z) w.1.0, w.0.2)

      to_group : (s : ℕ) (q : Lacks A c d s) → (s + 1 ≡ q.0 → ⊥) → Reached forks x n s
      to_group s q e =
          let a = p.all s q.0 (q.1, e) in let y = (fork forks a.0).later in
          let b = (marks_and x y (λ u. bit x u ≡ 1) (λ u. bit y u ≡ 1) (marks_bits x) (marks_bits y)).put q.0 (lost s q, a.3) in
          (a.0, a.1, bit_some _ q.0 b, subst (λ (u : ℕ). bit u s ≡ 1) (sym a.2) (bit_pow s))

      pub lacking_grouped : (mask : ℕ) → Lacking A mask c d (bit_or (bit_and x sets.next / 2 ^ 1) r)
      lacking_grouped mask =
          let y = bit_and x sets.next / 2 ^ 1 in
          let w = marks_or y r (λ s. bit y s ≡ 1) (Reached forks x n) (marks_bits y) mr in
          record {
            sound = λ s b. ⊎_elim (λ e. led_lacks s (shift_down A g.valid sets.next sets.forked g.next g.forked x s e)) (from_group s)
                (w.only s b);
            complete = λ s b q. w.put s (elim (ℕ_discrete (s + 1) q.0) [
              | yes e ↦ inl (shift_in A g.valid sets.next sets.forked g.next g.forked x s q.0 e (lost s q) q.1)
              | no e ↦ inr (to_group s q e)
            ]);
          }

module _ (A : Shape) (c d l mask : ℕ) (m : Marks mask (OfLabel A l)) where
  abbrev Right : ℕ → Type 0
  Right s = LabelFits (A.label s) l

  -- a step that lacks nothing has a place for every child step
  has_all : (s : ℕ) → (Lacks A c d s → ⊥) → (t : ℕ) → Child A.tree s t → bit (mask_for (A.axis t) c d) t ≡ 1
  has_all s n t k = ⊎_elim (λ e. e) (λ z. absurd (n (t, k, λ e. omega arith))) (bit_cases (mask_for (A.axis t) c d) t)

  -- the steps of the label that lack nothing are those that fit
  pub fits_from : (r : ℕ) → Lacking A mask c d r → Marks (without mask r) (FitsBy A Right c d)
  fits_from r k = marks_to (without mask r) (λ s. OfLabel A l s × (bit r s ≡ 1 → ⊥)) (FitsBy A Right c d)
      (λ s q. (q.0.0, q.0.1, has_all s (λ w. q.1 (k.complete s (m.put s q.0) w))))
      (λ s q. ((q.0, q.1), λ b. let w = k.sound s b in w.2 (q.2 w.0 w.1)))
      (marks_without mask r (OfLabel A l) (λ s. bit r s ≡ 1) m (marks_bits r))

  -- where no step has the label, none fits
  pub fits_none : mask ≡ 0 → Marks 0 (FitsBy A Right c d)
  fits_none e = marks_none (FitsBy A Right c d) (λ s q. bit_some mask s (m.put s (q.0, q.1)) e)
