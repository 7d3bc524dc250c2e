-- Climbing decides whether a row hangs right, given that the rows before it do: start at the row before it, and go up while the parent looked for is
-- smaller. The check of a row cites these laws. Assumes nothing.
use Rattle.tables.proofs.Kit.{ℕ, zero, suc, ◌-◌, ◌≤◌, ◌<◌, ◌≡◌, refl, sym, subst, inr, ⊎_elim, ◌↔◌, arith, T, eqb}
use Rattle.tables.specs.Tree.{Tree, Child, Below, child, From, Hangs}
use Rattle.tables.proofs.{Trees.{below_lt_to, parent_lt_to, below_up, from_trans}, Tests.tells_eq}

-- the climb for row i stands at row a: on the way up from row i - 1, and not past the parent of row i if that is on the way
pub record Climbs (D : Tree) (i a : ℕ) : Type 0 where
  pub low : a < i
  pub came : From D a (i - 1)
  pub ahead : From D (D.parent i) (i - 1) → From D (D.parent i) a

-- a later row hangs on the row before it, or on an ancestor of that
hangs_later : (D : Tree) (root i : ℕ) → 0 < i → From D (D.parent i) (i - 1) ↔ Hangs D root i
hangs_later D root zero l = absurd (omega arith)
hangs_later D root (suc i) l =
    let e : suc i - 1 ≡ i = omega arith in
    (λ w. subst (From D (D.parent (suc i))) e w, λ w. subst (From D (D.parent (suc i))) (sym e) w)

module _ (D : Tree) (root i : ℕ) (late : 0 < i) (here : i < D.size) (right : (k : ℕ) → k < i → Hangs D root k) where
  -- each row on the way has its parent before it
  pub climb_falls : (a : ℕ) → 0 < a → a < i → D.parent a < a
  climb_falls a p l = parent_lt_to a (λ j m h. right (suc j) (omega arith)) a (omega arith) p (omega arith)

  pub climb_goes : {a : ℕ} → Climbs D i a → D.parent i < a → Climbs D i (D.parent a)
  climb_goes {a} c l =
      let f : D.parent a < a = climb_falls a (omega arith) c.low in
      let up : Child D (D.parent a) a = record { late = omega arith; here = omega (arith, c.low); up = refl } in
      record {
        low = omega (arith, c.low);
        came = from_trans (inr (child up)) c.came;
        ahead = λ w. ⊎_elim (λ e. absurd (omega arith)) (λ b. (below_up b).1) (c.ahead w);
      }

  -- where the climb ends, row i hangs right exactly if its parent is reached
  pub climb_ends : {a : ℕ} → Climbs D i a → a ≤ D.parent i → T (eqb a (D.parent i)) ↔ Hangs D root i
  climb_ends {a} c l = (
    λ t. (hangs_later D root i late).0 (subst (λ (x : ℕ). From D x (i - 1)) ((tells_eq a (D.parent i)).says t) c.came),
    λ h. (tells_eq a (D.parent i)).test (⊎_elim sym (λ b. absurd (omega (arith, past b))) (c.ahead ((hangs_later D root i late).1 h))),
  )
    where
      past : Below D (D.parent i) a → D.parent i < a
      past b = below_lt_to (λ j m p q. climb_falls j p (omega (arith, c.low))) b
