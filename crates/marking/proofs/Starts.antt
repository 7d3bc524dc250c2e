-- What tells that a start list is right, and what the loop over it keeps: its nodes are marked. Assumes nothing.
use Rattle.std.specs.List.{IsAllAdjacentAnswer}
use Rattle.tables.proofs.Kit.{ℕ, zero, suc, ◌+◌, ◌*◌, ◌<◌, ◌≡◌, ◌↔◌, refl, sym, ap, ◌∙◌, Bool, true, false, T, ◌&&◌, List, length, get_or}
use Rattle.tables.proofs.Kit.{ltb, ltb-true, lt-ltb, clash, arith, add-one}
use Rattle.placing.specs.Answer.{In, Ascending}
use Rattle.marking.specs.Entries.{Marked}

-- two tests at once, x below y and y below n: where they pass
two_below : (x y n : ℕ) → ltb x y && ltb y n ≡ true → (x < y) × (y < n)
two_below x y n e = go (ltb x y) refl
  where
    go : (b : Bool) → ltb x y ≡ b → (x < y) × (y < n)
    go true g = (ltb-true x y g, ltb-true y n (sym (ap (λ c. c && ltb y n) g) ∙ e))
    go false g = absurd (clash (sym (ap (λ c. c && ltb y n) g) ∙ e))

-- and where they fail
not_below : (x y n : ℕ) → ltb x y && ltb y n ≡ false → x < y → y < n → ⊥
not_below x y n e l m = clash (sym e ∙ (ap (λ c. c && ltb y n) (lt-ltb x y l) ∙ lt-ltb y n m))

-- each entry was compared with the next, and that one with n, which the first is below
pub ascends_below : (xs : List ℕ) (n : ℕ) (r : Bool) → get_or xs 0 0 < n → IsAllAdjacentAnswer (λ x y b. b ≡ ltb x y && ltb y n) xs r
    → T r ↔ (Ascending xs × ((k : ℕ) → k < length xs → get_or xs k 0 < n))
ascends_below xs n true f h = (λ t. (ascending, below), λ w. tt)
  where
    both : (k : ℕ) → k + 1 < length xs → (get_or xs k 0 < get_or xs (k + 1) 0) × (get_or xs (k + 1) 0 < n)
    both k l = two_below _ _ n (sym (h k 0 (omega arith)))

    ascending : Ascending xs
    ascending k l = rw (← add-one k) (both k (omega arith)).0

    below : (k : ℕ) → k < length xs → get_or xs k 0 < n
    below zero l = f
    below (suc k) l = rw (← add-one k) (both k (omega arith)).1
ascends_below xs n false f h = (
  λ t. absurd t,
  λ w.
      let up = rw (← add-one h.0) at (w.0 h.0 (omega (arith, h.1))) in
      absurd (not_below _ _ n (sym (h.2 0)) up (rw (← add-one h.0) at (w.1 (suc h.0) (omega (arith, h.1))))),
)

-- the nodes of the first k entries are marked, and nothing else has changed
pub record MarkedTo (xs before : List ℕ) (k : ℕ) (work : List ℕ) : Type 0 where
  pub same_length : length work ≡ length before
  pub put : (j : ℕ) → j < k → Marked work (get_or xs j 0)
  pub others : (q : ℕ) → ((j : ℕ) → j < k → q ≡ 2 * get_or xs j 0 + 1 → ⊥) → get_or work q 0 ≡ get_or before q 0

-- after the last entry
pub marked_all : (xs before work : List ℕ) → MarkedTo xs before (length xs) work → (i : ℕ) → In xs i → Marked work i
marked_all xs before work m i w = ap (λ x. get_or work (2 * x + 1) 0) (sym w.is) ∙ m.put w.place w.early

pub marked_others : (xs before work : List ℕ) → MarkedTo xs before (length xs) work
    → (q : ℕ) → ((i : ℕ) → In xs i → q ≡ 2 * i + 1 → ⊥) → get_or work q 0 ≡ get_or before q 0
marked_others xs before work m q n = m.others q (λ j l e. n (get_or xs j 0) (record { place = j; early = l; is = refl }) e)
