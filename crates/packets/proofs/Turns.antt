-- A loop that takes lists side by side: what is left of each after k turns, and what the next turn takes. Assumes nothing.
use Rattle.tables.proofs.Kit.{ℕ, ◌+◌, ◌≤◌, ◌≡◌, sym, ap, ◌∙◌, List, ◌∷◌, arith, length, get_or, take, drop}
use Rattle.tables.proofs.Kit.{get_or-drop, get_or-take, length-drop, length-take, drop-drop}

-- k turns have left this of a list
pub record Left {A : Type 0} (xs : List A) (k : ℕ) (rest : List A) : Type 0 where
  pub low : k ≤ length xs
  pub is : rest ≡ drop k xs

-- none yet
pub left_all : {A : Type 0} (xs : List A) {rest : List A} → rest ≡ xs → Left xs 0 rest
left_all xs e = record { low = omega arith; is = e }

-- the next turn takes the entry x
pub left_next : {A : Type 0} {xs rest front : List A} {k : ℕ} {x : A} → Left xs k front → front ≡ x ∷ rest → Left xs (k + 1) rest
left_next {xs = xs} {k = k} l e =
    let g = sym l.is ∙ e in
    record { low = omega (arith, ap length g, length-drop k xs); is = sym (ap (drop 1) g) ∙ drop-drop 1 k xs }

pub entry : {A : Type 0} {xs rest front : List A} {k : ℕ} {x : A} (d : A) → Left xs k front → front ≡ x ∷ rest → x ≡ get_or xs k d
entry {xs = xs} {k = k} d l e =
    sym (ap (λ l. get_or l 0 d) (sym l.is ∙ e)) ∙ get_or-drop k xs 0 d ∙ ap (λ j. get_or xs j d) {x = k + 0} {y = k} (omega arith)

-- all were taken
pub left_none : {A : Type 0} {xs rest : List A} {k : ℕ} → Left xs k rest → length rest ≡ 0 → k ≡ length xs
left_none {xs = xs} {k = k} l e = omega (arith, l.low, ap length l.is, length-drop k xs)

-- the entry, where it is the front of a list that is taken
pub entry_of_front : {A : Type 0} (xs : List A) (n : ℕ) {rest front : List A} {k : ℕ} {x : A} (d : A) → Left (take n xs) k front → front ≡ x ∷ rest → x ≡
    get_or xs k d
entry_of_front xs n {k = k} d l e =
    entry d l e ∙ get_or-take n xs k d (omega (arith, (left_next l e).low, length-take n xs))
