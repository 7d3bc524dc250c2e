-- The lines of lists that `ask` prints can be read back: two texts that begin with such a line, of one word, and are equal begin with the line of one list.
-- Assumes nothing.
use Rattle.tables.proofs.Kit.{ℕ, zero, suc, ◌+◌, ◌/◌, ◌%◌, ◌<◌, ◌≡◌, refl, sym, ap, ap₂, ◌∙◌, subst}
use Rattle.tables.proofs.Kit.{List, [], ◌∷◌, ◌++◌, append_assoc, append-nil, arith, dec_lt, length, get_or, drop, ext_get_or}
use Rattle.tables.specs.Column.{blocks}
use Rattle.tables.proofs.Choice.{below_or_at}
use Rattle.asking.specs.Text.{decimal, item, spaced, line, rewriting_word, none_line, refused_line}
use Rattle.asking.proofs.Decimal.{decimal_small, decimal_large, decimal_unique}

-- c does not stand in the list
abbrev Absent : ℕ → List ℕ → Type 0
Absent c [] = Unit {0}
Absent c (x ∷ xs) = (x ≡ c → ⊥) × Absent c xs

-- nor in two, one after the other
absent_both : (c : ℕ) (a b : List ℕ) → Absent c a → Absent c b → Absent c (a ++ b)
absent_both c [] b p q = q
absent_both c (x ∷ a) b p q = (p.0, absent_both c a b p.1 q)

-- the first entries of equal lists
head : {x y : ℕ} {a b : List ℕ} → x ∷ a ≡ y ∷ b → x ≡ y
head e = ap (λ l. get_or l 0 0) e

-- and the others
tail : {x y : ℕ} {a b : List ℕ} → x ∷ a ≡ y ∷ b → a ≡ b
tail e = ap (drop 1) e

-- what follows one list
cancel : (w a b : List ℕ) → w ++ a ≡ w ++ b → a ≡ b
cancel [] a b e = e
cancel (x ∷ w) a b e = cancel w a b (tail e)

-- a list is parted at the first c in one way
split_first : (c : ℕ) (a b r s : List ℕ) → Absent c a → Absent c b → a ++ (c ∷ r) ≡ b ++ (c ∷ s) → (a ≡ b) × (r ≡ s)
split_first c [] [] r s p q e = (refl, tail e)
split_first c [] (y ∷ b) r s p q e = absurd (q.0 (sym (head e)))
split_first c (x ∷ a) [] r s p q e = absurd (p.0 (head e))
split_first c (x ∷ a) (y ∷ b) r s p q e = let t = split_first c a b r s p.1 q.1 (tail e) in (ap₂ (λ z l. z ∷ l) (head e) t.0, t.1)

-- c stands where it was put
stands : (c : ℕ) (a b : List ℕ) → Absent c (a ++ (c ∷ b)) → ⊥
stands c [] b p = p.0 refl
stands c (x ∷ a) b p = stands c a b p.1

-- a list is parted at the last c in one way
split_last : (c : ℕ) (a b r s : List ℕ) → Absent c r → Absent c s → a ++ (c ∷ r) ≡ b ++ (c ∷ s) → (a ≡ b) × (r ≡ s)
split_last c [] [] r s p q e = (refl, tail e)
split_last c [] (y ∷ b) r s p q e = absurd (stands c b s (subst (Absent c) (tail e) p))
split_last c (x ∷ a) [] r s p q e = absurd (stands c a r (subst (Absent c) (sym (tail e)) q))
split_last c (x ∷ a) (y ∷ b) r s p q e = let t = split_last c a b r s p q (tail e) in (ap₂ (λ z l. z ∷ l) (head e) t.0, t.1)

module _ (c : ℕ) (other : (k : ℕ) → k < 10 → 48 + k ≡ c → ⊥) where
  -- by the number of digits
  absent_to : (k n : ℕ) → n < k → Absent c (decimal n)
  absent_to zero n l = absurd (omega arith)
  absent_to (suc k) n l = go (λ h. absent_to k (n / 10) h) (dec_lt n 10)
    where
      go : (n / 10 < k → Absent c (decimal (n / 10))) → Dec (n < 10) → Absent c (decimal n)
      go f (yes h) = subst (Absent c) (sym (decimal_small n h)) (other n h, tt)
      go f (no h) =
          subst (Absent c) (sym (decimal_large n (omega arith)))
          (absent_both c (decimal (n / 10)) ((48 + n % 10) ∷ []) (f (omega arith)) (other (n % 10) (omega arith), tt))

  -- what is no digit does not stand in a number
  decimal_absent : (n : ℕ) → Absent c (decimal n)
  decimal_absent n = absent_to (suc n) n (omega arith)

  -- nor in numbers after spaces, if it is no space
  items_absent : (32 ≡ c → ⊥) → (f : ℕ → ℕ) (n : ℕ) → Absent c (blocks (λ k. item (f k)) n)
  unfolding blocks
  items_absent d f zero = tt
  items_absent d f (suc n) = absent_both c (blocks (λ k. item (f k)) n) (item (f n)) (items_absent d f n) (d, decimal_absent (f n))

-- numbers after spaces are read back from the last
items_same : (f g : ℕ → ℕ) (n : ℕ) → blocks (λ k. item (f k)) n ≡ blocks (λ k. item (g k)) n → (k : ℕ) → k < n → f k ≡ g k
unfolding blocks
items_same f g zero e k l = absurd (omega arith)
items_same f g (suc n) e k l =
    let parts = split_last 32 (blocks (λ k. item (f k)) n) (blocks (λ k. item (g k)) n) (decimal (f n)) (decimal (g n))
    (decimal_absent 32 (λ k h z. omega arith) (f n)) (decimal_absent 32 (λ k h z. omega arith) (g n)) e in
    below_or_at l (items_same f g n parts.0 k) (λ h. ap f h ∙ decimal_unique (f n) (g n) parts.1 ∙ sym (ap g h))

-- a line and what follows it, part by part
line_parts : (w xs r : List ℕ) → line w xs ++ r ≡ w ++ (32 ∷ (decimal (length xs) ++ (58 ∷ (spaced xs ++ (10 ∷ r)))))
unfolding line
line_parts w xs r =
    let d = decimal (length xs) in
    simp append_assoc (ap (λ l. w ++ (32 ∷ l))
    (append_assoc d (58 ∷ (spaced xs ++ (10 ∷ []))) r ∙ ap (λ l. d ++ (58 ∷ l)) (append_assoc (spaced xs) (10 ∷ []) r)))

-- two texts that begin with a line of one word, where they are equal: the lists are, and so is what follows
pub line_then : (w xs ys r s : List ℕ) → line w xs ++ r ≡ line w ys ++ s → (xs ≡ ys) × (r ≡ s)
unfolding spaced
line_then w xs ys r s e =
    let p = split_first 58 (decimal (length xs)) (decimal (length ys)) (spaced xs ++ (10 ∷ r)) (spaced ys ++ (10 ∷ s))
    (decimal_absent 58 (λ k h z. omega arith) (length xs)) (decimal_absent 58 (λ k h z. omega arith) (length ys))
    (tail (cancel w _ _ (sym (line_parts w xs r) ∙ e ∙ line_parts w ys s))) in
    let n : length xs ≡ length ys = decimal_unique (length xs) (length ys) p.0 in
    let q = split_first 10 (spaced xs) (spaced ys) r s
    (items_absent 10 (λ k h z. omega arith) (λ z. omega arith) (λ k. get_or xs k 0) (length xs))
    (items_absent 10 (λ k h z. omega arith) (λ z. omega arith) (λ k. get_or ys k 0) (length ys)) p.1 in
    (ext_get_or 0 xs ys n (items_same (λ k. get_or xs k 0) (λ k. get_or ys k 0) (length xs) (q.0 ∙ ap (blocks (λ k. item (get_or ys k 0))) (sym n))), q.1)

-- a line of a list alone
pub line_unique : (w xs ys : List ℕ) → line w xs ≡ line w ys → xs ≡ ys
line_unique w xs ys e = (line_then w xs ys [] [] (append-nil (line w xs) ∙ e ∙ sym (append-nil (line w ys)))).0

-- what begins with another byte
starts_other : (c x : ℕ) (a r s : List ℕ) → (c ≡ x → ⊥) → Absent x a → a ++ (c ∷ r) ≡ x ∷ s → ⊥
starts_other c x [] r s d p e = d (head e)
starts_other c x (y ∷ a) r s d p e = p.0 (head e)

-- the line of no rewriting is no line of a list
pub line_not_none : (xs : List ℕ) → line rewriting_word xs ≡ none_line → ⊥
unfolding none_line
line_not_none xs e =
    starts_other 58 110 (decimal (length xs)) (spaced xs ++ (10 ∷ [])) (111 ∷ 110 ∷ 101 ∷ 10 ∷ []) (λ z. omega arith)
    (decimal_absent 110 (λ k h z. omega arith) (length xs))
    (ap (drop 10) (sym (line_parts rewriting_word xs []) ∙ append-nil (line rewriting_word xs) ∙ e))

-- nor is that of a refusal
pub line_not_refused : (xs w : List ℕ) (k : ℕ) → line rewriting_word xs ≡ refused_line k w → ⊥
unfolding line refused_line
line_not_refused xs w k e = let z : ◌≡◌ {A = ℕ} 119 102 = ap (λ l. get_or l 2 0) e in omega arith
