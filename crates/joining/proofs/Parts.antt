-- The step numbers of a join: the laws of the view's new numbers, of the three parts, and of a function put together from two. Assumes nothing.
use Rattle.tables.proofs.Kit.{ℕ, ◌+◌, ◌-◌, ◌≤◌, ◌<◌, ◌≡◌, sym, ap, ◌∙◌, arith, dec_lt, ℕ_discrete, lt-ltb, le-ltb}
use Rattle.joining.specs.Join.{renumber, by_part}

-- a step up to the output step keeps its number
pub renumber_low : (o e s : ℕ) → s ≤ o → renumber o e s ≡ s
unfolding renumber
renumber_low o e s l = rw (le-ltb o s l)

-- a later one moves by what the tail adds
pub renumber_high : (o e s : ℕ) → o < s → renumber o e s ≡ s + e
unfolding renumber
renumber_high o e s l = rw (lt-ltb o s l)

-- a step of the view is in its front or in its rest
pub renumber_cases : {X : Type 0} (o e s : ℕ) → (s ≤ o → renumber o e s ≡ s → X) → (o < s → renumber o e s ≡ s + e → X) → X
renumber_cases {X} o e s f g = go (dec_lt o s)
  where
    go : Dec (o < s) → X
    go (yes h) = g h (renumber_high o e s h)
    go (no h) = let l : s ≤ o = omega arith in f l (renumber_low o e s l)

-- the three parts
pub part_front : (o e u x y z : ℕ) → u ≤ o → by_part o e u x y z ≡ x
unfolding by_part
part_front o e u x y z l = rw (le-ltb o u l)

pub part_middle : (o e u x y z : ℕ) → o < u → u ≤ o + e → by_part o e u x y z ≡ y
unfolding by_part
part_middle o e u x y z l m = rw (lt-ltb o u l, le-ltb (o + e) u m)

pub part_rest : (o e u x y z : ℕ) → o + e < u → by_part o e u x y z ≡ z
unfolding by_part
part_rest o e u x y z l = let m : o < u = omega arith in rw (lt-ltb o u m, lt-ltb (o + e) u l)

-- f on the view's steps, g on the tail's
unfoldable pub both : ℕ → ℕ → (ℕ → ℕ) → (ℕ → ℕ) → ℕ → ℕ
both o e f g u = by_part o e u (f u) (g (u - o)) (f (u - e))

-- on a step of the view
pub both_view : (o e : ℕ) (f g : ℕ → ℕ) (s u : ℕ) → u ≡ renumber o e s → both o e f g u ≡ f s
unfolding both
both_view o e f g s u h = renumber_cases o e s (λ l k. part_front o e u (f u) (g (u - o)) (f (u - e)) (omega arith) ∙ ap f (omega arith))
    (λ l k. part_rest o e u (f u) (g (u - o)) (f (u - e)) (omega arith) ∙ ap f (omega arith))

-- on a step of the tail
pub both_late : (o e : ℕ) (f g : ℕ → ℕ) (t : ℕ) → 0 < t → t ≤ e → both o e f g (o + t) ≡ g t
unfolding both
both_late o e f g t p l = part_middle o e (o + t) (f (o + t)) (g (o + t - o)) (f (o + t - e)) (omega arith) (omega arith) ∙ ap g (omega arith)

-- and on its step 0 too, where the two agree there
pub both_tail : (o e : ℕ) (f g : ℕ → ℕ) → f o ≡ g 0 → (t : ℕ) → t ≤ e → both o e f g (o + t) ≡ g t
both_tail o e f g z t l = go (ℕ_discrete t 0)
  where
    go : Dec (t ≡ 0) → both o e f g (o + t) ≡ g t
    go (yes a) = both_view o e f g o (o + t) (omega (arith, renumber_low o e o (omega arith))) ∙ z ∙ ap g (sym a)
    go (no a) = both_late o e f g t (omega arith) l
