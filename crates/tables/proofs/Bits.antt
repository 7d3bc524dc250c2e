-- Laws of the bits of a number: those of the kit, for `bit`, and what is needed besides. Assumes nothing.
use Rattle.tables.proofs.Kit.{ℕ, zero, suc, ◌+◌, ◌*◌, ◌-◌, ◌/◌, ◌%◌, ◌^◌, ◌<◌, ◌≤◌, min, max, ◌≡◌, ◌∙◌, sym, arith}
use Rattle.tables.proofs.Kit.{◌⊎◌, inl, inr, ⊎_elim, ℕ_discrete, dec_lt, bit_or, bit_and, bit_xor, pow-succ', shr-shr, shl_exact, field, mod-mod-pow, lit<}
use Rattle.std.proofs.lemmas.Nat.Bits.{bit_at-lt, bit_at-zero, bit_at_or, bit_at_and, bit_at_xor, bit_at_above, bit_at-pow_same, bit_at-pow_other}
use Rattle.std.proofs.lemmas.Nat.Bits.{same_from_bits}
use Rattle.tables.specs.Bits.{bit}

pub bit_lt : (x s : ℕ) → bit x s < 2
unfolding bit
bit_lt x s = bit_at-lt x s

pub bit_zero : (s : ℕ) → bit 0 s ≡ 0
unfolding bit
bit_zero s = bit_at-zero s

pub bit_or_lem : (x y s : ℕ) → bit (bit_or x y) s ≡ max (bit x s) (bit y s)
unfolding bit
bit_or_lem x y s = bit_at_or x y s

pub bit_and_lem : (x y s : ℕ) → bit (bit_and x y) s ≡ min (bit x s) (bit y s)
unfolding bit
bit_and_lem x y s = bit_at_and x y s

-- the bits where x and y differ
pub bit_xor_lem : (x y s : ℕ) → bit (bit_xor x y) s ≡ (bit x s + bit y s) % 2
unfolding bit
bit_xor_lem x y s = bit_at_xor x y s

-- the bits of x that y lacks
pub bit_without : (x y s : ℕ) → bit (bit_xor x (bit_and x y)) s ≡ bit x s - bit y s
bit_without x y s =
    let a = bit_xor_lem x (bit_and x y) s in let b = bit_and_lem x y s in
    let hx = bit_lt x s in let hy = bit_lt y s in
    omega arith

-- the bits of a number shifted down
pub bit_shr : (x k s : ℕ) → bit (x / 2 ^ k) s ≡ bit x (k + s)
unfolding bit
bit_shr x k s = rw (shr-shr x k s)

-- the bits of a number's k low digits
pub bit_mod : (x k s : ℕ) → s < k → bit (x % 2 ^ k) s ≡ bit x s
unfolding bit
bit_mod x k s h = let j = k - s - 1 in let e : k ≡ j + 1 + s = omega arith in rw (e, field x (j + 1) s) (mod-mod-pow (x / 2 ^ s) j 1)

-- a number of k digits has no bit from k on
pub bit_high : (x k s : ℕ) → x < 2 ^ k → k ≤ s → bit x s ≡ 0
unfolding bit
bit_high x k s h l = bit_at_above x k s h l

-- so its bits stand below k
pub bit_in : (x k s : ℕ) → x < 2 ^ k → bit x s ≡ 1 → s < k
bit_in x k s h e = elim (dec_lt s k) [ yes l ↦ l | no n ↦ (let z = bit_high x k s h (omega arith) in absurd (omega arith)) ]

-- a number is at least the power of each of its bits
pub bit_least : (x s : ℕ) → bit x s ≡ 1 → 2 ^ s ≤ x
bit_least x s e = elim (dec_lt x (2 ^ s)) [ yes l ↦ (let z = bit_high x s s l (omega arith) in absurd (omega arith)) | no n ↦ omega arith ]

pub bit_pow : (s : ℕ) → bit (2 ^ s) s ≡ 1
unfolding bit
bit_pow s = bit_at-pow_same s

pub bit_other : (s t : ℕ) → (t ≡ s → ⊥) → bit (2 ^ s) t ≡ 0
unfolding bit
bit_other s t h = bit_at-pow_other s t h

-- a bit that is set
pub set_here : (x s : ℕ) → bit (bit_or x (2 ^ s)) s ≡ 1
set_here x s = let a = bit_or_lem x (2 ^ s) s in let b = bit_pow s in let d = bit_lt x s in omega arith

pub set_other : (x s t : ℕ) → (t ≡ s → ⊥) → bit (bit_or x (2 ^ s)) t ≡ bit x t
set_other x s t h = let a = bit_or_lem x (2 ^ s) t in let b = bit_other s t h in omega arith

-- two numbers are equal where their bits are
pub bits_same : (x y : ℕ) → ((s : ℕ) → bit x s ≡ bit y s) → x ≡ y
unfolding bit
bits_same x y h = same_from_bits x y h

-- a number has fewer digits than itself
lt_pow : (x : ℕ) → x < 2 ^ x
lt_pow zero = omega arith
lt_pow (suc x) = omega (arith, lt_pow x, pow-succ' 2 x)

-- a number has a bit among its first k, or they are all 0
bit_or_none : (x k : ℕ) → ((s : ℕ) × (bit x s ≡ 1)) ⊎ ((s : ℕ) → s < k → bit x s ≡ 0)
bit_or_none x zero = inr (λ s l. absurd (omega arith))
bit_or_none x (suc k) = ⊎_elim inl (λ (f : (s : ℕ) → s < k → bit x s ≡ 0). elim (ℕ_discrete (bit x k) 1) [
  | yes e ↦ inl (k, e)
  | no n ↦ inr (λ s l. elim (ℕ_discrete s k) [ yes e ↦ (let h = bit_lt x k in rw e (omega arith)) | no d ↦ f s (omega arith) ])
])
    (bit_or_none x k)

-- a number that is not 0 has a bit
pub some_bit : (x : ℕ) → (x ≡ 0 → ⊥) → (s : ℕ) × (bit x s ≡ 1)
some_bit x n =
    ⊎_elim (λ w. w) (λ (f : (s : ℕ) → s < x → bit x s ≡ 0). absurd (n (bits_same x 0 (λ s. elim (dec_lt s x) [
      | yes l ↦ f s l ∙ sym (bit_zero s)
      | no l ↦ bit_high x x s (lt_pow x) (omega arith) ∙ sym (bit_zero s)
    ])))) (bit_or_none x x)

-- bit s alone, as a shift of 64 digits makes it
pub shl_one : (s : ℕ) → s < 64 → 1 * 2 ^ s % 2 ^ 64 ≡ 2 ^ s
shl_one s h = let e : 1 * 2 ^ s % 2 ^ 64 ≡ 1 * 2 ^ s = shl_exact 1 s 64 (lit< tt) (omega arith) in omega arith
