-- Laws of numbers whose bits are marks: how marks are joined, one more is put, and only one number fits. Assumes nothing.
use Rattle.tables.proofs.Kit.{ℕ, zero, suc, ◌+◌, ◌*◌, ◌%◌, ◌^◌, ◌<◌, ◌≡◌, sym, ap, ◌∙◌, subst, ◌⊎◌, inl, inr, ⊎_elim, arith}
use Rattle.tables.proofs.Kit.{ℕ_discrete, dec_lt, Bool, true, false, cond, pow-succ', zero-add, mod-lt, bit_or, bit_and, bit_xor, or_shifted_r, pow_pos}
use Rattle.tables.specs.Bits.{bit, Marks}
use Rattle.tables.proofs.Bits.{bit_zero, bit_lt, bit_or_lem, bit_and_lem, bit_without, bit_mod, bit_high, bit_pow, bit_other, bits_same}
use Rattle.tables.proofs.{Choice.below_or_at, Tests.Tells}

-- a bit that is not 1 is 0
pub bit_cases : (x s : ℕ) → (bit x s ≡ 1) ⊎ (bit x s ≡ 0)
bit_cases x s = let h = bit_lt x s in elim (ℕ_discrete (bit x s) 1) [ yes e ↦ inl e | no n ↦ inr (omega arith) ]

-- a number marks its bits
pub marks_bits : (x : ℕ) → Marks x (λ (s : ℕ). bit x s ≡ 1)
marks_bits x = record { put = λ s e. e; only = λ s e. e }

pub marks_none : (P : ℕ → Type 0) → ((s : ℕ) → P s → ⊥) → Marks 0 P
marks_none P h = record { put = λ s a. absurd (h s a); only = λ s e. let z = bit_zero s in absurd (omega arith) }

pub marks_to : (x : ℕ) (P Q : ℕ → Type 0) → ((s : ℕ) → P s → Q s) → ((s : ℕ) → Q s → P s) → Marks x P → Marks x Q
marks_to x P Q f g m = record { put = λ s a. m.put s (g s a); only = λ s e. f s (m.only s e) }

pub marks_or : (x y : ℕ) (P Q : ℕ → Type 0) → Marks x P → Marks y Q → Marks (bit_or x y) (λ (s : ℕ). P s ⊎ Q s)
marks_or x y P Q m n =
    record {
      put = λ s a. let o = bit_or_lem x y s in let hx = bit_lt x s in let hy = bit_lt y s in elim a
          [ inl p ↦ (let e = m.put s p in omega arith) | inr q ↦ (let e = n.put s q in omega arith) ];
      only = λ s e. let o = bit_or_lem x y s in elim (bit_cases x s) [ inl h ↦ inl (m.only s h) | inr h ↦ inr (n.only s (omega arith)) ];
    }

-- the marks that x and y both have
pub marks_and : (x y : ℕ) (P Q : ℕ → Type 0) → Marks x P → Marks y Q → Marks (bit_and x y) (λ (s : ℕ). P s × Q s)
marks_and x y P Q m n =
    record {
      put = λ s a. let o = bit_and_lem x y s in let e = m.put s a.0 in let f = n.put s a.1 in omega arith;
      only = λ s e. let o = bit_and_lem x y s in let hx = bit_lt x s in let hy = bit_lt y s in (m.only s (omega arith), n.only s (omega arith));
    }

-- the marks of x that y lacks
pub marks_without : (x y : ℕ) (P Q : ℕ → Type 0) → Marks x P → Marks y Q → Marks (bit_xor x (bit_and x y)) (λ (s : ℕ). P s × (Q s → ⊥))
marks_without x y P Q m n =
    record {
      put = λ s a. let o = bit_without x y s in let e = m.put s a.0 in elim (bit_cases y s) [ inl h ↦ absurd (a.1 (n.only s h)) | inr h ↦ omega arith ];
      only = λ s e. let o = bit_without x y s in let hx = bit_lt x s in (m.only s (omega arith), λ q. let f = n.put s q in omega arith);
    }

-- a number whose bits all stand below k has k digits
pub bits_lt : (k x : ℕ) → ((s : ℕ) → bit x s ≡ 1 → s < k) → x < 2 ^ k
bits_lt k x h = let e = bits_same x (x % 2 ^ k) (λ s. go s (dec_lt s k)) in let l = mod-lt x (pow_pos k) in omega arith
  where
    go : (s : ℕ) → Dec (s < k) → bit x s ≡ bit (x % 2 ^ k) s
    go s (yes l) = sym (bit_mod x k s l)
    go s (no n) = let z = bit_high (x % 2 ^ k) k s (mod-lt x (pow_pos k)) (omega arith) in ⊎_elim (λ e. absurd (n (h s e))) (λ e. omega arith) (bit_cases x s)

-- so has one whose marks all stand below k
pub marks_lt : (k x : ℕ) (P : ℕ → Type 0) → Marks x P → ((s : ℕ) → P s → s < k) → x < 2 ^ k
marks_lt k x P m h = bits_lt k x (λ s e. h s (m.only s e))

-- one mark alone
pub marks_one : (s : ℕ) → Marks (2 ^ s) (λ (t : ℕ). t ≡ s)
marks_one s =
    record {
      put = λ t e. rw e (bit_pow s);
      only = λ t e. elim (ℕ_discrete t s) [ yes h ↦ h | no n ↦ (let z = bit_other s t n in absurd (omega arith)) ];
    }

-- one mark more
pub marks_with : (x s : ℕ) (P : ℕ → Type 0) → Marks x P → Marks (bit_or x (2 ^ s)) (λ (t : ℕ). P t ⊎ (t ≡ s))
marks_with x s P m = marks_or x (2 ^ s) P (λ (t : ℕ). t ≡ s) m (marks_one s)

-- no second number fits
pub marks_unique : (x y : ℕ) (P : ℕ → Type 0) → Marks x P → Marks y P → x ≡ y
marks_unique x y P m n = bits_same x y (λ s. go s (bit_cases x s) (bit_cases y s))
  where
    go : (s : ℕ) → (bit x s ≡ 1) ⊎ (bit x s ≡ 0) → (bit y s ≡ 1) ⊎ (bit y s ≡ 0) → bit x s ≡ bit y s
    go s (inl a) b = a ∙ sym (n.put s (m.only s a))
    go s (inr a) (inl b) = m.put s (n.only s b) ∙ sym b
    go s (inr a) (inr b) = a ∙ sym b

-- the number whose bits below n are set where a test passes
unfoldable pub mask : ℕ → (ℕ → Bool) → ℕ
mask zero p = 0
mask (suc n) p = cond (p n) (2 ^ n) 0 + mask n p

mask_lt : (n : ℕ) (p : ℕ → Bool) → mask n p < 2 ^ n
unfolding mask
mask_lt zero p = omega arith
mask_lt (suc n) p = go (p n) (mask_lt n p)
  where
    go : (b : Bool) → mask n p < 2 ^ n → cond b (2 ^ n) 0 + mask n p < 2 ^ suc n
    go true h = omega (arith, pow-succ' 2 n)
    go false h = omega (arith, pow-succ' 2 n)

-- a number below 2 ^ n, with bit n put
pub with_top : (n m : ℕ) → m < 2 ^ n → bit_or m (2 ^ n) ≡ 2 ^ n + m
with_top n m h = ap (bit_or m) {x = 2 ^ n} {y = 1 * 2 ^ n} (omega arith) ∙ or_shifted_r 1 n m h ∙ omega arith

pub marks_mask : (n : ℕ) (p : ℕ → Bool) (P : ℕ → Type 0) → ((s : ℕ) → s < n → Tells (p s) (P s)) → Marks (mask n p) (λ s. (s < n) × P s)
unfolding mask
marks_mask zero p P h = marks_none (λ s. (s < 0) × P s) (λ s q. omega (arith, q.0))
marks_mask (suc n) p P h = go (p n) (h n (omega arith)) (marks_mask n p P (λ s l. h s (omega arith)))
  where
    go : (b : Bool) → Tells b (P n) → Marks (mask n p) (λ s. (s < n) × P s) → Marks (cond b (2 ^ n) 0 + mask n p) (λ s. (s < suc n) × P s)
    go true t r = rw (← with_top n (mask n p) (mask_lt n p)) (marks_to (bit_or (mask n p) (2 ^ n)) (λ s. ((s < n) × P s) ⊎ (s ≡ n)) (λ s. (s < suc n) × P s)
        (λ s q. ⊎_elim (λ x. (omega (arith, x.0), x.1)) (λ e. (omega arith, subst P (sym e) (t.says tt))) q)
        (λ s q. below_or_at q.0 (λ l. inl (l, q.1)) (λ e. inr e))
        (marks_with (mask n p) n (λ s. (s < n) × P s) r))
    go false t r = rw (zero-add (mask n p)) (marks_to (mask n p) (λ s. (s < n) × P s) (λ s. (s < suc n) × P s) (λ s q. (omega (arith, q.0), q.1))
        (λ s q. below_or_at q.0 (λ l. (l, q.1)) (λ e. absurd (t.test (subst P e q.1))))
        r)
