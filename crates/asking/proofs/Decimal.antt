-- Decimal digits: how a number's digits follow from those of its tenth part, how many there are, and that reading them back gives the number. Assumes nothing.
use Rattle.tables.proofs.Kit.{ℕ, zero, suc, ◌+◌, ◌*◌, ◌-◌, ◌/◌, ◌%◌, ◌^◌, ◌≤◌, ◌<◌, ◌≡◌, refl, sym, ap, ◌∙◌}
use Rattle.tables.proofs.Kit.{List, [], ◌∷◌, ◌++◌, arith, dec_lt, length, length-append, lt-ltb, le-ltb}
use Rattle.std.specs.Fmt.{decimal as printed}
use Rattle.std.proofs.lemmas.Fmt.{decimal_from_appends, length-decimal-le_succ}
use Rattle.asking.specs.Text.{digits, decimal}

-- one digit
digits_small : (k n : ℕ) → n < 10 → digits (suc k) n ≡ (48 + n) ∷ []
unfolding digits
digits_small k n l = rw (lt-ltb n 10 l)

-- the last digit after the others
digits_large : (k n : ℕ) → 10 ≤ n → digits (suc k) n ≡ digits k (n / 10) ++ ((48 + n % 10) ∷ [])
unfolding digits
digits_large k n l = rw (le-ltb n 10 l)

-- allowing more digits changes nothing
digits_enough : (k j n : ℕ) → n < k → n < j → digits k n ≡ digits j n
digits_enough zero j n l m = absurd (omega arith)
digits_enough (suc k) zero n l m = absurd (omega arith)
digits_enough (suc k) (suc j) n l m = go (λ h g. digits_enough k j (n / 10) h g) (dec_lt n 10)
  where
    go : (n / 10 < k → n / 10 < j → digits k (n / 10) ≡ digits j (n / 10)) → Dec (n < 10) → digits (suc k) n ≡ digits (suc j) n
    go f (yes h) = digits_small k n h ∙ sym (digits_small j n h)
    go f (no h) =
        digits_large k n (omega arith) ∙ ap (λ ds. ds ++ ((48 + n % 10) ∷ [])) (f (omega arith) (omega arith)) ∙ sym (digits_large j n (omega arith))

-- a number of one digit
pub decimal_small : (n : ℕ) → n < 10 → decimal n ≡ (48 + n) ∷ []
unfolding decimal
decimal_small n l = digits_small n n l

-- a number of more digits
pub decimal_large : (n : ℕ) → 10 ≤ n → decimal n ≡ decimal (n / 10) ++ ((48 + n % 10) ∷ [])
unfolding decimal
decimal_large n l = digits_large n n l ∙ ap (λ ds. ds ++ ((48 + n % 10) ∷ [])) (digits_enough n (suc (n / 10)) (n / 10) (omega arith) (omega arith))

-- has one digit more than its tenth part
pub decimal_large_length : (n : ℕ) → 10 ≤ n → length (decimal n) ≡ length (decimal (n / 10)) + 1
decimal_large_length n l = ap length (decimal_large n l) ∙ length-append (decimal (n / 10)) ((48 + n % 10) ∷ [])

-- a number below a power of ten has no more digits than its exponent
length_1 : (n : ℕ) → n < 10 → length (decimal n) ≤ 1
length_1 n l = omega (arith, ap length (decimal_small n l))

-- ten times the number, one digit more
longer : (m k : ℕ) → ((n : ℕ) → n < m → length (decimal n) ≤ k) → 1 ≤ k → (n : ℕ) → n < 10 * m → length (decimal n) ≤ k + 1
longer m k f p n l = go (dec_lt n 10)
  where
    go : Dec (n < 10) → length (decimal n) ≤ k + 1
    go (yes h) = omega (arith, length_1 n h)
    go (no h) = omega (arith, decimal_large_length n (omega arith), f (n / 10) (omega arith))

-- below 10,000 four digits do
pub length_4 : (n : ℕ) → n < 10000 → length (decimal n) ≤ 4
length_4 = longer 1000 3 (longer 100 2 (longer 10 1 length_1 (omega arith)) (omega arith)) (omega arith)

-- a 16-bit number has five at most
pub length_5 : (n : ℕ) → n < 65536 → length (decimal n) ≤ 5
length_5 n l = longer 10000 4 length_4 (omega arith) n (omega arith)

-- the digits that a number prints as
pub decimal_printed : (n : ℕ) → n < 2 ^ 64 → decimal n ≡ printed n
unfolding decimal
decimal_printed n l = decimal_from_appends digits (record { one = digits_small; more = digits_large }) (suc n) n l (omega (arith, length-decimal-le_succ n l))

-- the number that digits stand for, read after those of m
unfoldable pub read_from : ℕ → List ℕ → ℕ
read_from m [] = m
read_from m (x ∷ xs) = read_from (m * 10 + (x - 48)) xs

-- the last digit is read last
read_last : (m : ℕ) (xs : List ℕ) (x : ℕ) → read_from m (xs ++ (x ∷ [])) ≡ read_from m xs * 10 + (x - 48)
unfolding read_from
read_last m [] x = refl
read_last m (y ∷ ys) x = read_last (m * 10 + (y - 48)) ys x

-- by the number of digits
reads_to : (k n : ℕ) → n < k → read_from 0 (decimal n) ≡ n
unfolding read_from
reads_to zero n l = absurd (omega arith)
reads_to (suc k) n l = go (λ h. reads_to k (n / 10) h) (dec_lt n 10)
  where
    go : (n / 10 < k → read_from 0 (decimal (n / 10)) ≡ n / 10) → Dec (n < 10) → read_from 0 (decimal n) ≡ n
    go f (yes h) = ap (read_from 0) (decimal_small n h) ∙ omega arith
    go f (no h) =
        ap (read_from 0) (decimal_large n (omega arith))
        ∙ read_last 0 (decimal (n / 10)) (48 + n % 10)
        ∙ ap (λ m. m * 10 + (48 + n % 10 - 48)) (f (omega arith))
        ∙ omega arith

-- reading the digits of a number back gives the number
pub decimal_reads : (n : ℕ) → read_from 0 (decimal n) ≡ n
decimal_reads n = reads_to (suc n) n (omega arith)

-- so two numbers of one text are one
pub decimal_unique : (n m : ℕ) → decimal n ≡ decimal m → n ≡ m
decimal_unique n m e = sym (decimal_reads n) ∙ ap (read_from 0) e ∙ decimal_reads m
