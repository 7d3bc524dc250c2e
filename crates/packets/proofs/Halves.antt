-- Laws of bytes and of the 16-bit numbers that two of them make, and of lists that are a header followed by blocks of four bytes.
-- Both packets are such lists. Assumes nothing.
use Rattle.tables.proofs.Kit.{ℕ, zero, suc, ◌+◌, ◌*◌, ◌<◌, ◌≡◌, sym, ap, ap₂, ◌∙◌}
use Rattle.tables.proofs.Kit.{List, [], ◌∷◌, ◌++◌, append-nil, append_assoc, arith, length, get_or, take, drop, length-append, get_or-append-add}
use Rattle.tables.proofs.Kit.{◌-◌, length-drop, take_all, get_or-take, get_or-drop}
use Rattle.std.specs.Simd.{first_chunks}
use Rattle.tables.specs.Column.{blocks, column}
use Rattle.tables.proofs.Columns.{blocks_at, blocks_length, column_self}
use Rattle.halves.specs.Bytes.{Bytes, high, low, half}

-- the two bytes of a number make it again
pub half_of_bytes : (x : ℕ) → high x * 256 + low x ≡ x
half_of_bytes x = omega arith

-- the two bytes of the number that two bytes make
pub high_of_half : (a b : ℕ) → b < 256 → high (a * 256 + b) ≡ a
high_of_half a b h = omega arith

pub low_of_half : (a b : ℕ) → b < 256 → low (a * 256 + b) ≡ b
low_of_half a b h = omega arith

-- the two bytes of the number at byte o
pub high_half : (bs : List ℕ) → Bytes bs → (o : ℕ) → high (half bs o) ≡ get_or bs o 0
high_half bs h o = high_of_half (get_or bs o 0) (get_or bs (o + 1) 0) (h (o + 1))

pub low_half : (bs : List ℕ) → Bytes bs → (o : ℕ) → low (half bs o) ≡ get_or bs (o + 1) 0
low_half bs h o = low_of_half (get_or bs o 0) (get_or bs (o + 1) 0) (h (o + 1))

-- entry r of row k, where a list is cut into rows of four
row_at : (xs : List ℕ) (n k r : ℕ) → k < n → r < 4 → get_or (get_or (first_chunks 4 n xs) k []) r 0 ≡ get_or xs (4 * k + r) 0
row_at xs zero k r l m = absurd (omega arith)
row_at xs (suc n) zero r l m = get_or-take 4 xs r 0 m ∙ ap (λ j. get_or xs j 0) {x = r} {y = 4 * 0 + r} (omega arith)
row_at xs (suc n) (suc k) r l m =
    row_at (drop 4 xs) n k r (omega arith) m ∙ get_or-drop 4 xs (4 * k + r) 0 ∙ ap (λ j. get_or xs j 0) {x = 4 + (4 * k + r)} {y = 4 * suc k + r} (omega arith)

-- the same, where the rows are all that follows a header of h entries
pub row_read : (bs : List ℕ) {rows : List (List ℕ)} (h n k r i : ℕ) → rows ≡ first_chunks 4 n (take (length bs - h) (drop h bs)) → k < n → r < 4
    → i ≡ h + (4 * k + r) → get_or (get_or rows k []) r 0 ≡ get_or bs i 0
row_read bs h n k r i e l m f =
    ap (λ x. get_or (get_or x k []) r 0) (e ∙ ap (first_chunks 4 n) (take_all (length bs - h) (drop h bs) (omega (arith, length-drop h bs))))
    ∙ row_at (drop h bs) n k r l m
    ∙ get_or-drop h bs (4 * k + r) 0
    ∙ ap (λ j. get_or bs j 0) (sym f)

pub row_half : (bs : List ℕ) {rows : List (List ℕ)} (h n k r i : ℕ) → rows ≡ first_chunks 4 n (take (length bs - h) (drop h bs)) → k < n → r < 3
    → i ≡ h + (4 * k + r) → half (get_or rows k []) r ≡ half bs i
row_half bs h n k r i e l m f =
    ap₂ (λ x y. x * 256 + y) (row_read bs h n k r i e l (omega arith) f) (row_read bs h n k (r + 1) (i + 1) e l (omega arith) (omega arith))

-- how long a header with n blocks of four is
pub packet_length : (hs : List ℕ) (b : ℕ → List ℕ) (n : ℕ) → ((k : ℕ) → length (b k) ≡ 4) → length (hs ++ blocks b n) ≡ length hs + 4 * n
packet_length hs b n w = length-append hs (blocks b n) ∙ omega (arith, blocks_length b 4 n (λ k l. w k))

-- entry r of block k stands 4 * k + r after the header
pub packet_at_lem : (hs : List ℕ) (b : ℕ → List ℕ) (n k r i : ℕ) → ((k : ℕ) → length (b k) ≡ 4) → k < n → r < 4 → i ≡ length hs + 4 * k + r
    → get_or (hs ++ blocks b n) i 0 ≡ get_or (b k) r 0
packet_at_lem hs b n k r i w l m e =
    ap (λ (j : ℕ). get_or (hs ++ blocks b n) j 0) (omega (arith, blocks_length b 4 k (λ j l. w j)))
    ∙ get_or-append-add hs (blocks b n) (length (blocks b k) + r) 0
    ∙ blocks_at b n k r l (omega (arith, w k))

-- the 16-bit number at entry r of block k stands there too
pub packet_half : (hs : List ℕ) (b : ℕ → List ℕ) (n k r o : ℕ) → ((k : ℕ) → length (b k) ≡ 4) → k < n → r < 3 → o ≡ length hs + 4 * k + r
    → half (hs ++ blocks b n) o ≡ half (b k) r
packet_half hs b n k r o w l m e =
    ap₂ (λ x y. x * 256 + y) (packet_at_lem hs b n k r o w l (omega arith) e) (packet_at_lem hs b n k (r + 1) (o + 1) w l (omega arith) (omega arith))

-- the four entries from place o on
unfoldable pub four : (ℕ → ℕ) → ℕ → List ℕ
four f o = f o ∷ f (o + 1) ∷ f (o + 2) ∷ f (o + 3) ∷ []

column_step : (f : ℕ → ℕ) (m : ℕ) → column f m ++ four f m ≡ column f (m + 4)
unfolding blocks four
column_step f m =
    let a : m + 1 ≡ suc m = omega arith in let b : m + 2 ≡ suc (suc m) = omega arith in
    let c : m + 3 ≡ suc (suc (suc m)) = omega arith in
    let d : m + 4 ≡ suc (suc (suc (suc m))) = omega arith in
    rw (a, b, c, d) (simp append_assoc)

column_four : (f : ℕ → ℕ) (h n : ℕ) → column f h ++ blocks (λ k. four f (h + 4 * k)) n ≡ column f (h + 4 * n)
unfolding blocks
column_four f h zero = append-nil (column f h) ∙ ap (column f) {x = h} {y = h + 4 * 0} (omega arith)
column_four f h (suc n) =
    sym (append_assoc (column f h) (blocks (λ k. four f (h + 4 * k)) n) (four f (h + 4 * n)))
    ∙ ap (λ (l : List ℕ). l ++ four f (h + 4 * n)) (column_four f h n)
    ∙ column_step f (h + 4 * n)
    ∙ ap (column f) {x = h + 4 * n + 4} {y = h + 4 * suc n} (omega arith)

-- a list of h + 4 * n entries is its first h, followed by n blocks of four
pub packet_self : (bs : List ℕ) (h n : ℕ) → length bs ≡ h + 4 * n
    → column (λ k. get_or bs k 0) h ++ blocks (λ k. four (λ j. get_or bs j 0) (h + 4 * k)) n ≡ bs
packet_self bs h n e = column_four (λ k. get_or bs k 0) h n ∙ ap (column (λ k. get_or bs k 0)) (sym e) ∙ column_self bs
