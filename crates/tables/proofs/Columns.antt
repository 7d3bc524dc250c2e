-- Laws of blocks, of columns, of arrays that are zero past their first entries, and of steps in arrays. Assumes nothing.
use Rattle.tables.proofs.Kit.{ℕ, zero, suc, ◌+◌, ◌*◌, ◌≤◌, ◌<◌, ◌≡◌, refl, sym, ap, ap₂, ◌∙◌, subst}
use Rattle.tables.proofs.Kit.{List, [], ◌∷◌, ◌++◌, map, append_assoc, arith, zero-mul, suc-mul, add-one, length, get_or, set, take, drop}
use Rattle.tables.proofs.Kit.{replicate, length-append, length-drop, length-replicate, get_or-append, get_or-map}
use Rattle.tables.proofs.Kit.{get_or-append-add, drop-cons, drop-drop, drop-append-add, take_at, set_at, ext_get_or}
use Rattle.tables.specs.{Column.{blocks, column, padded, step_no, step_array, bare_numbers_of}, declared.StepNo.StepNo}
use Rattle.tables.proofs.Choice.{below_or_at}

-- block k ends within the blocks
pub blocks_fit : (b : ℕ → List ℕ) (n k : ℕ) → k < n → length (blocks b k) + length (b k) ≤ length (blocks b n)
unfolding blocks
blocks_fit b zero k l = absurd (omega arith)
blocks_fit b (suc n) k l = below_or_at l (λ h. omega (arith, blocks_fit b n k h, length-append (blocks b n) (b n)))
    (λ e. omega (arith, length-append (blocks b n) (b n), ap (λ x. length (blocks b x)) e, ap (λ x. length (b x)) e))

-- entry r of block k
pub blocks_at : (b : ℕ → List ℕ) (n k r : ℕ) → k < n → r < length (b k) → get_or (blocks b n) (length (blocks b k) + r) 0 ≡ get_or (b k) r 0
unfolding blocks
blocks_at b zero k r l m = absurd (omega arith)
blocks_at b (suc n) k r l m = below_or_at l
    (λ h. get_or-append (blocks b n) (b n) 0 (length (blocks b k) + r) (omega (arith, blocks_fit b n k h)) ∙ blocks_at b n k r h m)
    (λ e. subst (λ (x : ℕ). get_or (blocks b n ++ b n) (length (blocks b x) + r) 0 ≡ get_or (b x) r 0) (sym e) (get_or-append-add (blocks b n) (b n) r 0))

-- blocks of one width
pub blocks_length : (b : ℕ → List ℕ) (w n : ℕ) → ((k : ℕ) → k < n → length (b k) ≡ w) → length (blocks b n) ≡ n * w
unfolding blocks
blocks_length b w zero h = sym (zero-mul w)
blocks_length b w (suc n) h =
    length-append (blocks b n) (b n) ∙ ap₂ (λ x y. x + y) (blocks_length b w n (λ k l. h k (omega arith))) (h n (omega arith)) ∙ sym (suc-mul n w)

pub blocks_ext : (b c : ℕ → List ℕ) (n : ℕ) → ((k : ℕ) → k < n → b k ≡ c k) → blocks b n ≡ blocks c n
unfolding blocks
blocks_ext b c zero h = refl
blocks_ext b c (suc n) h = ap₂ (λ x y. x ++ y) (blocks_ext b c n (λ k l. h k (omega arith))) (h n (omega arith))

pub column_length : (f : ℕ → ℕ) (n : ℕ) → length (column f n) ≡ n
column_length f n = blocks_length (λ k. f k ∷ []) 1 n (λ k l. refl) ∙ omega arith

pub column_at : (f : ℕ → ℕ) (n k : ℕ) → k < n → get_or (column f n) k 0 ≡ f k
column_at f n k l = ap (λ i. get_or (column f n) i 0) (omega (arith, column_length f k)) ∙ blocks_at (λ k. f k ∷ []) n k 0 l (omega arith)

pub column_ext : (f g : ℕ → ℕ) (n : ℕ) → ((k : ℕ) → k < n → f k ≡ g k) → column f n ≡ column g n
column_ext f g n h = blocks_ext (λ k. f k ∷ []) (λ k. g k ∷ []) n (λ k l. ap (λ x. x ∷ []) (h k l))

-- a list is the column of its entries
pub column_self : (xs : List ℕ) → column (λ k. get_or xs k 0) (length xs) ≡ xs
column_self xs = ext_get_or 0 (column (λ k. get_or xs k 0) (length xs)) xs (column_length (λ k. get_or xs k 0) (length xs))
    (λ k l. column_at (λ k. get_or xs k 0) (length xs) k (omega (arith, column_length (λ k. get_or xs k 0) (length xs))))

-- one entry more of a list that is written from the front
pub put_next : (xs d : List ℕ) (m v : ℕ) → length xs ≡ m → m < length d → set (xs ++ drop m d) m v ≡ (xs ++ (v ∷ [])) ++ drop (m + 1) d
put_next xs d m v e l = rw (add-one, drop-cons d m 0, set_at xs (get_or d m 0) (drop (suc m) d) v m e, append_assoc)

-- what stands past the first m entries
pub drop_past : (xs ys : List ℕ) (m w : ℕ) → length xs ≡ m → drop (m + w) (xs ++ ys) ≡ drop w ys
drop_past xs ys m w e = subst (λ (k : ℕ). drop (k + w) (xs ++ ys) ≡ drop w ys) e (drop-append-add xs ys w)

-- one block more of such a list
pub put_block : (xs ys d : List ℕ) (m w : ℕ) → length xs ≡ m → take m (xs ++ drop m d) ++ ys ++ drop (m + w) (xs ++ drop m d) ≡ xs ++ ys ++ drop (m + w) d
put_block xs ys d m w e = rw (take_at xs (drop m d) m e, drop_past xs (drop m d) m w e, drop-drop w m d)

pub column_next : (f : ℕ → ℕ) (d : List ℕ) (k v : ℕ) → k < length d → v ≡ f k → set (column f k ++ drop k d) k v ≡ column f (k + 1) ++ drop (k + 1) d
unfolding blocks
column_next f d k v l e = put_next (column f k) d k v (column_length f k) l ∙ rw (add-one, e)

pub padded_next : (f : ℕ → ℕ) (xs : List ℕ) (k v : ℕ) → k < 64 → v ≡ f k → xs ≡ padded f k → set xs k v ≡ padded f (k + 1)
padded_next f xs k v l e g = rw g (column_next f (replicate 64 0) k v l e)

pub padded_at : (f : ℕ → ℕ) (n k : ℕ) → k < n → get_or (padded f n) k 0 ≡ f k
padded_at f n k l = get_or-append (column f n) (drop n (replicate 64 0)) 0 k (omega (arith, column_length f n)) ∙ column_at f n k l

pub padded_length : (f : ℕ → ℕ) (n : ℕ) → n ≤ 64 → length (padded f n) ≡ 64
padded_length f n l =
    length-append (column f n) (drop n (replicate 64 0))
    ∙ omega (arith, column_length f n, length-drop {A = ℕ} n (replicate 64 0), length-replicate {A = ℕ} 64 0)

pub padded_ext : (f g : ℕ → ℕ) (n : ℕ) → ((k : ℕ) → k < n → f k ≡ g k) → padded f n ≡ padded g n
padded_ext f g n h = ap (λ l. l ++ drop n (replicate 64 0)) (column_ext f g n h)

-- a store in a list of steps
map_set : (xs : List ℕ) (k v : ℕ) → set (map step_no xs) k (step_no v) ≡ map step_no (set xs k v)
map_set [] k v = refl
map_set (x ∷ xs) zero v = refl
map_set (x ∷ xs) (suc k) v = ap (λ ys. step_no x ∷ ys) (map_set xs k v)

pub steps_next : (f : ℕ → ℕ) (xs : List StepNo) (k v : ℕ) → k < 64 → v ≡ f k → xs ≡ step_array f k → set xs k (step_no v) ≡ step_array f (k + 1)
unfolding step_array
steps_next f xs k v l e g = rw g (map_set (padded f k) k v ∙ ap (map step_no) (padded_next f (padded f k) k v l e refl))

pub steps_at : (f : ℕ → ℕ) (n k : ℕ) → k < n → get_or (step_array f n) k (step_no 0) ≡ step_no (f k)
unfolding step_array
steps_at f n k l = get_or-map step_no (padded f n) k 0 ∙ ap step_no (padded_at f n k l)

pub steps_ext : (f g : ℕ → ℕ) (n : ℕ) → ((k : ℕ) → k < n → f k ≡ g k) → step_array f n ≡ step_array g n
unfolding step_array
steps_ext f g n h = ap (map step_no) (padded_ext f g n h)

-- steps with the same numbers are the same
pub bare_same : (xs ys : List StepNo) → bare_numbers_of xs ≡ bare_numbers_of ys → xs ≡ ys
bare_same xs ys e = sym (kind xs) ∙ ap (map step_no) e ∙ kind ys
  where
    kind : (zs : List StepNo) → map step_no (bare_numbers_of zs) ≡ zs
    kind [] = refl
    kind (z ∷ zs) = ap (λ l. z ∷ l) (kind zs)
