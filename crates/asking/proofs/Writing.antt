-- Laws of the writers: one text after another, and how long the lines are. Assumes nothing.
use Rattle.tables.proofs.Kit.{ℕ, zero, suc, ◌+◌, ◌*◌, ◌≤◌, ◌<◌, ◌≡◌, refl, sym, ap, ap₂, ◌∙◌, List, [], ◌∷◌, ◌++◌, append_assoc, append-nil}
use Rattle.tables.proofs.Kit.{arith, add-one, length, get_or, take, drop, length-append, take-append-drop, length-take-le}
use Rattle.tables.specs.Column.{blocks}
use Rattle.tables.proofs.Columns.{blocks_fit, put_block}
use Rattle.asking.specs.{Text.{item, spaced, line}, inner.Writing.{Fits, Grew}, declared.text.Text.Text}
use Rattle.asking.proofs.Decimal.{length_4}

-- nothing is added
pub grew_none : (x : Text) → Grew x [] x
grew_none x = record {
  same = refl;
  kept = refl;
  end = omega arith;
  is = sym (ap (λ l. l ++ drop x.len x.out.now) (append-nil (take x.len x.out.now)) ∙ take-append-drop x.len x.out.now);
}

-- one text after another
pub grew_then : {x : Text} {t : List ℕ} {y : Text} {u : List ℕ} {z : Text} → x.len ≤ length x.out.now → Grew x t y → Grew y u z → Grew x (t ++ u) z
grew_then {x} {t} {y} {u} {z} l g h =
    let b = x.out.now in
    let e : length (take x.len b ++ t) ≡ y.len = omega (arith, length-append (take x.len b) t, length-take-le x.len b l, g.end) in
    record {
      same = h.same ∙ g.same;
      kept = h.kept ∙ g.kept;
      end = omega (arith, g.end, h.end, length-append t u);
      is =
          h.is
          ∙ ap₂ (λ w k. take y.len w ++ u ++ drop k w) g.is h.end
          ∙ put_block (take x.len b ++ t) u b y.len (length u) e
          ∙ ap₂ (λ w k. w ++ drop k b) (append_assoc (take x.len b) t u) (sym h.end);
    }

-- the first i numbers of a list have been put, each after a space
abbrev pub Spaced : Text → List ℕ → ℕ → Text → Type 0
Spaced x list i y = Grew x (blocks (λ k. item (get_or list k 0)) i) y

-- none yet
pub spaced_none : (x : Text) (list : List ℕ) → Spaced x list 0 x
unfolding blocks
spaced_none x list = grew_none x

-- there is room for number i
pub spaced_room : (x : Text) (list : List ℕ) (i n : ℕ) (y : Text) → Fits x (length (spaced list)) → i < length list → n ≡ get_or list i 0 → Spaced x list i y →
    Fits y (length (item n))
unfolding spaced
spaced_room x list i n y f l e g =
    omega (arith, blocks_fit (λ k. item (get_or list k 0)) (length list) i l, g.end, g.kept, ap (λ m. length (item m)) e)

-- one number more
pub spaced_next : (x : Text) (list : List ℕ) (i n : ℕ) (y z : Text) → x.len ≤ length x.out.now → n ≡ get_or list i 0 → Spaced x list i y → Grew y (item n) z →
    Spaced x list (i + 1) z
unfolding blocks
spaced_next x list i n y z l e g h = rw add-one (grew_then l g (rw e at h))

-- all of them
pub spaced_all : (x : Text) (list : List ℕ) (i : ℕ) (y : Text) → i ≡ length list → Spaced x list i y → Grew x (spaced list) y
unfolding spaced
spaced_all x list i y e g = rw e at g

-- how long numbers below 10,000 are, each after a space
blocks_short : (f : ℕ → ℕ) (n : ℕ) → ((k : ℕ) → k < n → f k < 10000) → length (blocks (λ k. item (f k)) n) ≤ 5 * n
unfolding blocks
blocks_short f zero h = omega arith
blocks_short f (suc n) h =
    omega (arith, length-append (blocks (λ k. item (f k)) n) (item (f n)), blocks_short f n (λ k l. h k (omega arith)), length_4 (f n) (h n (omega arith)))

-- the parts of a line
pub line_length : (w xs : List ℕ) → length (line w xs) ≡ length w + length (item (length xs)) + 1 + length (spaced xs) + 1
unfolding line
line_length w xs =
    length-append (w ++ item (length xs) ++ (58 ∷ []) ++ spaced xs) (10 ∷ [])
    ∙ omega (
      arith,
      length-append (w ++ item (length xs) ++ (58 ∷ [])) (spaced xs),
      length-append (w ++ item (length xs)) (58 ∷ []),
      length-append w (item (length xs)),
    )

-- a line of at most 2,048 numbers, all below 10,000
pub line_short : (w xs : List ℕ) → length xs ≤ 2048 → ((k : ℕ) → k < length xs → get_or xs k 0 < 10000) → length (line w xs) ≤ length w + 10247
unfolding spaced
line_short w xs l h = omega (arith, line_length w xs, blocks_short (λ k. get_or xs k 0) (length xs) h, length_4 (length xs) (omega arith))
