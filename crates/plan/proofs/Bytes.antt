-- Tables that a byte of a number looks up: how one is filled, and what the bytes find. Assumes nothing.
use Rattle.tables.proofs.Kit.{ℕ, zero, suc, ◌+◌, ◌*◌, ◌-◌, ◌/◌, ◌%◌, ◌^◌, ◌≤◌, ◌<◌, ◌≡◌, refl, sym, ap, ◌∙◌, subst}
use Rattle.tables.proofs.Kit.{◌⊎◌, inl, inr, ◌≢◌, ◌↔◌, List, arith, pow-succ', ℕ_discrete, dec_lt, dec_le, bit_or, pow_mono}
use borrow.Rule.Slice.PartMut.{put_mid, mid_of}
use Rattle.tables.proofs.Kit.{
  ◌++◌,
  length,
  get_or,
  take,
  drop,
  replicate,
  length-append,
  length-drop,
  length-take-le,
  get_or-take,
  get_or-drop,
  get_or-append,
  get_or-append-add,
  get_or-eq_default,
  length-replicate,
}
use Rattle.std.specs.Int.{w64, to_le_bytes}
use Rattle.tables.specs.Bits.{bit, Marks}
use Rattle.tables.proofs.Bits.{bit_shr, bit_mod, bit_in, bit_least, set_here, set_other}
use Rattle.tables.proofs.{Marks.{marks_none, marks_to, marks_or, with_top, bits_lt}, MarkTables.zeros_at}
use Rattle.plan.specs.Leading.{Doubled, Spread, Led, looked_up}

-- a part is put back in its place, entry by entry
module _ (before part : List ℕ) (base k : ℕ) (room : base + k ≤ length before) (long : length part ≡ k) where
  abbrev whole : List ℕ
  whole = put_mid base k before part

  front : length (take base before) ≡ base
  front = length-take-le base before (omega arith)

  whole_length : length whole ≡ length before
  whole_length = simp (length-append, length-drop) (omega (arith, front))

  in_part : (j : ℕ) → j < k → get_or whole (base + j) 0 ≡ get_or part j 0
  in_part j h =
      let e : base + j ≡ length (take base before) + j = omega (arith, front) in
      ap (λ q. get_or whole q 0) e ∙ get_or-append-add (take base before) (part ++ drop k (drop base before)) j 0
      ∙ get_or-append part (drop k (drop base before)) 0 j (omega arith)

  in_front : (q : ℕ) → q < base → get_or whole q 0 ≡ get_or before q 0
  in_front q h = get_or-append (take base before) (part ++ drop k (drop base before)) 0 q (omega (arith, front)) ∙ get_or-take base before q 0 h

  in_back : (q : ℕ) → base + k ≤ q → get_or whole q 0 ≡ get_or before q 0
  in_back q h =
      let j : ℕ = q - base - k in
      let e : q ≡ length (take base before) + (length part + j) = omega (arith, front) in
      let f : base + (k + j) ≡ q = omega arith in
      ap (λ q. get_or whole q 0) e ∙ get_or-append-add (take base before) (part ++ drop k (drop base before)) (length part + j) 0
      ∙ get_or-append-add part (drop k (drop base before)) j 0 ∙ get_or-drop k (drop base before) j 0 ∙ get_or-drop base before (k + j) 0
      ∙ ap (λ q. get_or before q 0) f

-- a block that is doubled by itself is doubled in its table
pub doubled_in : (before block : List ℕ) (base top m k : ℕ) → k ≡ 2 * top → base + k ≤ length before → Doubled (mid_of base k before) 0 top m block
    → Doubled before base top m (put_mid base k before block)
doubled_in before block base top m k w room d =
    let e : length block ≡ k = d.same_length ∙ length-take-le k (drop base before) (omega (arith, length-drop base before)) in
    let old : (q : ℕ) → q < k → get_or (mid_of base k before) q 0 ≡ get_or before (base + q) 0
    = λ q h. get_or-take k (drop base before) q 0 h ∙ get_or-drop base before q 0 in
    record {
      same_length = whole_length before block base k room e;
      joined = λ u h.
          let f : base + top + u ≡ base + (0 + top + u) = omega arith in
          let g : base + (0 + u) ≡ base + u = omega arith in
          ap (λ q. get_or (put_mid base k before block) q 0) f ∙ in_part before block base k room e (0 + top + u) (omega arith)
          ∙ d.joined u h ∙ ap (λ x. bit_or x m) (old (0 + u) (omega arith) ∙ ap (λ q. get_or before q 0) g);
      early = λ q h. early q h (dec_lt q base) e old;
      late = λ q h. in_back before block base k room e q (omega arith);
    }
  where
    early : (q : ℕ) → q < base + top → Dec (q < base) → length block ≡ k
        → ((q : ℕ) → q < k → get_or (mid_of base k before) q 0 ≡ get_or before (base + q) 0)
        → get_or (put_mid base k before block) q 0 ≡ get_or before q 0
    early q h (yes l) e old = in_front before block base k room e q l
    early q h (no n) e old =
        let j : ℕ = q - base in
        let f : q ≡ base + j = omega arith in
        ap (λ q. get_or (put_mid base k before block) q 0) f ∙ in_part before block base k room e j (omega arith) ∙ d.early j (omega arith)
        ∙ old j (omega arith) ∙ ap (λ q. get_or before q 0) (sym f)

-- a block is its first half, as it was, and that half with m joined to each entry
pub doubled_halves : (old new new' : List ℕ) (top m : ℕ) → length old ≡ top → length new ≡ top → length new' ≡ top
    → ((u : ℕ) → u < top → get_or new' u 0 ≡ bit_or (get_or old u 0) m) → Doubled (old ++ new) 0 top m (old ++ new')
doubled_halves old new new' top m a b c f =
    record {
      same_length = simp length-append (omega arith);
      joined = λ u h.
          let e : 0 + top + u ≡ length old + u = omega arith in
          let g : u ≡ 0 + u = omega arith in
          ap (λ q. get_or (old ++ new') q 0) e ∙ get_or-append-add old new' u 0 ∙ f u h
          ∙ ap (λ x. bit_or x m) (sym (get_or-append old new 0 u (omega arith)) ∙ ap (λ q. get_or (old ++ new) q 0) g);
      early = λ q h. get_or-append old new' 0 q (omega arith) ∙ sym (get_or-append old new 0 q (omega arith));
      late = λ q h.
          get_or-eq_default (old ++ new') 0 (simp length-append (omega arith)) ∙ sym (get_or-eq_default (old ++ new) 0 (simp length-append (omega arith)));
    }

-- the steps to which the bits of v lead, from 8c on
abbrev Entry : (ℕ → ℕ → Type 0) → ℕ → ℕ → ℕ → Type 0
Entry R c v s = (b : ℕ) × (bit v b ≡ 1) × R (8 * c + b) s

-- where no step is in the table yet, it is zeros
pub spread_none : (R : ℕ → ℕ → Type 0) → Spread R 0 (replicate 2048 0)
spread_none R =
    record {
      size = length-replicate {A = ℕ} 2048 0;
      entry = λ c v i j h. rw (zeros_at 2048 (256 * c + v)) (marks_none (Entry R c v) (λ s q. omega (arith, h q.0 q.1)));
    }

-- step 8g + k comes into the table
module _ (R : ℕ → ℕ → Type 0) (g k m : ℕ) (before after : List ℕ) (i : g < 8) (j : k < 8) where
  module _ (t : Spread R (8 * g + k) before) (to : Marks m (R (8 * g + k))) (d : Doubled before (256 * g) (2 ^ k) m after) where
    -- an entry that stays, where v does not have the step's bit
    stays : (c v : ℕ) → c < 8 → v < 256 → ((b : ℕ) → bit v b ≡ 1 → 8 * c + b < 8 * g + k + 1) → ((b : ℕ) → bit v b ≡ 1 → 8 * c + b ≢ 8 * g + k)
        → get_or after (256 * c + v) 0 ≡ get_or before (256 * c + v) 0 → Marks (get_or after (256 * c + v) 0) (Entry R c v)
    stays c v hc hv h n e = rw e (t.entry c v hc hv (λ b x. omega (arith, h b x, n b x)))

    -- the entries before those that are written
    first : (c v : ℕ) → v < 256 → 256 * c + v < 256 * g + 2 ^ k → (b : ℕ) → bit v b ≡ 1 → 8 * c + b ≢ 8 * g + k
    first c v hv l b x e = let s = bit_in v 8 b hv x in let f : b ≡ k = omega arith in omega (arith, bit_least v b x, ap (λ y. 2 ^ y) f)

    -- and those after them
    last : (c v : ℕ) → v < 256 → ((b : ℕ) → bit v b ≡ 1 → 8 * c + b < 8 * g + k + 1) → 256 * g + 2 * 2 ^ k ≤ 256 * c + v
        → (b : ℕ) → bit v b ≡ 1 → 8 * c + b ≢ 8 * g + k
    last c v hv h l b x e =
        let s = bit_in v 8 b hv x in let f : c ≡ g = omega arith in
        omega (arith, bits_lt (suc k) v (λ a y. omega (arith, h a y)), pow-succ' 2 k)

    -- an entry that is written, with v = 2 ^ k + u: it has what entry u has, and the step's own
    module _ (c v u : ℕ) (e : c ≡ g) (f : v ≡ 2 ^ k + u) (l : u < 2 ^ k) where
      with_bit : v ≡ bit_or u (2 ^ k)
      with_bit = f ∙ sym (with_top k u l)

      into : (s : ℕ) → Entry R g u s ⊎ R (8 * g + k) s → Entry R c v s
      into s (inl q) = (q.0, rw with_bit (set_other u k q.0 (λ z. omega (arith, bit_in u k q.0 l q.1)) ∙ q.1), rw e q.2)
      into s (inr q) = (k, rw with_bit (set_here u k), rw e q)

      back : (s : ℕ) (q : Entry R c v s) → Dec (q.0 ≡ k) → Entry R g u s ⊎ R (8 * g + k) s
      back s q (yes z) = inr (subst (λ b. R (8 * g + b) s) z (subst (λ y. R (8 * y + q.0) s) e q.2))
      back s q (no z) = inl (q.0, sym (set_other u k q.0 z) ∙ subst (λ y. bit y q.0 ≡ 1) with_bit q.1, subst (λ y. R (8 * y + q.0) s) e q.2)

      joins : Marks (get_or after (256 * c + v) 0) (Entry R c v)
      joins =
          let a : 256 * c + v ≡ 256 * g + 2 ^ k + u = omega arith in
          let r : u < 256 = omega (arith, pow_mono {i = k} {j = 8} (omega arith)) in
          let x = get_or before (256 * g + u) 0 in
          rw (a, d.joined u l)
          (marks_to (bit_or x m) (λ s. Entry R g u s ⊎ R (8 * g + k) s) (Entry R c v) into (λ s q. back s q (ℕ_discrete q.0 k))
          (marks_or x m (Entry R g u) (R (8 * g + k)) (t.entry g u i r (λ b y. omega (arith, bit_in u k b l y))) to))

    -- every entry, by where it stands
    entries : (c v : ℕ) → c < 8 → v < 256 → ((b : ℕ) → bit v b ≡ 1 → 8 * c + b < 8 * g + k + 1)
        → Dec (256 * c + v < 256 * g + 2 ^ k) → Dec (256 * g + 2 * 2 ^ k ≤ 256 * c + v) → Marks (get_or after (256 * c + v) 0) (Entry R c v)
    entries c v hc hv h (yes l) o = stays c v hc hv h (first c v hv l) (d.early (256 * c + v) l)
    entries c v hc hv h (no n) (yes l) = stays c v hc hv h (last c v hv h l) (d.late (256 * c + v) l)
    entries c v hc hv h (no n) (no o) =
        let p = pow-succ' 2 k in let q = pow_mono {i = suc k} {j = 8} (omega arith) in
        joins c v (v - 2 ^ k) (omega arith) (omega arith) (omega arith)

    -- the table has the step
    step : Spread R (8 * g + k + 1) after
    step =
        record {
          size = d.same_length ∙ t.size;
          entry = λ c v hc hv h. entries c v hc hv h (dec_lt (256 * c + v) (256 * g + 2 ^ k)) (dec_le (256 * g + 2 * 2 ^ k) (256 * c + v));
        }

-- one step more comes into the table by doubling its block
pub spread_more : (R : ℕ → ℕ → Type 0) (n m : ℕ) (before after : List ℕ) → n < 64 → Spread R n before → Marks m (R n)
    → Doubled before (256 * (n / 8)) (2 ^ (n % 8)) m after → Spread R (n + 1) after
spread_more R n m before after h t to d =
    let e : n ≡ 8 * (n / 8) + n % 8 = omega arith in
    subst (λ y. Spread R (y + 1) after) (sym e)
    (step R (n / 8) (n % 8) m before after (omega arith) (omega arith) (subst (λ y. Spread R y before) e t) (subst (λ y. Marks m (R y)) e to) d)

-- a relation that says the same has the same table
pub spread_iff : (R Q : ℕ → ℕ → Type 0) (n : ℕ) (table : List ℕ) → ((t s : ℕ) → t < n → R t s ↔ Q t s) → Spread R n table → Spread Q n table
spread_iff R Q n table f t =
    record {
      size = t.size;
      entry = λ c v hc hv h. marks_to (get_or table (256 * c + v) 0) (Entry R c v) (Entry Q c v)
          (λ s q. (q.0, q.1, (f (8 * c + q.0) s (h q.0 q.1)).0 q.2))
          (λ s q. (q.0, q.1, (f (8 * c + q.0) s (h q.0 q.1)).1 q.2))
          (t.entry c v hc hv h);
    }

-- numbers whose bits are a relation have that relation's table
pub spread_marks : (R : ℕ → ℕ → Type 0) (n : ℕ) (to table : List ℕ) → length (take n to) ≡ n → ((t : ℕ) → Marks (get_or to t 0) (R t))
    → Spread (λ t s. bit (get_or (take n to) t 0) s ≡ 1) (length (take n to)) table → Spread R n table
spread_marks R n to table e m h =
    spread_iff (λ t s. bit (get_or (take n to) t 0) s ≡ 1) R n table
    (λ t s l. let w = get_or-take n to t 0 l in (λ b. (m t).only s (rw w at b), λ q. rw w ((m t).put s q)))
    (rw e at h)

module _ (R : ℕ → ℕ → Type 0) (n : ℕ) (table : List ℕ) (x : ℕ) (t : Spread R n table) (few : (b : ℕ) → bit x b ≡ 1 → b < n) where
  -- byte c of x has the bits of x from 8c on
  byte_bit : (c b : ℕ) → b < 8 → bit (x / 2 ^ (8 * c) % 256) b ≡ bit x (8 * c + b)
  byte_bit c b l = bit_mod (x / 2 ^ (8 * c)) 8 b l ∙ bit_shr x (8 * c) b

  -- so a bit of byte c is one of x
  byte_in : (c b : ℕ) → bit (x / 2 ^ (8 * c) % 256) b ≡ 1 → (b < 8) × (bit x (8 * c + b) ≡ 1)
  byte_in c b e = let l = bit_in (x / 2 ^ (8 * c) % 256) 8 b (omega arith) e in (l, sym (byte_bit c b l) ∙ e)

  -- the steps to which the bits of x below 8k lead
  abbrev LedTo : ℕ → ℕ → Type 0
  LedTo k s = (b : ℕ) × (b < 8 * k) × (bit x b ≡ 1) × R b s

  -- below 8c + 8 is below 8c, or a bit of byte c
  lead : (c s : ℕ) → LedTo c s ⊎ Entry R c (x / 2 ^ (8 * c) % 256) s → LedTo (suc c) s
  lead c s (inl q) = (q.0, omega (arith, q.1), q.2, q.3)
  lead c s (inr q) = let b = byte_in c q.0 q.1 in (8 * c + q.0, omega (arith, b.0), b.1, q.2)

  split : (c s : ℕ) (q : LedTo (suc c) s) → Dec (q.0 < 8 * c) → LedTo c s ⊎ Entry R c (x / 2 ^ (8 * c) % 256) s
  split c s q (yes l) = inl (q.0, l, q.2, q.3)
  split c s q (no l) =
      let e : q.0 ≡ 8 * c + (q.0 - 8 * c) = omega arith in
      inr (q.0 - 8 * c, byte_bit c (q.0 - 8 * c) (omega (arith, q.1)) ∙ subst (λ y. bit x y ≡ 1) e q.2, subst (λ y. R y s) e q.3)

  -- the first k bytes find what the bits below 8k lead to
  led_to : (k : ℕ) → k ≤ 8 → Marks (looked_up table x k) (LedTo k)
  unfolding looked_up
  led_to zero h = marks_none (LedTo 0) (λ s q. omega (arith, q.1))
  led_to (suc c) h =
      let v = x / 2 ^ (8 * c) % 256 in let y = get_or table (256 * c + v) 0 in
      marks_to (bit_or (looked_up table x c) y) (λ s. LedTo c s ⊎ Entry R c v s) (LedTo (suc c)) (lead c) (λ s q. split c s q (dec_lt q.0 (8 * c)))
      (marks_or (looked_up table x c) y (LedTo c) (Entry R c v) (led_to c (omega arith))
      (t.entry c v (omega arith) (omega arith) (λ b e. few (8 * c + b) (byte_in c b e).1)))

-- the bytes of x find the steps to which its bits lead
pub look_up_led : (R : ℕ → ℕ → Type 0) (n : ℕ) (table : List ℕ) (x : ℕ) → Spread R n table → x < 2 ^ 64 → ((t : ℕ) → bit x t ≡ 1 → t < n)
    → Marks (looked_up table x 8) (Led R x)
look_up_led R n table x t h few =
    marks_to (looked_up table x 8) (LedTo R n table x t few 8) (Led R x)
    (λ s q. (q.0, q.2, q.3)) (λ s q. (q.0, bit_in x 64 q.0 h q.1, q.1, q.2)) (led_to R n table x t few 8 (omega arith))

-- the bytes of a number, the lowest first
pub byte_of : (x c : ℕ) → c < 8 → get_or (to_le_bytes w64 x) c 0 ≡ x / 2 ^ (8 * c) % 256
byte_of x zero h = omega arith
byte_of x (suc zero) h = refl
byte_of x (suc (suc zero)) h = refl
byte_of x (suc (suc (suc zero))) h = refl
byte_of x (suc (suc (suc (suc zero)))) h = refl
byte_of x (suc (suc (suc (suc (suc zero))))) h = refl
byte_of x (suc (suc (suc (suc (suc (suc zero)))))) h = refl
byte_of x (suc (suc (suc (suc (suc (suc (suc zero))))))) h = refl
byte_of x (suc (suc (suc (suc (suc (suc (suc (suc c)))))))) h = absurd (omega arith)
