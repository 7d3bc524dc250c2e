-- Where no step of a set is a fork, its steps lead to their next steps alone, and a shift finds these; so it does on the way back. Assumes nothing.
use Rattle.tables.proofs.Kit.{ℕ, zero, suc, ◌+◌, ◌*◌, ◌/◌, ◌%◌, ◌^◌, ◌<◌, ◌≡◌, sym, ap, ◌∙◌, subst, arith, ℕ_discrete, mul-div_left, bit_and, pow_pos}
use Rattle.tables.specs.{Bits.{bit, Marks}, Tree.Child, Pattern.{Shape, ValidShape}}
use Rattle.tables.proofs.{Bits.{bit_zero, bit_and_lem, bit_shr, bit_mod}, Marks.{marks_bits, marks_and}}
use Rattle.plan.specs.{Steps.{Next, Forked}, Leading.{ToParent, Led}}

-- a bit of a number shifted up by one
pub bit_up : (x s : ℕ) → suc s < 64 → bit (x * 2 ^ 1 % 2 ^ 64) (suc s) ≡ bit x s
bit_up x s l =
    let e : x * 2 ^ 1 / 2 ^ 1 ≡ x = mul-div_left x (pow_pos 1) in let f : 1 + s ≡ suc s = omega arith in
    bit_mod (x * 2 ^ 1) 64 (suc s) l ∙ ap (bit (x * 2 ^ 1)) (sym f) ∙ sym (bit_shr (x * 2 ^ 1) 1 s) ∙ ap (λ y. bit y s) e

module _ (A : Shape) (v : ValidShape A) (next forked : ℕ) (n : Marks next (Next A)) (f : Forked A forked) where
  -- a step of a set without forked has no child step but the next
  pub only_next : (x s t : ℕ) → bit_and x forked ≡ 0 → bit x s ≡ 1 → Child A.tree s t → s + 1 ≡ t
  only_next x s t z b k = go (ℕ_discrete (s + 1) t)
    where
      go : Dec (s + 1 ≡ t) → s + 1 ≡ t
      go (yes e) = e
      go (no w) = absurd (omega (arith, bit_and_lem x forked s, f.has s t k w, b, bit_zero s, ap (λ y. bit y s) z))

  -- a step that is next is the next of its parent
  next_child : (s t : ℕ) → s + 1 ≡ t → Next A t → Child A.tree s t
  next_child s t e w = record { late = w.0; here = w.1; up = omega (arith, w.2) }

  child_next : (s t : ℕ) → s + 1 ≡ t → Child A.tree s t → Next A t
  child_next s t e k = (k.late, k.here, omega (arith, k.up))

  -- the parents of missing steps that are next stand at the shifted bits
  pub shift_down : (missing s : ℕ) → bit (bit_and missing next / 2 ^ 1) s ≡ 1 → Led (ToParent A) missing s
  shift_down missing s b =
      let w = (marks_and missing next (λ t. bit missing t ≡ 1) (Next A) (marks_bits missing) n).only (1 + s) (sym (bit_shr (bit_and missing next) 1 s) ∙ b) in
      (1 + s, w.0, next_child s (1 + s) (omega arith) w.1)

  -- and the parent of a missing step that is the next after it stands there
  pub shift_in : (missing s t : ℕ) → s + 1 ≡ t → bit missing t ≡ 1 → Child A.tree s t → bit (bit_and missing next / 2 ^ 1) s ≡ 1
  shift_in missing s t e b k =
      let g : t ≡ 1 + s = omega arith in
      bit_shr (bit_and missing next) 1 s ∙ subst (λ y. bit (bit_and missing next) y ≡ 1) g
      ((marks_and missing next (λ y. bit missing y ≡ 1) (Next A) (marks_bits missing) n).put t (b, child_next s t e k))

  -- the steps to which a set without forked leads
  pub shift_up : (x : ℕ) → bit_and x forked ≡ 0 → Marks (bit_and (x * 2 ^ 1 % 2 ^ 64) next) (Led (Child A.tree) x)
  shift_up x z = record { put = put; only = only }
    where
      both : Marks (bit_and (x * 2 ^ 1 % 2 ^ 64) next) (λ t. (bit (x * 2 ^ 1 % 2 ^ 64) t ≡ 1) × Next A t)
      both = marks_and (x * 2 ^ 1 % 2 ^ 64) next (λ t. bit (x * 2 ^ 1 % 2 ^ 64) t ≡ 1) (Next A) (marks_bits (x * 2 ^ 1 % 2 ^ 64)) n

      put : (t : ℕ) → Led (Child A.tree) x t → bit (bit_and (x * 2 ^ 1 % 2 ^ 64) next) t ≡ 1
      put t q =
          let s : ℕ = q.0 in let e : s + 1 ≡ t = only_next x s t z q.1 q.2 in
          let g : suc s ≡ t = omega arith in
          both.put t (subst (λ y. bit (x * 2 ^ 1 % 2 ^ 64) y ≡ 1) g (bit_up x s (omega (arith, q.2.here, v.few)) ∙ q.1), child_next s t e q.2)

      lead : (t : ℕ) → bit (x * 2 ^ 1 % 2 ^ 64) t ≡ 1 → Next A t → Led (Child A.tree) x t
      lead zero b w = absurd (omega (arith, w.0))
      lead (suc s) b w = (s, sym (bit_up x s (omega (arith, w.1, v.few))) ∙ b, next_child s (suc s) (omega arith) w)

      only : (t : ℕ) → bit (bit_and (x * 2 ^ 1 % 2 ^ 64) next) t ≡ 1 → Led (Child A.tree) x t
      only t b = let w = both.only t b in lead t w.0 w.1
