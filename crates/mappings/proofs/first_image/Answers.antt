-- `mappings::first_image` meets its contract. Assumes nothing.
use Rattle.tables.proofs.Kit.{ℕ, ◌<◌, ◌≤◌, ◌≡◌, sym, ap, ◌∙◌, List, arith, dec_le, take, length, get_or, get_or-take, length-take}
use Rattle.std.proofs.Common.{rules, Some, None}
use borrow.Author.Tests.{tests}
use Rattle.std.proofs.lemmas.Iterator.{YieldsList-from_slice, IsFirst-from_position}
use Rattle.tables.specs.{Bits.bit, Column.{step_no}}
use Rattle.mappings.specs.Fits.{nothing}
use Rattle.mappings.proofs.Images.{pick_here}
use Rattle.mappings.proofs.first_image.Goals as goal
use Rattle.mappings.proofs.first_image.Goals.{After-first_steps}

-- all that are looked at are steps of the pattern
few : (c : After-first_steps) → c.first_steps.result ≤ 64
few c = elim (dec_le c.first_steps.result 64) [
  | yes h ↦ h
  | no h ↦ absurd (omega (arith, ((c.first_steps.ensures 64).0 (omega arith)).0, c.requires.1))
]

-- what is looked at is the front of the table
front : (xs : List ℕ) (n i : ℕ) → n ≤ length xs → i < n → (i < length (take n xs)) × (bit (get_or (take n xs) i 0) 0 ≡ bit (get_or xs i 0) 0)
front xs n i h l = (omega (arith, length-take n xs), ap (λ x. bit x 0) (get_or-take n xs i 0 l))

pub shared_ref_as_front-firsts : goal.shared_ref_as_front-firsts
shared_ref_as_front-firsts c = few (goal.at.shared_ref_as_front-firsts c).After-first_steps

pub returns-in_err-s : goal.returns-in_err-s
returns-in_err-s c =
    let n = c.first_steps.result in
    let k : n ≤ length c.args.fit.now = omega (arith, few (goal.at.returns-in_err-s c).After-first_steps) in
    let h = IsFirst-from_position _ _ None (λ x. bit x 0 ≡ 1) (λ x. bit x 0 ≡ 1 → ⊥) c.in_err-s.ensures.ran
    (YieldsList-from_slice (take n c.args.fit.now) cc) (λ x q k. search (rules, tests)) (λ x q k. search (rules, tests)) in
    rw c.from_residual.ensures (nothing (λ j x.
    let f = front c.args.fit.now n j k ((c.first_steps.ensures j).1 x.0) in
    h j 0 (omega arith) f.0 (f.1 ∙ x.1)))

pub returns : goal.returns
returns c =
    let n = c.first_steps.result in
    let s = c.in_ok-s.s in
    let k : n ≤ length c.args.fit.now = omega (arith, few (goal.at.returns c).After-first_steps) in
    let h = IsFirst-from_position _ _ (Some s) (λ x. bit x 0 ≡ 1) (λ x. bit x 0 ≡ 1 → ⊥) c.in_ok-s.ensures.ran
    (YieldsList-from_slice (take n c.args.fit.now) cc) (λ x q k. search (rules, tests)) (λ x q k. search (rules, tests)) in
    let l : s < n = omega (arith, h.0, length-take n c.args.fit.now) in
    pick_here (step_no s) ((c.first_steps.ensures s).0 l, sym (front c.args.fit.now n s k l).1 ∙ h.1 0)
    (λ j m x. h.2 j 0 (omega arith) m ((front c.args.fit.now n j k (omega arith)).1 ∙ x.1))
