-- The labels at the steps of a pattern, as the part of its array that has them, and the table of the small ones. Assumes nothing.
use Rattle.tables.proofs.Kit.{ℕ, ◌<◌, ◌≡◌, sym, ◌∙◌, subst, ◌⊎◌, Bool, false, List, arith, T}
use Rattle.tables.proofs.Kit.{get_or, take, replicate, get_or-replicate, get_or-take, length, length-take}
use Rattle.tables.specs.{Pattern.{Shape, shape_of}, declared.Pattern.Pattern}
use Rattle.containment.specs.Witness.{Stands}

-- the labels of a pattern
abbrev pub labels_of : Pattern → List ℕ
labels_of p = take p.count p.label

-- each of them stands at a step
pub label_stands : (p : Pattern) (i l : ℕ) → i < length (labels_of p) → l ≡ get_or (labels_of p) i 0 → Stands (shape_of p) l
label_stands p i l h e =
    let m : i < p.count = omega (arith, length-take p.count p.label) in
    record { step = i; here = m; is = sym (get_or-take p.count p.label i 0 m) ∙ sym e }

-- what is marked in a table was marked in another or stands at a step
abbrev pub UsedIn : Shape → List Bool → List Bool → Type 0
UsedIn A used₀ used = (k : ℕ) → T (get_or used k false) → T (get_or used₀ k false) ⊎ Stands A k

-- nothing is marked in a new table
pub none_used : (n k : ℕ) → k < n → T (get_or (replicate n false) k false) → ⊥
none_used n k h t = subst T (get_or-replicate n k false false h) t
