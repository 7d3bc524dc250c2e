-- One node's turn in the second pass, from the numbers that the code computes. Assumes nothing.
use Rattle.tables.proofs.Kit.{ℕ, zero, suc, ◌+◌, ◌*◌, ◌<◌, ◌≡◌, refl, sym, subst, List, arith, add-one}
use Rattle.tables.proofs.Kit.{bit_or, bit_and, length, get_or, set, length-set, get_or-set_same, get_or-set_other}
use Rattle.tables.specs.{Bits.{bit, Marks}, Tree.Child, Document.{Document, node_count, nodes_of}, Pattern.{Shape, ValidShape}}
use Rattle.tables.proofs.Marks.{marks_to, marks_none}
use Rattle.answers.specs.{Working.PlacedAt, inner.Standing.{Allowed, PassedOn, Downward}}
use Rattle.answers.proofs.Downward.{Over, node_placed, node_allowed, down_turn}

module _ (A : Shape) (va : ValidShape A) (d : Document) (First : ℕ → Type 0) where
  -- what is read for a node is what was allowed to it
  over_marks : (i over : ℕ) (before work allowed : List ℕ) → i < node_count d → (0 < i → get_or d.parents i 0 < i)
      → (i ≡ 0 → over ≡ 0) → (0 < i → over ≡ get_or allowed (get_or d.parents i 0) 0)
      → Downward A d First i before work allowed → Marks over (Over A d First va i)
  over_marks zero over before work allowed l up z y u = rw (z refl) (marks_none (Over A d First va 0) (λ s w. omega (arith, w.1.late)))
  over_marks (suc i) over before work allowed l up z y u =
      let h : 0 < suc i = omega arith in let p : ℕ = get_or d.parents (suc i) 0 in
      let c : Child (nodes_of d).tree p (suc i) = record { late = h; here = l; up = refl } in
      rw (y h) (marks_to (get_or allowed p 0) (Allowed A d First p) (Over A d First va (suc i)) (λ s w. (p, c, w))
      (λ s w. subst (λ (q : ℕ). Allowed A d First q s) (sym w.1.up) w.2) (u.allows p (up h)))

  -- the turn of any node: what is passed on is known once it is known that only steps stand there
  pub turned : (i over x : ℕ) (before work allowed : List ℕ) → i < node_count d → (0 < i → get_or d.parents i 0 < i) → 2 * i + 1 < length work → i < length
      allowed
      → (i ≡ 0 → over ≡ 0) → (0 < i → over ≡ get_or allowed (get_or d.parents i 0) 0)
      → let whole = bit_and (get_or work (2 * i) 0) (bit_or over (get_or work (2 * i + 1) 0)) in
      (((t : ℕ) → bit whole t ≡ 1 → t < A.tree.size) → Marks x (PassedOn A whole over))
      → Downward A d First i before work allowed
      → Downward A d First (i + 1) before (set work (2 * i + 1) whole) (set allowed i x) × Marks whole (PlacedAt A d First i)
  turned i over x before work allowed l up room room' z y p u = (rw (add-one i) next, mw)
    where
      whole : ℕ
      whole = bit_and (get_or work (2 * i) 0) (bit_or over (get_or work (2 * i + 1) 0))

      mo : Marks over (Over A d First va i)
      mo = over_marks i over before work allowed l up z y u

      mw : Marks whole (PlacedAt A d First i)
      mw = node_placed A d First va i (get_or work (2 * i) 0) over (get_or work (2 * i + 1) 0) (u.fits i l) mo (u.starts i (omega arith) l)

      next : Downward A d First (suc i) before (set work (2 * i + 1) whole) (set allowed i x)
      next = down_turn A d First va i whole x before work (set work (2 * i + 1) whole) allowed (set allowed i x) l u mw
          (node_allowed A d First va i whole over mw mo x (p (λ t b. (mw.only t b).0)))
          (length-set work (2 * i + 1) whole) (get_or-set_same work (2 * i + 1) whole 0 room) (λ q n. get_or-set_other work (2 * i + 1) q whole 0 n)
          (get_or-set_same allowed i x 0 room') (λ m h. get_or-set_other allowed i m x 0 (omega arith))
