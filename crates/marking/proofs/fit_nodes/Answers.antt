-- The list is cleared and the plan is the pattern's, so that all turns leave what fits. Assumes nothing.
use Rattle.tables.proofs.Kit.{ℕ, ◌+◌, ◌*◌, ◌-◌, ◌≤◌, ◌≡◌, ap, ◌∙◌, List, ◌++◌, arith}
use Rattle.tables.proofs.Kit.{length, get_or, drop, length-append, length-drop, length-take-le, get_or-append-add, get_or-drop}
use Rattle.tables.specs.Pattern.{shape_of}
use Rattle.marking.proofs.fit_nodes.Goals as goal

-- past the first k entries, which are others now, nothing changes
past : (k q : ℕ) (ys xs : List ℕ) → length ys ≡ k → k ≤ q → get_or (ys ++ drop k xs) q 0 ≡ get_or xs q 0
past k q ys xs e l =
    let j : ℕ = q - k in
    let f : q ≡ length ys + j = omega arith in
    let z : k + j ≡ q = omega arith in
    ap (λ x. get_or (ys ++ drop k xs) x 0) f ∙ get_or-append-add ys (drop k xs) j 0 ∙ get_or-drop k xs j 0 ∙ ap (λ x. get_or xs x 0) z

pub returns : goal.returns
returns c =
    let k : ℕ = 2 * length c.args.d.lists.parents.now in
    let work = c.args.work.now in
    let long : length c.fill-2.new.self ≡ k = c.fill-2.ensures.len ∙ length-take-le k work c.requires in
    let u = c.fit_turns.ensures (shape_of c.args.p.table.now) c.fill.ensures in record {
      same_length = u.same_length ∙ simp (length-append, length-drop) (omega (arith, long, c.requires));
      fits = u.fits;
      seeded = u.seeded;
      rest = λ q l. u.rest q l ∙ past k q c.fill-2.new.self work long l;
    }
