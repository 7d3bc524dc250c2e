-- Each entry is compared with the one before it, and with n. Assumes nothing.
use Rattle.std.proofs.lemmas.{Fn.always_returns_same, Option.get_or_from_slice_get}
use Rattle.tables.proofs.Kit.{◌&&◌, sym, ltb, arith, rules}
use Rattle.marking.proofs.Starts.{ascends_below}
use Rattle.marking.proofs.starts_right.Goals as goal

pub returns-then-from-n : goal.returns-then-from-n
returns-then-from-n c =
    let xs = c.args.starts.now in
    let n = c.args.n in
    let up = ascends_below xs n _ (omega (arith, get_or_from_slice_get xs 0 c.in-Some.first.now 0 (sym c.in-Some.ensures.value)))
    (c.is_sorted_by.ensures.cases (λ x y. ltb x y && ltb y n) (always_returns_same _ _ _ (λ a r f k. search rules))) in
    λ d e. (
      λ t. let h = up.0 t in record { ascending = h.0; nodes = λ k l. omega (arith, h.1 k l) },
      λ w. up.1 (w.ascending, λ k l. omega (arith, w.nodes k l)),
    )
