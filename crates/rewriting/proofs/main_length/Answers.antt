-- `rewriting::main_length` meets its contract: it counts the steps of a climb. Assumes nothing.
use Rattle.tables.proofs.Kit.{◌+◌, ◌-◌, ◌≡◌, arith}
use Rattle.tables.proofs.Kept.{kept_pattern}
use Rattle.rewriting.proofs.{MainClimb.{climbed_up, climbed_all}, MainPath.main_length_lem}
use Rattle.rewriting.proofs.main_length.Goals as goal

pub loop-s-smaller : goal.loop-s-smaller
loop-s-smaller c = rw c.from.ensures (climbed_up (kept_pattern c.args.p.right) c.loop-s.invariant.1 (grind arith)).0

pub loop-s-preserved : goal.loop-s-preserved
loop-s-preserved c =
    let e : c.loop-s.k - 1 + 1 ≡ c.loop-s.k + 1 - 1 = omega arith in
    (omega arith, rw (c.from.ensures, ← e) (climbed_up (kept_pattern c.args.p.right) c.loop-s.invariant.1 (grind arith)).1)

pub returns : goal.returns
returns c =
    let v = kept_pattern c.args.p.right in omega (arith, main_length_lem v, climbed_all v c.loop-s.invariant.1 (grind arith))
