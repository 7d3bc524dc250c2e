-- `rewriting::main_step` meets its contract: it climbs as often as it is told. Assumes nothing.
use Rattle.tables.proofs.Kit.{arith}
use Rattle.tables.proofs.Kept.{kept_pattern}
use Rattle.rewriting.proofs.{MainClimb.{climbed_up, climbed_late}, MainPath.{main_length_lem, main_at}}
use Rattle.rewriting.proofs.main_step.Goals as goal

pub loop-k-preserved : goal.loop-k-preserved
loop-k-preserved c =
    let v = kept_pattern c.args.p.right in
    let r = c.loop-k.invariant.1 in
    (omega arith, rw c.from.ensures (climbed_up v r (climbed_late v r (omega (arith, main_length_lem v)))).1)

pub returns : goal.returns
returns c =
    let v = kept_pattern c.args.p.right in let r = c.loop-k.invariant.1 in
    main_at v c.loop-k.s.0 _ r.from (omega (arith, r.deep, main_length_lem v))
