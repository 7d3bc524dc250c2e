-- `packets::rows_in` meets its contract: each test decides its part of a check. Assumes nothing.
use Rattle.tables.proofs.Kit.{◌/◌, arith}
use Rattle.packets.specs.Header.{Sized}
use Rattle.packets.proofs.rows_in.Goals as goal

pub returns : goal.returns
returns c =
    let f = c.from-field.result in
    let rows : Sized c.args.s.now c.args.extra c.args.most (f / 4) =
    record { some = omega arith; few = omega arith; field = omega arith; present = omega arith } in
    ((omega arith, (omega arith, ((f / 4, rows), tt))), omega arith)
