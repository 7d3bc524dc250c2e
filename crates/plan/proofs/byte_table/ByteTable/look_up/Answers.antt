-- `ByteTable::look_up` meets its contract. The loop's invariant: `r` is what the first c bytes find. Assumes nothing.
use Rattle.tables.proofs.Kit.{◌*◌, ◌/◌, ◌%◌, ◌^◌, ◌≡◌, refl, ap, ◌∙◌, add-one, get_or}
use Rattle.plan.specs.Leading.{looked_up}
use Rattle.plan.proofs.Bytes.{byte_of}
use Rattle.plan.proofs.byte_table.ByteTable.look_up.Goals as goal

pub loop-c-init : goal.loop-c-init
unfolding looked_up
loop-c-init c = refl

pub loop-c-preserved : goal.loop-c-preserved
unfolding looked_up
loop-c-preserved c =
    let x = c.args.x in
    let byte : c.from.result ≡ x / 2 ^ (8 * c.loop-c.c) % 256
    = c.from.ensures ∙ ap (λ b. get_or b c.loop-c.c 0) c.to_le_bytes.ensures ∙ byte_of x c.loop-c.c c.loop-c-test.true in
    rw (byte, add-one c.loop-c.c, c.loop-c.invariant) refl
