-- `asking::split_packet` meets its contract: the input ends first, or the packet does. Assumes nothing.
use Rattle.tables.proofs.Kit.{arith, ◌∙◌, length}
use Rattle.asking.proofs.Parts.{split_lem}
use Rattle.asking.proofs.split_packet.Goals as goal

pub returns-then-input-lt3 : goal.returns-then-input-lt3
returns-then-input-lt3 c =
    let bs = c.args.input.now in
    let s = split_lem bs (length bs) (omega arith) in
    record { packet = c.split_at.ensures.front ∙ s.0; rest = c.split_at.ensures.back ∙ s.1 }

pub returns : goal.returns
returns c =
    let bs = c.args.input.now in
    let s = split_lem bs c.min.result (omega arith) in
    record { packet = c.split_at-2.ensures.front ∙ s.0; rest = c.split_at-2.ensures.back ∙ s.1 }
