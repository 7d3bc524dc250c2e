-- `packets::read_nodes` meets its contract: the header's checks, the room, and then the two lists. Assumes nothing.
use Rattle.tables.proofs.Kit.{◌+◌, ◌*◌, ap, ◌∙◌, ◌++◌, arith, length, drop, length-take-le, Ok}
use Rattle.tables.specs.Column.{column}
use Rattle.tables.proofs.Outcomes.{passes_both}
use Rattle.halves.specs.Bytes.{half}
use Rattle.packets.specs.{Header.head_checks, DocumentPacket.{packet_document, lists_check}}
use Rattle.packets.proofs.Reading.{Headed}
use Rattle.packets.proofs.read_nodes.Goals as goal

pub returns : goal.returns
unfolding packet_document
returns c =
    let bs = c.args.s.now in
    let n = c.in_ok-n.n in let p = c.args.parents.now in let l = c.args.labels.now in
    let r : Headed bs 0 2048 (Ok n) = c.in_ok-n.ensures in (
      passes_both (head_checks bs 0 2048) (lists_check bs (length p) (length l)) r.0 ((omega (arith, r.1), omega (arith, r.1)), tt),
      (
        r.1,
        ap (λ x. x ++ drop n p) (c.get_halves.ensures ∙ ap (column (λ i. half bs (3 + 4 * i))) (length-take-le n p (omega arith) ∙ r.1)),
        ap (λ x. x ++ drop n l) (c.get_halves-2.ensures ∙ ap (column (λ i. half bs (5 + 4 * i))) (length-take-le n l (omega arith) ∙ r.1)),
      ),
    )
