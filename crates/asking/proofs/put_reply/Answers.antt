-- `asking::put_reply` meets its contract: each packet that is refused, bytes past them, and then the answers. Assumes nothing.
use Rattle.tables.proofs.Kit.{arith, ◌≡◌, sym, ◌∙◌, eqb-true, eqb-false}
use Rattle.asking.specs.Parts.{next_at, view_part, query_part}
use Rattle.asking.proofs.Parts.{Parted, packet_after, rest_after, parted}
use Rattle.asking.proofs.Replying.{document_refused, lists_right, view_refused, query_refused, extra_refused, all_answered}
use Rattle.asking.proofs.put_reply.Goals as goal
use Rattle.asking.proofs.put_reply.Goals.{After-split_packet-2, After-split_packet-3}

-- the second packet is the input's
view_is : (x : After-split_packet-2) → x.split_packet-2.result.0.now ≡ view_part x.args.input.now
view_is x = packet_after _ (next_at x.args.input.now 0) x.split_packet.ensures.rest x.split_packet-2.ensures.packet

-- so is the third
query_is : (x : After-split_packet-3) → x.split_packet-3.result.0.now ≡ query_part x.args.input.now
query_is x =
    let o = next_at x.args.input.now 0 in
    packet_after _ (next_at x.args.input.now o) (rest_after _ o x.split_packet.ensures.rest x.split_packet-2.ensures.rest) x.split_packet-3.ensures.packet

-- and the rest is what follows them
parts : (x : After-split_packet-3) → Parted x.args.input.now x.split_packet.result.0.now x.split_packet-2.result.0.now x.split_packet-3.result.0.now
    x.split_packet-3.result.1.now
parts x =
    parted x.split_packet.ensures.packet x.split_packet.ensures.rest x.split_packet-2.ensures.packet x.split_packet-2.ensures.rest
    x.split_packet-3.ensures.packet x.split_packet-3.ensures.rest

pub returns-in-Err : goal.returns-in-Err
returns-in-Err c = document_refused _ c.split_packet.ensures.packet c.in-Err.r c.in-Err.ensures c.refused.ensures

pub returns-in-Err-read_pattern : goal.returns-in-Err-read_pattern
returns-in-Err-read_pattern c =
    view_refused _ c.split_packet.ensures.packet c.in-Ok.ensures (view_is (goal.at.returns-in-Err-read_pattern c).After-split_packet-2)
    c.in-Err-read_pattern.r c.in-Err-read_pattern.ensures c.refused-in-Err-read_pattern.ensures

pub returns-in-Err-read_pattern-2 : goal.returns-in-Err-read_pattern-2
returns-in-Err-read_pattern-2 c =
    let at = goal.at.returns-in-Err-read_pattern-2 c in
    query_refused _ c.split_packet.ensures.packet c.in-Ok.ensures (view_is at.After-split_packet-2) c.in-Ok-read_pattern.ensures
    (query_is at.After-split_packet-3) c.in-Err-read_pattern-2.r c.in-Err-read_pattern-2.ensures c.refused-in-Err-read_pattern-2.ensures

pub returns-then-not-is_empty : goal.returns-then-not-is_empty
returns-then-not-is_empty c =
    extra_refused (parts (goal.at.returns-then-not-is_empty c).After-split_packet-3) c.in-Ok.ensures c.in-Ok-read_pattern.ensures
    c.in-Ok-read_pattern-2.ensures (omega (arith, eqb-false _ _ (sym c.is_empty.ensures ∙ c.if-not-is_empty.true))) c.refused-then-not-is_empty.ensures

-- the document that was read obeys the rules
pub invariant_of-put_answers-3 : goal.invariant_of-put_answers-3
invariant_of-put_answers-3 c = record { right = ∣ lists_right _ c.split_packet.ensures.packet c.in-Ok.ensures ∣₁ }

pub returns : goal.returns
returns c =
    all_answered (parts (goal.at.returns c).After-split_packet-3) c.in-Ok.ensures c.in-Ok-read_pattern.ensures c.in-Ok-read_pattern-2.ensures
    (eqb-true _ _ (sym c.is_empty.ensures ∙ c.if-not-is_empty.false)) c.put_answers.ensures
