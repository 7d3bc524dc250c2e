-- `packet_answers::start_packets` meets its contract: both packets and the start nodes are read, the answers found and written. Assumes nothing.
use Rattle.tables.proofs.Kit.{◌/◌, ◌≡◌, inl, inr, ⊎_elim, arith, length, replicate, length-take, length-take-le}
use Rattle.halves.specs.Bytes.{unpacked}
use Rattle.packet_answers.proofs.{ReadingCalls.both_few, DocumentCalls.found_few, StartCalls.{starts_are, starts_none, starts_refused, starts_put}}
use Rattle.std.proofs.lemmas.Result.{err_from_is_err_and}
use Rattle.packet_answers.proofs.start_packets.Goals.{After-get_halves}
use Rattle.packet_answers.proofs.start_packets.Goals as goal

pub returns-then-starts-ne0 : goal.returns-then-starts-ne0
returns-then-starts-ne0 c =
    starts_none c.in_ok-lists.ensures c.args.starts.now c.after_rules.result (⊎_elim inl (λ t. inr t.1) c.then-starts-ne0.either) c.after_rules.ensures

-- past the tests of the start bytes there are no more start nodes than nodes
pub slice_bounds-from-end : goal.slice_bounds-from-end
slice_bounds-from-end c = omega (arith, both_few c.in_ok-lists.ensures)

pub slice_bounds-start_nodes-end : goal.slice_bounds-start_nodes-end
slice_bounds-start_nodes-end c = simp length-take (omega (arith, both_few c.in_ok-lists.ensures))

-- the start nodes are what the start bytes hold
nodes : (c : After-get_halves) → c.get_halves.new.list ≡ unpacked c.args.starts.now
nodes c =
    let ss = c.args.starts.now in
    starts_are ss _ c.get_halves.ensures (length-take-le (length ss / 2) (replicate 2048 0) (omega (arith, both_few c.in_ok-lists.ensures)))

pub returns-in_err-c : goal.returns-in_err-c
returns-in_err-c c =
    let s = c.started.new in let p = err_from_is_err_and c.from_residual-in_err-c.result c.from_residual-in_err-c.ensures.1 in
    rw (p.1, p.2)
    (starts_refused c.in_ok-lists.ensures c.args.starts.now _ s.list s.work (nodes (goal.at.returns-in_err-c c).After-get_halves) (omega arith)
    c.args.room.now c.in_err-c.field-0.0 c.in_err-c.ensures)

pub put_answers-requires : goal.put_answers-requires
put_answers-requires c = found_few c.in_ok-c.ensures.1 c.in_ok-c.ensures.0.0

pub returns : goal.returns
returns c =
    let s = c.started.new in
    starts_put c.in_ok-lists.ensures c.args.starts.now _ s.list s.work (nodes (goal.at.returns c).After-get_halves) (omega arith) c.in_ok-c.c
    c.in_ok-c.ensures c.put_answers.result c.put_answers.ensures
