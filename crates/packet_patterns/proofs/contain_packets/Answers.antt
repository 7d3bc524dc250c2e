-- `packet_patterns::contain_packets` meets its contract: both packets are read, compared, and the mapping or the witness is put. Assumes nothing.
use Rattle.std.proofs.lemmas.Result.{err_from_is_err_and}
use Rattle.packet_patterns.proofs.ContainCalls.{contains_refused, contains_within, contains_apart}
use Rattle.packet_patterns.proofs.contain_packets.Goals as goal

pub returns-in_err-found : goal.returns-in_err-found
returns-in_err-found c =
    let t = c.in_ok-two in let g = c.contains_right.new in let r = c.from_residual-in_err-found in
    let e = err_from_is_err_and r.result r.ensures.1 in
    rw (e.1, e.2) (contains_refused _ _ t.two t.ensures g.parents g.labels _ c.in_err-found.ensures)

pub returns-in-Contained : goal.returns-in-Contained
returns-in-Contained c =
    let t = c.in_ok-two in let g = c.contains_right.new in let f = c.in_ok-found in
    contains_within _ _ t.two t.ensures g.parents g.labels f.found f.ensures c.put_mapping.result c.in-Contained.is c.put_mapping.ensures

pub returns-in-Apart : goal.returns-in-Apart
returns-in-Apart c =
    let t = c.in_ok-two in let g = c.contains_right.new in let f = c.in_ok-found in let w = c.in-Apart in
    contains_apart _ _ t.two t.ensures g.parents g.labels f.found f.ensures w.nodes w.answer w.is c.put_witness.result c.put_witness.ensures
