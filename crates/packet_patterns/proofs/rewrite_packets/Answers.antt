-- `packet_patterns::rewrite_packets` meets its contract: both packets are read, and what rewriting hands over is written. Assumes nothing.
use Rattle.packet_patterns.proofs.PatternCalls.{rewrite_handed}
use Rattle.packet_patterns.proofs.rewrite_packets.Goals as goal

pub returns-in-Some : goal.returns-in-Some
returns-in-Some c =
    let t = c.in_ok-two in
    rewrite_handed _ _ t.two t.ensures c.in-Some.e c.write_pattern.result (rw c.in-Some.is at c.in_ok-handed.ensures) c.write_pattern.ensures
