-- `station::nishkavel_rewrite` meets its contract: the answer, as a number. Assumes nothing.
use Rattle.station.proofs.Small.{rewrites_small}
use Rattle.station.proofs.nishkavel_rewrite.Goals as goal

pub number_of-requires : goal.number_of-requires
number_of-requires c = rewrites_small _ _ _ _ _ c.rewrite_packets.ensures
