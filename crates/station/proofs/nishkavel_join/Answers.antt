-- `station::nishkavel_join` meets its contract: the answer, as a number. Assumes nothing.
use Rattle.station.proofs.Small.{joins_small}
use Rattle.station.proofs.nishkavel_join.Goals as goal

pub number_of-requires : goal.number_of-requires
number_of-requires c = joins_small _ _ _ _ _ c.join_packets.ensures
