-- `station::nishkavel_started` meets its contract: the answer, as a number. Assumes nothing.
use Rattle.station.proofs.Small.{starts_small}
use Rattle.station.proofs.nishkavel_started.Goals as goal

pub number_of-requires : goal.number_of-requires
number_of-requires c = starts_small _ _ _ _ _ _ c.start_packets.ensures
