-- `station::nishkavel_contained` meets its contract: the answer, as a number. Assumes nothing.
use Rattle.station.proofs.Small.{contains_small}
use Rattle.station.proofs.nishkavel_contained.Goals as goal

pub number_of-requires : goal.number_of-requires
number_of-requires c = contains_small _ _ _ _ _ c.contain_packets.ensures
