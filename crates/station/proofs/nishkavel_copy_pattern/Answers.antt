-- `station::nishkavel_copy_pattern` meets its contract: the answer, as a number. Assumes nothing.
use Rattle.station.proofs.Small.{copies_small}
use Rattle.station.proofs.nishkavel_copy_pattern.Goals as goal

pub number_of-requires : goal.number_of-requires
number_of-requires c = copies_small _ _ _ _ c.copy_packet.ensures
