-- `station::nishkavel_list_started` meets its contract: the answer, as a number. Assumes nothing.
use Rattle.station.proofs.Small.{started_small}
use Rattle.station.proofs.nishkavel_list_started.Goals as goal

pub number_of-requires : goal.number_of-requires
number_of-requires c = started_small _ _ _ _ _ _ _ _ c.list_started.ensures
