-- `station::nishkavel_read_document` meets its contract: the answer, as a number. Assumes nothing.
use Rattle.station.proofs.Small.{reads_small}
use Rattle.station.proofs.nishkavel_read_document.Goals as goal

pub number_of-requires : goal.number_of-requires
number_of-requires c = reads_small _ _ _ _ _ _ c.read_lists.ensures
