-- `station::nishkavel_list_answers` meets its contract: the answer, as a number. Assumes nothing.
use Rattle.station.proofs.Small.{list_small}
use Rattle.station.proofs.nishkavel_list_answers.Goals as goal

pub number_of-requires : goal.number_of-requires
number_of-requires c = list_small _ _ _ _ _ _ _ c.list_answers.ensures
