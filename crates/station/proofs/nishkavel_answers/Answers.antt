-- `station::nishkavel_answers` meets its contract: the answer, as a number. Assumes nothing.
use Rattle.station.proofs.Small.{answers_small}
use Rattle.station.proofs.nishkavel_answers.Goals as goal

pub number_of-requires : goal.number_of-requires
number_of-requires c = answers_small _ _ _ _ _ c.answer_packets.ensures
