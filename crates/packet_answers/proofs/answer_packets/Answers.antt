-- `packet_answers::answer_packets` meets its contract: both packets are read, the answers found and written. Assumes nothing.
use Rattle.packet_answers.proofs.DocumentCalls.{found_few, answers_put}
use Rattle.packet_answers.proofs.answer_packets.Goals as goal

pub put_answers-requires : goal.put_answers-requires
put_answers-requires c = found_few c.in_ok-c.ensures.1 c.in_ok-c.ensures.0.0

pub returns : goal.returns
returns c =
    let a = c.answers.new in
    answers_put c.in_ok-lists.ensures a.list a.work c.in_ok-c.c c.in_ok-c.ensures c.put_answers.result c.put_answers.ensures
