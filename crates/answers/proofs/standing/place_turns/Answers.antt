-- The invariant is the state of the second pass and the answers so far, for every pattern that the plan is of. Assumes nothing.
use Rattle.tables.proofs.Kit.{◌<◌, length, arith}
use Rattle.marking.specs.Entries.{Marked}
use Rattle.answers.proofs.AnswerList.{down_ready, listed_start, listed_noted, noted_few}
use Rattle.answers.proofs.standing.place_turns.Goals as goal

pub loop-i-init : goal.loop-i-init
loop-i-init c = (
  omega arith,
  λ A k o r. (down_ready A _ _ _ r, listed_start A _ (Marked c.args.work.now) k.sets_of.valid _),
)

pub loop-i-preserved : goal.loop-i-preserved
loop-i-preserved c =
    let n = c.note-c.ensures in
    let w = noted_few _ _ _ _ _ _ _ n in
    let l : c.loop-i.c < length c.args.list.now = omega (arith, c.requires.room.0) in (
      omega (arith, w.0),
      λ A k o r.
          let u = c.loop-i.invariant.1 A k o r in
          let t = c.place_turn-whole.ensures A c.args.work.now k u.0 in
          (t.0, listed_noted A _ (Marked c.args.work.now) k.sets_of.valid _ _ c.loop-i.i c.loop-i.c _ _ _ _ o t.1 n l u.1),
    )
