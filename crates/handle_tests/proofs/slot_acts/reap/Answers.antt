use Rattle.handle_tests.proofs.Called.{by_rest, kept}
use Rattle.handle_tests.proofs.slot_acts.reap.Goals as goal

pub returns-in-Some-clause-plays : goal.returns-in-Some-clause-plays
returns-in-Some-clause-plays c =
    kept c.reap.ensures.rest c.reap.ensures.room
    (by_rest c.reap.new.seat.view.core c.args.player.now.seat.view.core c.in-Some.ensures.reaps.same) c.requires
