use Rattle.handle_tests.proofs.Called.{by_given, given}
use Rattle.handle_tests.proofs.place_acts.put_where.Goals as goal

pub returns-in-Ok-clause-plays : goal.returns-in-Ok-clause-plays
returns-in-Ok-clause-plays c =
    given c.try_replace.ensures.rest c.try_replace.ensures.room
    c.args.strong.slot
    (by_given c.try_replace.new.seat.view.core c.args.player.now.seat.view.core c.args.strong.slot c.args.place
    c.in-Ok.ensures.replaced.0.same) c.requires.plays
