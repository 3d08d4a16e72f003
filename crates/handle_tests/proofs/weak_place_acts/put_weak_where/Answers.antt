use Rattle.handle_tests.proofs.Called.{by_given_weak, given_weak}
use Rattle.handle_tests.proofs.weak_place_acts.put_weak_where.Goals as goal

pub returns-in-Ok-clause-plays : goal.returns-in-Ok-clause-plays
returns-in-Ok-clause-plays c =
    given_weak c.try_replace_weak.ensures.rest c.try_replace_weak.ensures.room
    c.args.weak.slot
    (by_given_weak c.try_replace_weak.new.seat.view.core c.args.player.now.seat.view.core c.args.weak.slot c.args.place
    c.in-Ok.ensures.replaced.0.same) c.requires.plays
