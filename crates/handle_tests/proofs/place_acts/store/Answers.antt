use Rattle.handle_tests.proofs.Called.{by_given, given}
use Rattle.handle_tests.proofs.place_acts.store.Goals as goal

pub returns-clause-plays : goal.returns-clause-plays
returns-clause-plays c =
    given c.store.ensures.rest c.store.ensures.room
    c.in-Some-take_strong.strong.slot
    (by_given c.store.new.seat.view.core c.take_strong.new.player.seat.view.core c.in-Some-take_strong.strong.slot
    c.in-Some.place c.store.ensures.stored.swaps.same) c.in-Some-take_strong.ensures.taken
