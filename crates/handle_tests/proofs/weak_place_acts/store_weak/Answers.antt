use Rattle.handle_tests.proofs.Called.{by_given_weak, given_weak}
use Rattle.handle_tests.proofs.weak_place_acts.store_weak.Goals as goal

pub returns-clause-plays : goal.returns-clause-plays
returns-clause-plays c =
    given_weak c.store_weak.ensures.rest c.store_weak.ensures.room
    c.in-Some-take_weak.weak.slot
    (by_given_weak c.store_weak.new.seat.view.core c.take_weak.new.player.seat.view.core c.in-Some-take_weak.weak.slot
    c.in-Some.place c.store_weak.ensures.stored.swaps.same) c.in-Some-take_weak.ensures.taken
