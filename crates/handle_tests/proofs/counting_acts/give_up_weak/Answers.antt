use Rattle.handle_tests.proofs.Called.{by_weak_drop, given_weak}
use Rattle.handle_tests.proofs.counting_acts.give_up_weak.Goals as goal

pub returns-clause-plays : goal.returns-clause-plays
returns-clause-plays c =
    given_weak c.drop_weak.ensures.rest (c.drop_weak.ensures.room c.in-Some.ensures.taken.room)
    c.in-Some.weak.slot (by_weak_drop c.drop_weak.ensures.dropped) c.in-Some.ensures.taken
