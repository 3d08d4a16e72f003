use Rattle.handle_tests.proofs.Called.{by_drop, given}
use Rattle.handle_tests.proofs.counting_acts.give_up.Goals as goal

pub returns-clause-plays : goal.returns-clause-plays
returns-clause-plays c =
    given c.drop_strong.ensures.rest (c.drop_strong.ensures.room c.in-Some.ensures.taken.room)
    c.in-Some.strong.slot (by_drop c.drop_strong.ensures.dropped) c.in-Some.ensures.taken
