use Rattle.handle_tests.proofs.Called.{by_moves, gained_weak}
use Rattle.handle_tests.proofs.counting_acts.weaken.Goals as goal

pub note_weak-requires : goal.note_weak-requires
note_weak-requires c =
    gained_weak c.weaken.ensures.rest (c.weaken.ensures.room c.requires.room) c.in-Ok.ensures.gained.0
    (by_moves c.in-Ok.ensures.gained.1) c.requires
