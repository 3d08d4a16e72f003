use Rattle.handle_tests.proofs.Called.{by_moves, gained}
use Rattle.handle_tests.proofs.counting_acts.copy.Goals as goal

pub note_strong-requires : goal.note_strong-requires
note_strong-requires c =
    gained c.copy_strong.ensures.rest (c.copy_strong.ensures.room c.requires.room) c.in-Ok.ensures.copied.0
    (by_moves c.in-Ok.ensures.copied.1) c.requires
