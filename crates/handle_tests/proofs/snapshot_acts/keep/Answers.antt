use Rattle.handle_tests.proofs.Called.{by_moves, gained}
use Rattle.handle_tests.proofs.snapshot_acts.keep.Goals as goal

pub note_strong-requires : goal.note_strong-requires
note_strong-requires c =
    gained c.keep.ensures.rest (c.keep.ensures.room c.requires.plays.room) c.in-Ok.ensures.kept.0
    (by_moves c.in-Ok.ensures.kept.1) c.requires.plays
