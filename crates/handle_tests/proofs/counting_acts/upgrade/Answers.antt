use Rattle.handle_tests.proofs.Called.{by_moves, gained}
use Rattle.handle_tests.proofs.counting_acts.upgrade.Goals as goal

pub note_strong-requires : goal.note_strong-requires
note_strong-requires c =
    gained c.upgrade.ensures.rest (c.upgrade.ensures.room c.requires.room) c.in-Ok.ensures.upgraded.0
    (by_moves c.in-Ok.ensures.upgraded.1) c.requires
