use Rattle.std.proofs.Common.{refl}
use Rattle.handle_tests.proofs.Called.{by_core, gained}
use Rattle.handle_tests.proofs.slot_acts.make.Goals as goal

pub note_strong-requires : goal.note_strong-requires
note_strong-requires c =
    gained c.make.ensures.rest (c.make.ensures.room c.requires.room) refl
    (by_core c.in-Ok.ensures.made.core) c.requires
