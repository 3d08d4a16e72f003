use Rattle.std.proofs.Common.{refl}
use Rattle.handle_tests.proofs.Called.{by_load_last, gained}
use Rattle.handle_tests.proofs.place_acts.load.Goals as goal

pub note_strong-requires : goal.note_strong-requires
note_strong-requires g c =
    let found = rw c.in-Ok-Some.field-0-is at c.in-Ok-Some.ensures.loaded in
    gained c.load.ensures.rest (c.load.ensures.room c.requires.room) refl
    (by_load_last c.in-Some.place found) c.requires
