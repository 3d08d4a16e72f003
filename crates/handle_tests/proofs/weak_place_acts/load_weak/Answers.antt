use Rattle.std.proofs.Common.{refl}
use Rattle.handle_tests.proofs.Called.{by_weak_load_last, gained_weak}
use Rattle.handle_tests.proofs.weak_place_acts.load_weak.Goals as goal

pub note_weak-requires : goal.note_weak-requires
note_weak-requires g c =
    let found = rw c.in-Ok-Some.field-0-is at c.in-Ok-Some.ensures.loaded in
    gained_weak c.load_weak.ensures.rest (c.load_weak.ensures.room c.requires.room) refl
    (by_weak_load_last c.in-Some.place found) c.requires
