use Rattle.std.proofs.Common.{ap, refl}
use Rattle.std.specs.Prelude.{Err}
use Rattle.handle_tests.proofs.Called.{by_weak_load, by_miss, gained_weak, kept}
use Rattle.handle_tests.proofs.weak_place_acts.try_load_weak.Goals as goal

pub note_weak-requires : goal.note_weak-requires
note_weak-requires c =
    let found = rw c.in-Ok-Some.field-0-is at c.in-Ok-Some.ensures.loaded in
    gained_weak c.try_load_weak.ensures.rest (c.try_load_weak.ensures.room c.requires.room) refl
    (by_weak_load c.in-Some.place found) c.requires

pub returns-in-Err-Moved-clause-plays : goal.returns-in-Err-Moved-clause-plays
returns-in-Err-Moved-clause-plays c =
    kept c.try_load_weak.ensures.rest (c.try_load_weak.ensures.room c.requires.room)
    (by_miss (c.in-Err-Moved.ensures.moved c.in-Err-Moved.field-0-0 c.in-Err-Moved.field-0-1
    (ap (λ e. Err e) c.in-Err-Moved.field-0-is))) c.requires
