use Rattle.std.proofs.Common.{ap, ◌∙◌}
use Rattle.std.specs.Prelude.{Err}
use Rattle.control_word.specs.acquire_retire.Notes.{least_free}
use Rattle.handle_tests.proofs.Called.{by_miss, kept}
use Rattle.control_word.specs.core_events.declared.view.Note.TheVariants as note
use Rattle.control_word.specs.Resting.{noted}
use Rattle.handle_tests.proofs.Looked.{by_word, guarded, let_go_weakly, noted_back}
use Rattle.handle_tests.proofs.snapshot_acts.watch.Goals as goal

pub returns-then-counted-clause-plays : goal.returns-then-counted-clause-plays
returns-then-counted-clause-plays c =
    let snap = c.in-Ok-Held.snapshot in
    let room = c.try_weak_snapshot.ensures.room c.requires.room in
    let found = rw c.in-Ok-Held.field-0-is at c.in-Ok-Held.ensures.found in
    let lists = by_word snap.word (least_free c.args.player.now.seat.view.core) snap.slot
    c.args.player.now.seat.view.core c.try_weak_snapshot.new.seat.view.core found.0
    (guarded (least_free c.args.player.now.seat.view.core) snap.slot
    c.args.player.now.seat.view.core c.try_weak_snapshot.new.seat.view.core _ found.1.core) in
    let_go_weakly c.args.domain.now c.args.player.now.seat c.try_weak_snapshot.new.seat
    c.end_weak.new.seat c.args.player.now.strongs.items c.args.player.now.weaks.items
    snap.slot c.try_weak_snapshot.ensures.rest room c.end_weak.ensures.rest
    (c.end_weak.ensures.room room) snap.word lists c.end_weak.ensures.ended c.requires

pub returns-else-counted-clause-plays : goal.returns-else-counted-clause-plays
returns-else-counted-clause-plays c =
    let snap = c.in-Ok-Held.snapshot in
    let room = c.try_weak_snapshot.ensures.room c.requires.room in
    let found = rw c.in-Ok-Held.field-0-is at c.in-Ok-Held.ensures.found in
    let lists = by_word snap.word (least_free c.args.player.now.seat.view.core) snap.slot
    c.args.player.now.seat.view.core c.try_weak_snapshot.new.seat.view.core found.0
    (guarded (least_free c.args.player.now.seat.view.core) snap.slot
    c.args.player.now.seat.view.core c.try_weak_snapshot.new.seat.view.core _ found.1.core) in
    let_go_weakly c.args.domain.now c.args.player.now.seat c.try_weak_snapshot.new.seat
    c.end_weak.new.seat c.args.player.now.strongs.items c.args.player.now.weaks.items
    snap.slot c.try_weak_snapshot.ensures.rest room c.end_weak.ensures.rest
    (c.end_weak.ensures.room room) snap.word lists c.end_weak.ensures.ended c.requires

pub returns-else-counted-clause-notes : goal.returns-else-counted-clause-notes
returns-else-counted-clause-notes c =
    let snap = c.in-Ok-Held.snapshot in
    let found = rw c.in-Ok-Held.field-0-is at c.in-Ok-Held.ensures.found in
    c.end_weak.ensures.notes
    ∙ ap (noted snap.word note.Idle) ((rw c.in-Ok-Held.field-0-is at c.in-Ok-Held.ensures.notes))
    ∙ noted_back snap.word _ c.args.player.now.seat.view.core found.0

pub returns-in-Err-Moved-clause-plays : goal.returns-in-Err-Moved-clause-plays
returns-in-Err-Moved-clause-plays c =
    kept c.try_weak_snapshot.ensures.rest (c.try_weak_snapshot.ensures.room c.requires.room)
    (by_miss (c.in-Err-Moved.ensures.moved c.in-Err-Moved.field-0-0 c.in-Err-Moved.field-0-1
    (ap (λ e. Err e) c.in-Err-Moved.field-0-is))) c.requires
