use Rattle.std.proofs.Common.{ap, sym, ◌∙◌, true≢false}
use Rattle.std.specs.Prelude.{Err}
use Rattle.control_word.specs.acquire_retire.Notes.{least_free}
use Rattle.control_word.specs.core_events.declared.view.Note.TheVariants as note
use Rattle.control_word.specs.Resting.{noted}
use Rattle.handle_tests.proofs.Called.{by_miss, kept}
use Rattle.handle_tests.proofs.Looked.{by_word, guarded, let_go_weakly, noted_back, under_word}
use Rattle.handle_tests.proofs.snapshot_acts.outlive.Goals as goal

pub returns-then-weak_counted-clause-plays : goal.returns-then-weak_counted-clause-plays
returns-then-weak_counted-clause-plays c =
    let snap = c.in-Ok-Held.snapshot in
    let room = c.try_weak_snapshot.ensures.room c.requires.room in
    let found = rw c.in-Ok-Held.field-0-is at c.in-Ok-Held.ensures.found in
    let lists = by_word snap.word (least_free c.args.player.now.seat.view.core) snap.slot
    c.args.player.now.seat.view.core c.try_weak_snapshot.new.seat.view.core found.0
    (guarded (least_free c.args.player.now.seat.view.core) snap.slot
    c.args.player.now.seat.view.core c.try_weak_snapshot.new.seat.view.core _ found.1.core) in
    let_go_weakly c.args.domain.now c.args.player.now.seat c.try_weak_snapshot.new.seat
    c.end_weak.new.seat c.args.player.now.strongs.items c.args.player.now.weaks.items
    snap.slot c.try_weak_snapshot.ensures.rest room c.end_weak.ensures.rest
    (c.end_weak.ensures.room room) snap.word lists c.end_weak.ensures.ended c.requires

pub drop_under-waiting-requires : goal.drop_under-waiting-requires
drop_under-waiting-requires c =
    let snap = c.in-Ok-Held.snapshot in
    let room = c.try_weak_snapshot.ensures.room c.requires.room in
    let found = rw c.in-Ok-Held.field-0-is at c.in-Ok-Held.ensures.found in
    let lists = by_word snap.word (least_free c.args.player.now.seat.view.core) snap.slot
    c.args.player.now.seat.view.core c.try_weak_snapshot.new.seat.view.core found.0
    (guarded (least_free c.args.player.now.seat.view.core) snap.slot
    c.args.player.now.seat.view.core c.try_weak_snapshot.new.seat.view.core _ found.1.core) in
    under_word c.args.domain.now c.args.player.now.seat c.try_weak_snapshot.new.seat
    c.args.player.now.strongs.items c.args.player.now.weaks.items snap.slot
    c.try_weak_snapshot.ensures.rest room snap.word
    (λ none. true≢false (sym (c.weak_counted.ensures.1 none) ∙ c.if-weak_counted.false)) lists
    c.requires

pub returns-else-weak_counted-clause-notes : goal.returns-else-weak_counted-clause-notes
returns-else-weak_counted-clause-notes c =
    let snap = c.in-Ok-Held.snapshot in
    let found = rw c.in-Ok-Held.field-0-is at c.in-Ok-Held.ensures.found in
    c.end_weak-in-Ok-Held.ensures.notes
    ∙ ap (noted snap.word note.Idle)
    (c.drop_under-waiting.ensures.notes ∙ (rw c.in-Ok-Held.field-0-is at c.in-Ok-Held.ensures.notes))
    ∙ noted_back snap.word _ c.args.player.now.seat.view.core found.0

pub returns-in-Err-Moved-clause-plays : goal.returns-in-Err-Moved-clause-plays
returns-in-Err-Moved-clause-plays c =
    kept c.try_weak_snapshot.ensures.rest (c.try_weak_snapshot.ensures.room c.requires.room)
    (by_miss (c.in-Err-Moved.ensures.moved c.in-Err-Moved.field-0-0 c.in-Err-Moved.field-0-1
    (ap (λ e. Err e) c.in-Err-Moved.field-0-is))) c.requires
