use Rattle.std.proofs.Common.{ap, ◌∙◌}
use Rattle.control_word.specs.core_events.declared.view.Note.TheVariants as note
use Rattle.control_word.specs.acquire_retire.Notes.{least_free}
use Rattle.control_word.specs.Resting.{noted}
use Rattle.handle_tests.proofs.Looked.{by_word, let_go, noted_back, took_last}
use Rattle.handle_tests.proofs.snapshot_acts.look_on.Goals as goal

pub returns-in-Ok-Some-clause-plays : goal.returns-in-Ok-Some-clause-plays
returns-in-Ok-Some-clause-plays g c =
    let snap = c.in-Ok-Some.snapshot in
    let room = c.snapshot.ensures.room c.requires.room in
    let taken = rw c.in-Ok-Some.field-0-is at c.in-Ok-Some.ensures.taken in
    let word = rw c.in-Ok-Some.field-0-is at c.in-Ok-Some.ensures.word in
    let lists = by_word snap.word (least_free c.args.player.now.seat.view.core) snap.slot c.args.player.now.seat.view.core
    c.snapshot.new.seat.view.core word
    (took_last c.args.domain.now c.args.player.now.seat c.snapshot.new.seat c.in-Some.place snap.slot
    (least_free c.args.player.now.seat.view.core) _ taken) in
    let_go c.args.domain.now c.args.player.now.seat c.snapshot.new.seat c.end.new.seat
    c.args.player.now.strongs.items c.args.player.now.weaks.items snap.slot
    c.snapshot.ensures.rest room c.end.ensures.rest (c.end.ensures.room room) snap.word lists
    c.end.ensures.ended c.requires

pub returns-in-Ok-Some-clause-notes : goal.returns-in-Ok-Some-clause-notes
returns-in-Ok-Some-clause-notes g c =
    let snap = c.in-Ok-Some.snapshot in
    let word = rw c.in-Ok-Some.field-0-is at c.in-Ok-Some.ensures.word in
    c.end.ensures.notes
    ∙ ap (noted snap.word note.Idle) (rw c.in-Ok-Some.field-0-is at c.in-Ok-Some.ensures.notes)
    ∙ noted_back snap.word _ c.args.player.now.seat.view.core word
