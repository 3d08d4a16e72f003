use Rattle.std.proofs.Common.{ap, sym, ◌∙◌}
use Rattle.std.specs.Prelude.{◌++◌, ◌∷◌, [], Err}
use Rattle.std.proofs.Common.{subst}
use Rattle.control_word.specs.plain_state.declared.slot.SlotId.{SlotId}
use Rattle.control_word.specs.acquire_retire.Notes.{least_free}
use Rattle.handle_tests.proofs.Called.{by_miss, kept}
use Rattle.handle_tests.specs.Plays.{Plays}
use Rattle.handle_tests.proofs.Looked.{by_word, took, under_none}
use Rattle.handle_tests.proofs.snapshot_acts.take.Goals as goal

pub note_strong-requires : goal.note_strong-requires
note_strong-requires c =
    let snap = c.in-Ok-Some.snapshot in
    let room = c.try_snapshot.ensures.room c.requires.room in
    let taken = rw c.in-Ok-Some.field-0-is at c.in-Ok-Some.ensures.taken in
    let word = rw c.in-Ok-Some.field-0-is at c.in-Ok-Some.ensures.word in
    let lists = by_word snap.word (least_free c.args.player.now.seat.view.core) snap.slot c.args.player.now.seat.view.core
    c.try_snapshot.new.seat.view.core word
    (took c.args.domain.now c.args.player.now.seat c.try_snapshot.new.seat c.in-Some.place snap.slot
    (least_free c.args.player.now.seat.view.core) taken) in
    subst
    (λ (s : SlotId). Plays c.args.domain.now c.try_snapshot.new.seat
    (c.args.player.now.strongs.items ++ s ∷ []) c.args.player.now.weaks.items)
    (sym (c.of.ensures ∙ c.slot.ensures))
    (under_none c.args.domain.now c.args.player.now.seat c.try_snapshot.new.seat
    c.args.player.now.strongs.items c.args.player.now.weaks.items snap.slot
    c.try_snapshot.ensures.rest room snap.word (c.counted.ensures.0 c.if-counted.true) lists
    c.requires)

pub returns-in-Err-Moved-clause-plays : goal.returns-in-Err-Moved-clause-plays
returns-in-Err-Moved-clause-plays c =
    kept c.try_snapshot.ensures.rest (c.try_snapshot.ensures.room c.requires.room)
    (by_miss (c.in-Err-Moved.ensures.moved c.in-Err-Moved.field-0-0 c.in-Err-Moved.field-0-1
    (ap (λ e. Err e) c.in-Err-Moved.field-0-is))) c.requires
