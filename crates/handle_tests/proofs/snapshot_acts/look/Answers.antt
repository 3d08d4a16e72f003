use Rattle.std.proofs.Common.{ap}
use Rattle.std.specs.Prelude.{Err}
use Rattle.control_word.specs.acquire_retire.Notes.{least_free}
use Rattle.handle_tests.proofs.Called.{by_miss, kept}
use Rattle.handle_tests.proofs.Looked.{by_word, let_go, took}
use Rattle.handle_tests.proofs.snapshot_acts.look.Goals as goal

pub returns-in-Ok-Some-clause-plays : goal.returns-in-Ok-Some-clause-plays
returns-in-Ok-Some-clause-plays c =
    let snap = c.in-Ok-Some.snapshot in
    let room = c.try_snapshot.ensures.room c.requires.room in
    let taken = rw c.in-Ok-Some.field-0-is at c.in-Ok-Some.ensures.taken in
    let word = rw c.in-Ok-Some.field-0-is at c.in-Ok-Some.ensures.word in
    let lists = by_word snap.word (least_free c.args.player.now.seat.view.core) snap.slot c.args.player.now.seat.view.core
    c.try_snapshot.new.seat.view.core word
    (took c.args.domain.now c.args.player.now.seat c.try_snapshot.new.seat c.in-Some.place snap.slot
    (least_free c.args.player.now.seat.view.core) taken) in
    let_go c.args.domain.now c.args.player.now.seat c.try_snapshot.new.seat c.end.new.seat
    c.args.player.now.strongs.items c.args.player.now.weaks.items snap.slot
    c.try_snapshot.ensures.rest room c.end.ensures.rest (c.end.ensures.room room) snap.word lists
    c.end.ensures.ended c.requires

pub returns-in-Err-Moved-clause-plays : goal.returns-in-Err-Moved-clause-plays
returns-in-Err-Moved-clause-plays c =
    kept c.try_snapshot.ensures.rest (c.try_snapshot.ensures.room c.requires.room)
    (by_miss (c.in-Err-Moved.ensures.moved c.in-Err-Moved.field-0-0 c.in-Err-Moved.field-0-1
    (ap (λ e. Err e) c.in-Err-Moved.field-0-is))) c.requires
