use Rattle.std.proofs.Common.{ap, ◌∙◌}
use Rattle.std.specs.Prelude.{Err}
use Rattle.control_word.specs.acquire_retire.Notes.{least_free}
use Rattle.handle_tests.proofs.Called.{by_miss, kept}
use Rattle.handle_tests.proofs.Looked.{by_word, let_go, noted_back_after, took}
use Rattle.handle_tests.proofs.playing.+run_deep.Goals as goal
use Rattle.handle_tests.proofs.playing.+run_deep.Goals.{then-depth-eq1, else-depth-eq1}

pub returns-in-Err-Moved-clause-plays : goal.returns-in-Err-Moved-clause-plays
returns-in-Err-Moved-clause-plays g t c =
    kept c.try_snapshot.ensures.rest (c.try_snapshot.ensures.room c.requires.room)
    (by_miss (c.in-Err-Moved.ensures.moved c.in-Err-Moved.field-0-0 c.in-Err-Moved.field-0-1
    (ap (λ e. Err e) c.in-Err-Moved.field-0-is))) c.requires

pub returns-then-counted-clause-plays : goal.returns-then-counted-clause-plays
returns-then-counted-clause-plays g t c =
    let snap = c.in-Ok-Some.seen in
    let room = c.try_snapshot.ensures.room c.requires.room in
    let taken = rw c.in-Ok-Some.field-0-is at c.in-Ok-Some.ensures.taken in
    let word = rw c.in-Ok-Some.field-0-is at c.in-Ok-Some.ensures.word in
    let lists = by_word snap.word (least_free c.args.player.now.seat.view.core) snap.slot c.args.player.now.seat.view.core
    c.try_snapshot.new.seat.view.core word
    (took c.args.domain.now c.args.player.now.seat c.try_snapshot.new.seat c.in-Some.place snap.slot
    (least_free c.args.player.now.seat.view.core) taken) in
    let_go c.args.domain.now c.args.player.now.seat c.try_snapshot.new.seat c.end.new.seat
    c.args.player.now.strongs.items c.args.player.now.weaks.items snap.slot
    c.try_snapshot.ensures.rest room c.end.ensures.rest (c.end.ensures.room room) snap.word lists
    c.end.ensures.ended c.requires

pub returns-clause-notes : goal.returns-clause-notes
returns-clause-notes g t c =
    let snap = c.in-Ok-Some.seen in
    let word = rw c.in-Ok-Some.field-0-is at c.in-Ok-Some.ensures.word in
    noted_back_after snap.word _ c.args.player.now.seat.view.core
    c.try_snapshot.new.seat.view.core.notes c.if-depth-eq1.player.seat.view.core.notes
    c.end-2.new.seat.view.core.notes word
    (rw c.in-Ok-Some.field-0-is at c.in-Ok-Some.ensures.notes)
    (elim c.if-depth-eq1.branch [
      | then-depth-eq1 w ↦
          ap (λ p. p.seat.view.core.notes) w.player-is ∙ w.run_under-first.ensures.notes
      | else-depth-eq1 w ↦
          ap (λ p. p.seat.view.core.notes) w.player-is ∙ w.run_deep-first.ensures.notes
    ]) c.end-2.ensures.notes
