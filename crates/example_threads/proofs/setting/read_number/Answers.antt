use Rattle.std.proofs.Common.{Some, ap, sym, ◌∙◌}
use Rattle.cdrc.specs.plain_state.declared.slot.Kind.TheVariants.{Strong}
use Rattle.cdrc.specs.core_events.declared.view.Note.TheVariants as note
use Rattle.cdrc.proofs.Below.control_word_NotedBack.{none_again}
use Rattle.example_threads.proofs.Found.{notes_found}
use Rattle.example_threads.proofs.setting.read_number.Goals as goal

pub returns : goal.returns
returns c =
    let seen = c.in_ok-seen.seen in
    let found = sym c.ok.ensures.value ∙ (c.in_ok-ok.was {u = tt}
    ∙ ap (λ o. Some o) (c.in_ok-seen.was {u = tt})) in
    let took = c.read-number.ensures.notes
    ∙ notes_found c.read_value.result seen c.args.seat.now.view.core.notes
    c.read_value.new.seat.view.core.notes found c.read_value.ensures.notes in record {
      rest = c.end.ensures.rest;
      none = none_again seen.word (note.Valid Strong seen.slot) c.args.seat.now.view.core
          c.read-number.new.seat.view.core c.end.new.seat.view.core c.requires.free.none took
          c.end.ensures.notes;
      room = c.end.ensures.room (c.read-number.ensures.room c.read_value.ensures.room);
    }
