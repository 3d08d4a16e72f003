use Rattle.std.proofs.Common.{ap, ◌∙◌, sym, List}
use Rattle.std.specs.Prelude.{slice_index_or, slice_set}
use Rattle.protected_loads.specs.core_events.declared.act.Act.TheVariants as act
use Rattle.protected_loads.specs.core_events.declared.view.Note.{Note}
use Rattle.protected_loads.specs.core_events.declared.view.Note.TheVariants as note
use Rattle.lone_heap.proofs.Snapping.{end_ready, end_shown, released_notes}
use Rattle.lone_heap.proofs.Trailing.{step_goes}
use Rattle.lone_heap.proofs.snapshots.end.Goals as goal

pub returns-clause-ends : goal.returns-clause-ends
returns-clause-ends g c =
    end_shown c.args.domain.now c.args.slot c.word_of-word.result c.args.seat.now c.release.new.seat
    c.requires.ready c.release.result c.release.ensures c.word_of-word.ensures.some
    c.word_of-word.ensures.few
    (ap (λ (ns : List Note). slice_index_or ns c.word_of-word.result note.Idle) c.requires.noted
    ∙ c.word_of-word.ensures.noted)

pub returns-clause-ready : goal.returns-clause-ready
returns-clause-ready g c =
    let noted = ap (λ (ns : List Note). slice_index_or ns c.word_of-word.result note.Idle)
    c.requires.noted ∙ c.word_of-word.ensures.noted in
    end_ready c.args.domain.now c.args.slot c.word_of-word.result c.args.seat.now c.release.new.seat
    c.requires.ready c.release.result c.release.ensures c.word_of-word.ensures.some
    c.word_of-word.ensures.few noted c.set.new.self
    (released_notes c.args.domain.now c.args.slot c.word_of-word.result c.args.seat.now
    c.release.new.seat c.requires.ready c.release.result c.release.ensures
    c.word_of-word.ensures.some c.word_of-word.ensures.few noted
    ∙ ap (λ (ns : List Note). slice_set ns c.word_of-word.result note.Idle) c.requires.noted
    ∙ sym c.set.ensures)

pub returns-clause-trail : goal.returns-clause-trail
returns-clause-trail g c =
    step_goes c.args.domain.now c.args.seat.now c.release.new.seat
    (act.Release c.word_of-word.result) c.release.result c.release.ensures
