use Rattle.std.proofs.Common.{refl, sym, ◌∙◌}
use Rattle.text_reading.proofs.HandOver.{hand_core, hand_knows, hand_reads, held_strongly}
use Rattle.text_reading.proofs.going_on.go_on.Goals as goal

pub protect_part-part-requires-clause-held : goal.protect_part-part-requires-clause-held
protect_part-part-requires-clause-held g c =
    held_strongly c.args.seat.now.view.core c.args.last.word c.args.last.slot c.requires.held

pub returns-clause-reads : goal.returns-clause-reads
returns-clause-reads g c =
    hand_reads g.P.Part.seen c.args.last.word c.args.last.slot c.in-Some.word
    c.protect_part-part.result c.args.seat.now c.protect_part-part.new.seat c.let_go.new.seat
    c.protect_part-part.ensures.four c.requires.held (sym c.free_note.ensures ∙ c.in-Some.is)
    c.protect_part-part.ensures.core c.let_go.ensures.core c.let_go.ensures.objects
    c.let_go.ensures.client c.protect_part-part.ensures.reads

pub returns-clause-word : goal.returns-clause-word
returns-clause-word g c = (
  c.in-Some.word,
  refl,
  sym c.free_note.ensures ∙ c.in-Some.is,
  hand_core g.P.Part.seen c.args.last.word c.args.last.slot c.in-Some.word
      c.protect_part-part.result c.args.seat.now c.protect_part-part.new.seat c.let_go.new.seat
      c.protect_part-part.ensures.four c.requires.held (sym c.free_note.ensures ∙ c.in-Some.is)
      c.protect_part-part.ensures.core c.let_go.ensures.core c.let_go.ensures.objects,
)

pub returns-clause-objects : goal.returns-clause-objects
returns-clause-objects g c =
    hand_knows g.P.Part.seen c.args.last.word c.args.last.slot c.in-Some.word
    c.protect_part-part.result c.args.seat.now c.protect_part-part.new.seat c.let_go.new.seat
    c.protect_part-part.ensures.four c.requires.held (sym c.free_note.ensures ∙ c.in-Some.is)
    c.protect_part-part.ensures.core c.let_go.ensures.core c.let_go.ensures.objects
    c.protect_part-part.ensures.objects
