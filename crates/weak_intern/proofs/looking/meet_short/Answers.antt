use Rattle.std.proofs.Common.{ap, arith, subst, ◌∙◌}
use Rattle.std.specs.Prelude.{Err}
use Rattle.record_making.specs.directory_calls.Directories.{area_of}
use Rattle.record_making.proofs.Below.directory_calls_Parts.{place_of}
use Rattle.record_making.proofs.Below.directory_law_Bytes.{text_is}
use Rattle.record_making.specs.Texts.{text_of}
use Rattle.weak_intern.specs.Sighting.{Raises, added}
use Rattle.weak_intern.proofs.Meeting.{ended_met, record_met}
use Rattle.weak_intern.proofs.Moves.{raised_adds, raised_makes, spent_still}
use Rattle.weak_intern.proofs.looking.meet_short.Goals as goal

pub returns-in-Ok-clause-meets : goal.returns-in-Ok-clause-meets
returns-in-Ok-clause-meets g c =
    record_met c.args.domain.now
    (place_of g.P.Part.seen g.P.Part.with_seen g.P.Part.reads g.P.Part.puts_back
    g.P.Part.puts_over)
    (area_of (g.P.Part.part c.args.domain.now.protocol)) c.args.sighted.slot (text_of
    c.args.sought.now.text.now)
    c.args.sought.now.head c.requires.sought.begins c.args.seat.now c.raise.new.seat
    c.in-Ok.strong c.in-Ok.ensures.same c.in-Ok.ensures.known c.requires.head
    (text_is c.args.sought.now.text.now (text_of c.args.sought.now.text.now) c.requires.sought.text)
    (omega (arith, c.requires.sought.size, c.requires.short))
    c.in-Ok.ensures.live c.in-Ok.ensures.begins c.in-Ok.ensures.learns.part.seen

pub returns-in-Ok-clause-raises : goal.returns-in-Ok-clause-raises
returns-in-Ok-clause-raises g c =
    (c.in-Ok.ensures.same, c.in-Ok.ensures.raises)

pub returns-in-Ok-clause-leaves : goal.returns-in-Ok-clause-leaves
returns-in-Ok-clause-leaves g c = c.in-Ok.ensures.leaves

pub returns-in-Err-Ended-clause-meets : goal.returns-in-Err-Ended-clause-meets
returns-in-Err-Ended-clause-meets g c =
    ended_met c.args.domain.now
    (place_of g.P.Part.seen g.P.Part.with_seen g.P.Part.reads g.P.Part.puts_back
    g.P.Part.puts_over)
    (area_of (g.P.Part.part c.args.domain.now.protocol)) c.args.sighted.slot (text_of
    c.args.sought.now.text.now)
    c.args.sought.now.head c.requires.sought.begins c.args.seat.now c.raise.new.seat
    c.in-Err-Ended.ensures.learns
    (c.raise.ensures.ended (c.in-Err-Ended.is ∙ ap Err c.in-Err-Ended.field-0-is))

pub returns-in-Err-Ended-clause-raises : goal.returns-in-Err-Ended-clause-raises
returns-in-Err-Ended-clause-raises g c =
    (subst (λ r. Raises c.args.sighted (added r) c.args.seat.now.view.core
    c.raise.new.seat.view.core) (c.in-Err-Ended.is ∙ ap Err c.in-Err-Ended.field-0-is)
    c.raise.ensures.raises)

pub returns-in-Err-Ended-clause-leaves : goal.returns-in-Err-Ended-clause-leaves
returns-in-Err-Ended-clause-leaves g c = c.in-Err-Ended.ensures.leaves

pub returns-in-Err-Spent-clause-spent : goal.returns-in-Err-Spent-clause-spent
returns-in-Err-Spent-clause-spent g c =
    λ is. spent_still c.args.sighted c.args.seat.now c.raise.new.seat
    (subst (λ r. Raises c.args.sighted (added r) c.args.seat.now.view.core
    c.raise.new.seat.view.core) (c.in-Err-Spent.is ∙ ap Err c.in-Err-Spent.field-0-is)
    c.raise.ensures.raises)
    (c.raise.ensures.spent.0 (c.in-Err-Spent.is ∙ ap Err c.in-Err-Spent.field-0-is))

pub returns-in-Err-Spent-clause-raises : goal.returns-in-Err-Spent-clause-raises
returns-in-Err-Spent-clause-raises g c =
    (subst (λ r. Raises c.args.sighted (added r) c.args.seat.now.view.core
    c.raise.new.seat.view.core) (c.in-Err-Spent.is ∙ ap Err c.in-Err-Spent.field-0-is)
    c.raise.ensures.raises)

pub returns-in-Err-Spent-clause-leaves : goal.returns-in-Err-Spent-clause-leaves
returns-in-Err-Spent-clause-leaves g c = c.in-Err-Spent.ensures.leaves

pub returns-in-Ok-clause-makes : goal.returns-in-Ok-clause-makes
returns-in-Ok-clause-makes g c =
    raised_makes c.args.sighted c.args.seat.now c.raise.new.seat
    (added c.raise.result) c.raise.ensures.raises

pub returns-in-Err-Ended-clause-makes : goal.returns-in-Err-Ended-clause-makes
returns-in-Err-Ended-clause-makes g c =
    raised_makes c.args.sighted c.args.seat.now c.raise.new.seat
    (added c.raise.result) c.raise.ensures.raises

pub returns-in-Err-Spent-clause-makes : goal.returns-in-Err-Spent-clause-makes
returns-in-Err-Spent-clause-makes g c =
    raised_makes c.args.sighted c.args.seat.now c.raise.new.seat
    (added c.raise.result) c.raise.ensures.raises

pub returns-in-Ok-clause-adds : goal.returns-in-Ok-clause-adds
returns-in-Ok-clause-adds g c =
    raised_adds c.args.sighted c.args.seat.now c.raise.new.seat
    (added c.raise.result) c.raise.ensures.raises

pub returns-in-Err-Ended-clause-adds : goal.returns-in-Err-Ended-clause-adds
returns-in-Err-Ended-clause-adds g c =
    raised_adds c.args.sighted c.args.seat.now c.raise.new.seat
    (added c.raise.result) c.raise.ensures.raises

pub returns-in-Err-Spent-clause-adds : goal.returns-in-Err-Spent-clause-adds
returns-in-Err-Spent-clause-adds g c =
    raised_adds c.args.sighted c.args.seat.now c.raise.new.seat
    (added c.raise.result) c.raise.ensures.raises
