use Rattle.std.proofs.Common.{ap, subst, sym, ◌∙◌, arith}
use Rattle.std.specs.Prelude.{Err}
use Rattle.record_making.specs.directory_calls.Directories.{area_of}
use Rattle.record_making.proofs.Below.directory_calls_Parts.{place_of, zero_then}
use Rattle.record_making.specs.Texts.{text_of}
use Rattle.text_reading.specs.Reading.{HasBegun}
use Rattle.weak_intern.specs.Sighting.{Raises, added, seat_without}
use Rattle.weak_intern.specs.Walking.{met, taken}
use Rattle.weak_intern.proofs.Meeting.{ended_met}
use Rattle.weak_intern.proofs.Moves.{raised_adds, raised_goes, raised_makes, raised_seat, spent_still}
use Rattle.weak_intern.proofs.Sights.{can_still, free_still, head_still, met_still, raised_owned, saw_still, whole_leaves}
use Rattle.weak_intern.proofs.looking.meet_long.Goals as goal

pub confirm-requires-clause-owned : goal.confirm-requires-clause-owned
confirm-requires-clause-owned g c =
    raised_owned c.in-Ok.strong.slot (seat_without c.args.sighted c.args.seat.now) c.raise.new.seat
    c.in-Ok.ensures.leaves

pub confirm-requires-clause-begun : goal.confirm-requires-clause-begun
confirm-requires-clause-begun g c =
    subst (λ x. HasBegun g.P.Part.seen x c.raise.new.seat) (sym c.in-Ok.ensures.same)
    c.in-Ok.ensures.begins

pub confirm-requires-clause-head : goal.confirm-requires-clause-head
confirm-requires-clause-head g c =
    head_still (place_of g.P.Part.seen g.P.Part.with_seen g.P.Part.reads g.P.Part.puts_back
    g.P.Part.puts_over)
    c.args.sighted.slot c.in-Ok.strong.slot c.in-Ok.ensures.same c.args.seat.now c.raise.new.seat
    c.in-Ok.ensures.known c.in-Ok.ensures.learns
    c.args.sought.now.head c.requires.head

pub confirm-requires-clause-saw : goal.confirm-requires-clause-saw
confirm-requires-clause-saw g c =
    saw_still (place_of g.P.Part.seen g.P.Part.with_seen g.P.Part.reads g.P.Part.puts_back
    g.P.Part.puts_over)
    c.args.sighted.slot c.in-Ok.strong.slot c.in-Ok.ensures.same c.args.seat.now c.raise.new.seat
    c.in-Ok.ensures.known c.in-Ok.ensures.learns c.requires.saw

pub confirm-requires-clause-quota : goal.confirm-requires-clause-quota
confirm-requires-clause-quota g c =
    can_still (place_of g.P.Part.seen g.P.Part.with_seen g.P.Part.reads g.P.Part.puts_back
    g.P.Part.puts_over)
    c.args.sighted.slot c.in-Ok.strong.slot c.in-Ok.ensures.same c.args.seat.now c.raise.new.seat
    c.in-Ok.ensures.known c.in-Ok.ensures.learns c.args.intern c.requires.quota

pub confirm-requires-clause-free : goal.confirm-requires-clause-free
confirm-requires-clause-free g c =
    free_still (seat_without c.args.sighted c.args.seat.now) c.raise.new.seat
    c.in-Ok.ensures.leaves.same c.requires.free

pub returns-in-Ok-clause-meets : goal.returns-in-Ok-clause-meets
returns-in-Ok-clause-meets g c =
    met_still (place_of g.P.Part.seen g.P.Part.with_seen g.P.Part.reads g.P.Part.puts_back
    g.P.Part.puts_over)
    c.args.sighted.slot c.in-Ok.strong.slot c.in-Ok.ensures.same c.args.seat.now c.raise.new.seat
    c.in-Ok.ensures.known c.in-Ok.ensures.learns
    c.args.domain.now (area_of (g.P.Part.part c.args.domain.now.protocol))
    c.confirm.new.seat (text_of c.args.sought.now.text.now) c.confirm.result
    (raised_seat c.args.sighted c.args.seat.now c.raise.new.seat
    (added c.raise.result) c.raise.ensures.raises)
    (raised_goes c.args.sighted c.args.seat.now c.raise.new.seat
    (added c.raise.result) c.raise.ensures.raises)
    c.confirm.ensures.meets

pub returns-in-Ok-clause-leaves : goal.returns-in-Ok-clause-leaves
returns-in-Ok-clause-leaves g c =
    whole_leaves c.in-Ok.strong.slot (seat_without c.args.sighted c.args.seat.now) c.raise.new.seat
    c.in-Ok.ensures.leaves c.confirm.new.seat (met c.confirm.result) c.confirm.ensures.leaves

pub returns-in-Ok-clause-learns : goal.returns-in-Ok-clause-learns
returns-in-Ok-clause-learns g c =
    zero_then (place_of g.P.Part.seen g.P.Part.with_seen g.P.Part.reads g.P.Part.puts_back
    g.P.Part.puts_over)
    (taken c.args.intern c.confirm.result) c.args.seat.now.view.client c.raise.new.seat.view.client
    c.confirm.new.seat.view.client c.in-Ok.ensures.learns c.confirm.ensures.learns

pub returns-in-Ok-clause-makes : goal.returns-in-Ok-clause-makes
returns-in-Ok-clause-makes g c =
    c.confirm.ensures.makes
    ∙ raised_makes c.args.sighted c.args.seat.now c.raise.new.seat
    (added c.raise.result) c.raise.ensures.raises

pub returns-in-Err-Ended-clause-meets : goal.returns-in-Err-Ended-clause-meets
returns-in-Err-Ended-clause-meets g c =
    ended_met c.args.domain.now
    (place_of g.P.Part.seen g.P.Part.with_seen g.P.Part.reads g.P.Part.puts_back
    g.P.Part.puts_over)
    (area_of (g.P.Part.part c.args.domain.now.protocol)) c.args.sighted.slot (text_of
    c.args.sought.now.text.now)
    c.args.sought.now.head c.requires.sought.begins c.args.seat.now c.raise.new.seat
    c.in-Err-Ended.ensures.learns
    (c.raise.ensures.ended (c.in-Err-Ended.is ∙ ap Err c.in-Err-Ended.field-0-is))

pub returns-in-Err-Ended-clause-leaves : goal.returns-in-Err-Ended-clause-leaves
returns-in-Err-Ended-clause-leaves g c = c.in-Err-Ended.ensures.leaves

pub returns-in-Err-Spent-clause-spent : goal.returns-in-Err-Spent-clause-spent
returns-in-Err-Spent-clause-spent g c =
    λ is. spent_still c.args.sighted c.args.seat.now c.raise.new.seat
    (subst (λ r. Raises c.args.sighted (added r) c.args.seat.now.view.core
    c.raise.new.seat.view.core) (c.in-Err-Spent.is ∙ ap Err c.in-Err-Spent.field-0-is)
    c.raise.ensures.raises)
    (c.raise.ensures.spent.0 (c.in-Err-Spent.is ∙ ap Err c.in-Err-Spent.field-0-is))

pub returns-in-Err-Spent-clause-leaves : goal.returns-in-Err-Spent-clause-leaves
returns-in-Err-Spent-clause-leaves g c = c.in-Err-Spent.ensures.leaves

pub returns-in-Err-Ended-clause-makes : goal.returns-in-Err-Ended-clause-makes
returns-in-Err-Ended-clause-makes g c =
    raised_makes c.args.sighted c.args.seat.now c.raise.new.seat
    (added c.raise.result) c.raise.ensures.raises

pub returns-in-Err-Spent-clause-makes : goal.returns-in-Err-Spent-clause-makes
returns-in-Err-Spent-clause-makes g c =
    raised_makes c.args.sighted c.args.seat.now c.raise.new.seat
    (added c.raise.result) c.raise.ensures.raises

pub returns-in-Ok-clause-adds : goal.returns-in-Ok-clause-adds
returns-in-Ok-clause-adds g c =
    omega (
      arith,
      c.confirm.ensures.adds,
      raised_adds c.args.sighted c.args.seat.now c.raise.new.seat (added c.raise.result)
          c.raise.ensures.raises,
    )

pub returns-in-Err-Ended-clause-adds : goal.returns-in-Err-Ended-clause-adds
returns-in-Err-Ended-clause-adds g c =
    raised_adds c.args.sighted c.args.seat.now c.raise.new.seat
    (added c.raise.result) c.raise.ensures.raises

pub returns-in-Err-Spent-clause-adds : goal.returns-in-Err-Spent-clause-adds
returns-in-Err-Spent-clause-adds g c =
    raised_adds c.args.sighted c.args.seat.now c.raise.new.seat
    (added c.raise.result) c.raise.ensures.raises
