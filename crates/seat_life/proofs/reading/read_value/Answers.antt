use Rattle.std.proofs.Common.{◌≡◌, ◌∙◌, Some, ap, subst, sym}
use Rattle.std.specs.Prelude.{IfSome}
use Rattle.domain_audit.specs.core_events.Views.{CanReadFields}
use Rattle.domain_audit.specs.domain_rule.Views.{object_in}
use Rattle.payload_reading.specs.Reading.{SeesPayload}
use Rattle.domain_audit.specs.acquire_retire.Notes.{least_free}
use Rattle.snapshot_ptr.specs.Handles.{notes_with, slot_under}
use Rattle.seat_life.specs.Values.{TakesAtLast}
use Rattle.atomic_shared.specs.Places.{strong_place}
use Rattle.seat_life.proofs.Noted.{back, can_read, free_word}
use Rattle.seat_life.proofs.reading.read_value.Goals as goal

word : (g : _) (c : goal.After-end g) → c.in_ok-seen.seen.word ≡ Some 1
word g c =
    subst (λ o. IfSome o (λ s. s.word ≡ least_free c.args.seat.now.view.core))
    (c.in_ok-seen.was {u = tt}) c.in-Ok.ensures.word
    ∙ free_word c.args.seat.now.view.core c.requires.free.notes

took : (g : _) (c : goal.After-end g)
    → c.snapshot.new.seat.view.core.notes
    ≡ notes_with (Some c.in_ok-seen.seen) c.args.seat.now.view.core.notes
took g c =
    c.in-Ok.ensures.notes
    ∙ ap (λ o. notes_with o c.args.seat.now.view.core.notes) (c.in_ok-seen.was {u = tt})

pub returns-clause-fits : goal.returns-clause-fits
returns-clause-fits g c =
    c.read_all-payload.ensures.fits
    (subst (λ s. CanReadFields c.snapshot.new.seat.view.core s) (sym c.slot.ensures)
    (can_read c.in_ok-seen.seen (word g c) c.args.seat.now.view.core c.snapshot.new.seat.view.core
    c.requires.free.notes (took g c)))

pub returns-clause-free : goal.returns-clause-free
returns-clause-free g c = record {
  rest = c.end.ensures.rest;
  notes = back c.in_ok-seen.seen (word g c) c.args.seat.now.view.core c.snapshot.new.seat.view.core
      c.read_all-payload.new.seat.view.core c.end.new.seat.view.core c.requires.free.notes (took g c)
      c.read_all-payload.ensures.notes c.end.ensures.notes;
  room = c.end.ensures.room
      (c.read_all-payload.ensures.room (c.in-Ok.ensures.room c.requires.free.room));
}

pub returns-clause-read : goal.returns-clause-read
returns-clause-read g c = record {
  snap = c.in_ok-seen.seen;
  taken = c.snapshot.new.seat;
  read = c.read_all-payload.new.seat;
  takes = subst (λ o. TakesAtLast g.P.Kind.PayloadKind.fits c.args.domain.now
      (g.D.Deed.next c.args.deed c.args.domain.now.protocol)
      (g.D.Deed.allows c.args.deed c.args.domain.now.protocol) (strong_place c.args.place)
      (slot_under o) c.args.seat.now c.snapshot.new.seat) (c.in_ok-seen.was {u = tt})
      c.in-Ok.ensures.taken;
  is = c.read_all-payload.ensures.payload
      ∙ ap (λ s. (object_in c.snapshot.new.seat.view s).payload) c.slot.ensures;
  sees = subst (λ s. SeesPayload g.P.Kind.PayloadKind.fits c.args.domain.now s
      c.read_all-payload.result c.snapshot.new.seat c.read_all-payload.new.seat) c.slot.ensures
      c.read_all-payload.ensures.seen;
  ends = c.end.ensures.ended;
}
