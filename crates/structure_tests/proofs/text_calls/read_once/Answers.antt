use Rattle.std.proofs.Common.{◌≡◌, ◌<◌, ◌+◌, ap, arith, subst, sym, ◌∙◌}
use Rattle.std.specs.Prelude.{slice_index_or}
use Rattle.part_calls.specs.core_events.declared.view.Note.TheVariants as note
use Rattle.part_calls.specs.plain_state.declared.slot.SlotId.{SlotId}
use Rattle.part_calls.specs.plain_state.Lists.{times}
use Rattle.weak_intern.specs.directory_calls.Directories.{area_of}
use Rattle.weak_intern.specs.directory_calls.Steps.{handle_by, with_found}
use Rattle.weak_intern.proofs.Below.record_making_Dropped.{dropped}
use Rattle.weak_intern.proofs.Below.text_reading_LetGo.{least_there}
use Rattle.weak_intern.specs.Sighting.{seat_without}
use Rattle.weak_intern.proofs.Looked.{look_free, look_saw, look_sighted}
use Rattle.weak_intern.proofs.Sights.{free_still}
use Rattle.structure_tests.proofs.Returned.{back_again, has_one, one_after, two_free}
use Rattle.structure_tests.proofs.Seen.{owned_seen, under_after}
use Rattle.structure_tests.proofs.text_calls.read_once.Goals as goal

pub see-requires-clause-free : goal.see-requires-clause-free
see-requires-clause-free g c =
    least_there c.args.seat.now.view.core 1
    (omega arith, omega arith, c.requires.ready.none 1)

pub raise-requires-clause-sighted : goal.raise-requires-clause-sighted
raise-requires-clause-sighted g c =
    look_sighted (c.args.domain.now.protocol.first + c.args.cell) c.args.seat.now c.see.new.seat
    c.see.result c.see.ensures.sights c.see.ensures.objects c.in-Some.head c.in-Some.is

pub raise-requires-clause-saw : goal.raise-requires-clause-saw
raise-requires-clause-saw g c = (
  c.args.cell,
  look_saw (c.args.domain.now.protocol.first + c.args.cell) c.args.seat.now c.see.new.seat
      c.see.result c.see.ensures.sights c.see.ensures.objects c.in-Some.head c.in-Some.is
      (λ v. v) c.args.domain.now (area_of c.args.domain.now.protocol) c.args.cell
      c.see.ensures.sees,
)

pub read_text-size-requires-clause-held : goal.read_text-size-requires-clause-held
read_text-size-requires-clause-held g c =
    subst (λ s. 0 < times s c.raise.new.seat.view.core.owned) (sym c.slot.ensures)
    (has_one c.see.new.seat.view.core.owned c.raise.new.seat.view.core.owned c.in-Ok.record.slot
    (subst (λ r. (x : SlotId) → times x c.raise.new.seat.view.core.owned
    ≡ times x (with_found (handle_by r) c.see.new.seat.view.core.owned)) c.in-Ok.is
    c.raise.ensures.leaves.owns))

pub read_text-size-requires-clause-free : goal.read_text-size-requires-clause-free
read_text-size-requires-clause-free g c =
    free_still (seat_without c.in-Some.head c.see.new.seat) c.raise.new.seat
    c.raise.ensures.leaves.same
    (look_free (c.args.domain.now.protocol.first + c.args.cell) c.args.seat.now c.see.new.seat
    c.see.result c.see.ensures.sights c.see.ensures.objects c.in-Some.head c.in-Some.is
    (two_free c.args.seat.now.view.core c.requires.ready.none))

pub drop_strong-requires-clause-owned : goal.drop_strong-requires-clause-owned
drop_strong-requires-clause-owned g c =
    let held = has_one c.see.new.seat.view.core.owned c.raise.new.seat.view.core.owned
    c.in-Ok.record.slot
    (subst (λ r. (x : SlotId) → times x c.raise.new.seat.view.core.owned
    ≡ times x (with_found (handle_by r) c.see.new.seat.view.core.owned)) c.in-Ok.is
    c.raise.ensures.leaves.owns) in
    let same = c.read_text-size.ensures.leaves.owns c.in-Ok.record.slot in
    omega (arith, held, same)

pub returns-clause-owns : goal.returns-clause-owns
returns-clause-owns g c =
    back_again c.args.seat.now.view.core.owned c.read_text-size.new.seat.view.core.owned
    c.drop_strong.new.seat.view.core.owned c.in-Ok.record.slot
    (λ x.
    let more = one_after c.args.seat.now.view.core.owned c.see.new.seat.view.core.owned
    c.raise.new.seat.view.core.owned c.in-Ok.record.slot
    (owned_seen (c.args.domain.now.protocol.first + c.args.cell) c.args.seat.now c.see.new.seat
    c.see.result c.see.ensures.sights c.see.ensures.objects c.in-Some.head c.in-Some.is
    c.see.new.seat)
    (subst (λ r. (x : SlotId) → times x c.raise.new.seat.view.core.owned
    ≡ times x (with_found (handle_by r) c.see.new.seat.view.core.owned)) c.in-Ok.is
    c.raise.ensures.leaves.owns) x in
    let same = c.read_text-size.ensures.leaves.owns x in
    omega (arith, more, same))
    (dropped c.read_text-size.new.seat c.drop_strong.new.seat c.in-Ok.record.slot _
    c.args.domain.now c.drop_strong.ensures.dropped c.drop_strong.ensures.objects).owns

pub returns-clause-ready : goal.returns-clause-ready
returns-clause-ready g c = record {
  rest = c.drop_strong.ensures.rest;
  none = λ j. ap (λ ns. slice_index_or ns j note.Idle) c.drop_strong.ensures.notes
      ∙ under_after (c.args.domain.now.protocol.first + c.args.cell) c.args.seat.now c.see.new.seat
      c.see.result c.see.ensures.sights c.see.ensures.objects c.in-Some.head c.in-Some.is
      c.read_text-size.new.seat
      (c.read_text-size.ensures.leaves.same ∙ c.raise.ensures.leaves.same)
      c.requires.ready.none j;
  room = c.drop_strong.ensures.room c.read_text-size.ensures.room;
}
