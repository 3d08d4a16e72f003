use Rattle.std.proofs.Common.{ap, subst}
use Rattle.std.specs.Prelude.{Option}
use Rattle.slot_store.specs.counted_handles.Handles.{Handle}
use Rattle.queue_protocol.specs.plain_state.declared.slot.SlotId.{SlotId}
use Rattle.part_calls.proofs.Beside.{stays_beside}
use Rattle.part_calls.specs.Parts.{as_part, seen_by}
use Rattle.queue_protocol.specs.queue_law.Views.{first_view}
use Rattle.linked_queue.specs.Pops.{Pops, item_of, named_both}
use Rattle.linked_queue.proofs.Poppings.{owns_popped, pops_item_of}
use Rattle.linked_queue.proofs.popping.pop_at.Goals as goal

pub returns-in-Ok-Some-clause-popped : goal.returns-in-Ok-Some-clause-popped
returns-in-Ok-Some-clause-popped g c =
    let before = seen_by g.P.Part.seen c.args.seat.now in
    let after = seen_by g.P.Part.seen c.pop_first.new.seat in
    subst (λ (o : Option SlotId). Pops o before after)
    (ap (λ (o : Option (Handle × Option Handle)). item_of (named_both o)) c.in-Ok-Some.field-0-is)
    (pops_item_of g.P.Kind.PayloadKind.fits (as_part g.P.Part.part c.args.domain.now) before after
    c.in-Ok-Some.field-0 c.in-Ok-Some.ensures.events c.in-Ok-Some.ensures.popped)

pub returns-in-Ok-Some-clause-owned : goal.returns-in-Ok-Some-clause-owned
returns-in-Ok-Some-clause-owned g c =
    let before = seen_by g.P.Part.seen c.args.seat.now in
    let after = seen_by g.P.Part.seen c.pop_first.new.seat in
    owns_popped c.in-Ok-Some.item.slot before after
    (subst (λ (o : Option SlotId). Pops o before after)
    (ap (λ (o : Option (Handle × Option Handle)). item_of (named_both o)) c.in-Ok-Some.field-0-is)
    (pops_item_of g.P.Kind.PayloadKind.fits (as_part g.P.Part.part c.args.domain.now) before after
    c.in-Ok-Some.field-0 c.in-Ok-Some.ensures.events c.in-Ok-Some.ensures.popped))

pub returns-in-Ok-None-clause-popped : goal.returns-in-Ok-None-clause-popped
returns-in-Ok-None-clause-popped g c =
    let before = seen_by g.P.Part.seen c.args.seat.now in
    let after = seen_by g.P.Part.seen c.pop_first.new.seat in
    subst (λ (o : Option SlotId). Pops o before after)
    (ap (λ (o : Option (Handle × Option Handle)). item_of (named_both o)) c.in-Ok-None.field-0-is)
    (pops_item_of g.P.Kind.PayloadKind.fits (as_part g.P.Part.part c.args.domain.now) before after
    c.in-Ok-None.field-0 c.in-Ok-None.ensures.events c.in-Ok-None.ensures.popped)

pub returns-in-Ok-Some-clause-beside : goal.returns-in-Ok-Some-clause-beside
returns-in-Ok-Some-clause-beside g c =
    stays_beside g.P.Part.seen g.P.Part.with_seen first_view g.P.Part.puts_back
    g.P.Part.puts_over c.args.seat.now c.pop_first.new.seat
    c.pop_first.ensures.beside

pub returns-in-Ok-None-clause-beside : goal.returns-in-Ok-None-clause-beside
returns-in-Ok-None-clause-beside g c =
    stays_beside g.P.Part.seen g.P.Part.with_seen first_view g.P.Part.puts_back
    g.P.Part.puts_over c.args.seat.now c.pop_first.new.seat
    c.pop_first.ensures.beside

pub returns-in-Err-clause-beside : goal.returns-in-Err-clause-beside
returns-in-Err-clause-beside g c =
    stays_beside g.P.Part.seen g.P.Part.with_seen first_view g.P.Part.puts_back
    g.P.Part.puts_over c.args.seat.now c.pop_first.new.seat
    c.pop_first.ensures.beside
