use Rattle.std.proofs.Common.{◌≡◌, List, length, map, ap, sym, ◌∙◌, subst}
use Rattle.std.proofs.lemmas.List.{length-map}
use Rattle.plain_audit.specs.plain_state.declared.slot.SlotId.{SlotId}
use Rattle.protected_loads.specs.acquire_retire.Taken.{IsTakenImage}
use Rattle.domain_audit.specs.Audits.{numbers}
use Rattle.domain_audit.proofs.OneSeat.{with_one_seat}
use Rattle.domain_audit.proofs.Wholes.{audits, has_taken, numbered}
use Rattle.domain_audit.proofs.auditing.audit_by_number.Goals as goal

pub audit_taken-requires-clause-taken : goal.audit_taken-requires-clause-taken
audit_taken-requires-clause-taken g c =
    let fits = g.P.Kind.PayloadKind.fits in
    let taken = c.deref-2.result.now in
    let words = c.taken_image_into.new.heap in
    let whole = subst (λ (ts : List SlotId). IsTakenImage fits c.learn.new.seat.view ts words)
    (sym c.deref-2.ensures.value) c.in_ok-taken_image_into.ensures.image in (
      with_one_seat whole.state,
      has_taken c.args.domain.now c.args.seat.now c.learn.new.seat
          c.learn.ensures.stays c.requires.none_dying c.learn.ensures.knows c.learn.ensures.rest
          taken words whole,
    )

pub audit_taken-requires-clause-ranked : goal.audit_taken-requires-clause-ranked
audit_taken-requires-clause-ranked g c =
    ap length c.deref-3.ensures.value
    ∙ (ap length c.in_ok-number_slots.ensures
    ∙ (length-map c.deref.result.now (λ (s : SlotId). s.0)
    ∙ ap length (c.deref.ensures.value ∙ sym c.deref-2.ensures.value)))

pub returns-clause-found : goal.returns-clause-found
returns-clause-found g c =
    let fits = g.P.Kind.PayloadKind.fits in
    let taken = c.deref-2.result.now in
    let words = c.taken_image_into.new.heap in
    let whole = subst (λ (ts : List SlotId). IsTakenImage fits c.learn.new.seat.view ts words)
    (sym c.deref-2.ensures.value) c.in_ok-taken_image_into.ensures.image in
    let same = c.deref-3.ensures.value
    ∙ (c.in_ok-number_slots.ensures
    ∙ ap (map (λ (s : SlotId). s.0)) (c.deref.ensures.value ∙ sym c.deref-2.ensures.value)) in
    audits c.args.domain.now c.args.seat.now c.learn.new.seat
    c.learn.ensures.stays c.requires.none_dying c.learn.ensures.knows c.learn.ensures.rest
    taken words whole g.P.Kind.PayloadKind.weight c.deref-3.result.now (numbers c.args.domain.now.shape.slots)
    (numbered c.args.domain.now c.args.seat.now c.learn.new.seat
    c.learn.ensures.stays c.requires.none_dying c.learn.ensures.knows c.learn.ensures.rest
    taken words whole c.deref-3.result.now same)
    c.audit_taken.result c.taken_image_into.new.seat c.taken_image_into.ensures.stays
    c.audit_taken.ensures
