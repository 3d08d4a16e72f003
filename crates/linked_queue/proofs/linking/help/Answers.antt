use Rattle.part_calls.specs.Parts.{as_part, seen_by}
use Rattle.std.proofs.Common.{◌≡◌, ◌<◌, refl, ap, sym, ◌∙◌, subst, arith}
use Rattle.std.specs.Prelude.{None}
use Rattle.queue_protocol.specs.plain_state.declared.slot.SlotId.{SlotId}
use Rattle.slot_store.specs.core_events.declared.shape.Shape.{Shape}
use Rattle.slot_store.specs.core_events.declared.view.CoreView.{CoreView}
use Rattle.slot_store.specs.core_events.Views.{without}
use Rattle.slot_store.proofs.Below.control_word_Finding.{slot_there}
use Rattle.linked_queue.specs.Leaving.{Leaves}
use Rattle.linked_queue.specs.Pushes.{Advances, SeesBehind, advanced_in}
use Rattle.linked_queue.proofs.Leavings.{copy_leaves, leaves_same}
use Rattle.linked_queue.proofs.Owning.{has_owned, still_owned, through}
use Rattle.linked_queue.proofs.Linkings.{advanced_tail, behind_still}
use Rattle.linked_queue.proofs.linking.help.Goals as goal

pub advance-requires-clause-behind : goal.advance-requires-clause-behind
advance-requires-clause-behind g c =
    let behind = behind_still c.args.old c.args.next.now.slot (seen_by g.P.Part.seen c.args.seat.now)
    (seen_by g.P.Part.seen c.copy_strong.new.seat) c.requires.behind
    (λ x. still_owned x c.args.next.now.slot c.args.seat.now.view.core.owned
    c.copy_strong.new.seat.view.core.owned (ap (λ (v : CoreView). v.owned)
    c.in-Ok.ensures.copied.1.core))
    (λ x owns. c.copy_strong.ensures.objects x (has_owned x (seen_by g.P.Part.seen c.args.seat.now) owns))
    (ap (λ (v : CoreView). v.shape) c.in-Ok.ensures.copied.1.core)
    c.copy_strong.ensures.seen in
    subst (λ (s : SlotId). SeesBehind c.args.old s (seen_by g.P.Part.seen c.copy_strong.new.seat))
    (sym c.in-Ok.ensures.copied.0) behind

pub returns-clause-leaves : goal.returns-clause-leaves
returns-clause-leaves g c =
    let copies = c.in-Ok.ensures.copied.1 in
    let same = c.in-Ok.ensures.copied.0 in
    let gives = subst (λ (s : SlotId). Leaves (without s c.copy_strong.new.seat.view.core.owned)
    (seen_by g.P.Part.seen c.copy_strong.new.seat) (seen_by g.P.Part.seen c.advance.new.seat)) same c.advance.ensures.leaves in
    let leaves = through c.args.next.now.slot None (seen_by g.P.Part.seen c.args.seat.now) (seen_by g.P.Part.seen c.copy_strong.new.seat)
    (seen_by g.P.Part.seen c.copy_strong.new.seat) (seen_by g.P.Part.seen c.advance.new.seat)
    (copy_leaves c.args.next.now.slot (seen_by g.P.Part.seen c.args.seat.now) (seen_by g.P.Part.seen c.copy_strong.new.seat) copies
    c.copy_strong.ensures.objects)
    (leaves_same (seen_by g.P.Part.seen c.copy_strong.new.seat) (seen_by g.P.Part.seen c.copy_strong.new.seat) refl) gives in
    leaves

pub returns-clause-sees : goal.returns-clause-sees
returns-clause-sees g c =
    let copies = c.in-Ok.ensures.copied.1 in
    let same = c.in-Ok.ensures.copied.0 in
    let gives = subst (λ (s : SlotId). Leaves (without s c.copy_strong.new.seat.view.core.owned)
    (seen_by g.P.Part.seen c.copy_strong.new.seat) (seen_by g.P.Part.seen c.advance.new.seat)) same c.advance.ensures.leaves in
    let leaves = through c.args.next.now.slot None (seen_by g.P.Part.seen c.args.seat.now) (seen_by g.P.Part.seen c.copy_strong.new.seat)
    (seen_by g.P.Part.seen c.copy_strong.new.seat) (seen_by g.P.Part.seen c.advance.new.seat)
    (copy_leaves c.args.next.now.slot (seen_by g.P.Part.seen c.args.seat.now) (seen_by g.P.Part.seen c.copy_strong.new.seat) copies
    c.copy_strong.ensures.objects)
    (leaves_same (seen_by g.P.Part.seen c.copy_strong.new.seat) (seen_by g.P.Part.seen c.copy_strong.new.seat) refl) gives in
    let behind = behind_still c.args.old c.args.next.now.slot (seen_by g.P.Part.seen c.args.seat.now)
    (seen_by g.P.Part.seen c.copy_strong.new.seat) c.requires.behind
    (λ x. still_owned x c.args.next.now.slot c.args.seat.now.view.core.owned
    c.copy_strong.new.seat.view.core.owned (ap (λ (v : CoreView). v.owned)
    c.in-Ok.ensures.copied.1.core))
    (λ x owns. c.copy_strong.ensures.objects x (has_owned x (seen_by g.P.Part.seen c.args.seat.now) owns))
    (ap (λ (v : CoreView). v.shape) c.in-Ok.ensures.copied.1.core)
    c.copy_strong.ensures.seen in
    let next = c.args.next.now.slot in
    let some' = c.requires.behind.owns in
    let at = leaves.owns next in
    let object = leaves.knows next (omega arith) (omega arith)
    ∙ sym (c.copy_strong.ensures.objects next (has_owned next (seen_by g.P.Part.seen c.args.seat.now) some')) in
    advanced_tail g.P.Kind.PayloadKind.fits (as_part g.P.Part.part c.args.domain.now) c.args.old next (seen_by g.P.Part.seen c.copy_strong.new.seat) behind
    (seen_by g.P.Part.seen c.advance.new.seat)
    (subst (λ (s : SlotId). (seen_by g.P.Part.seen c.advance.new.seat).view.client
    ≡ advanced_in s (seen_by g.P.Part.seen c.copy_strong.new.seat) (seen_by g.P.Part.seen c.copy_strong.new.seat).view.client)
    same c.advance.ensures.client)
    (omega arith) object
    (subst (λ (z : Shape). next.0 < z.slots) (sym c.advance.ensures.rest.of_domain.1)
    (slot_there copies.walks.1.told next (omega arith)))

pub returns-clause-helps : goal.returns-clause-helps
returns-clause-helps g c = record {
  copied = (seen_by g.P.Part.seen c.copy_strong.new.seat);
  copies = c.in-Ok.ensures.copied.1;
  advances = subst (λ (s : SlotId). Advances g.P.Kind.PayloadKind.fits (as_part g.P.Part.part c.args.domain.now) c.args.old s (seen_by g.P.Part.seen c.copy_strong.new.seat)
      (seen_by g.P.Part.seen c.advance.new.seat)) c.in-Ok.ensures.copied.0 c.advance.ensures.advances;
}
