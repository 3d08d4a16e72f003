use Rattle.queue_protocol.specs.plain_protocol.Owns.{Object}
use Rattle.linked_queue.proofs.Owning.{has_owned, owned_node}
use Rattle.linked_queue.proofs.Accepting.{link_all}
use Rattle.part_calls.specs.Parts.{as_part, seen_by}
use Rattle.std.proofs.Common.{rules, ◌≡◌, refl, ap, sym, ◌∙◌, subst, arith}
use Rattle.std.specs.Prelude.{None, Some}
use Rattle.queue_protocol.specs.plain_state.declared.act.EventPlace.TheVariants.{Field}
use Rattle.queue_protocol.specs.plain_state.declared.slot.SlotId.{SlotId}
use Rattle.slot_store.specs.core_events.Views.{without}
use Rattle.slot_store.specs.counted_handles.Handles.{Handle}
use Rattle.slot_store.specs.acquire_retire.Calls.{IsSameView, same_view}
use Rattle.slot_store.specs.control_word.Calls.{DropsStrong, GainsStrong, without_strong}
use Rattle.slot_store.specs.control_word.Moves.{KnowsStill}
use Rattle.slot_store.specs.retiring_stores.Exchanging.{LosesTo, Replaces}
use Rattle.queue_protocol.specs.queue_law.Lessons.{TellsNothing}
use Rattle.queue_protocol.specs.queue_law.Pushes.{link_next, carried_item}
use Rattle.linked_queue.specs.Leaving.{Leaves}
use Rattle.linked_queue.proofs.Leavings.{exchange_leaves}
use Rattle.linked_queue.proofs.Linkings.{link_leaves, link_ready, linked_behind, linked_client, more, unlinked}
use Rattle.linked_queue.proofs.linking.link.Goals as goal

pub try_replace-requires-clause-open : goal.try_replace-requires-clause-open
try_replace-requires-clause-open g c =
    let copies = subst (λ (s : SlotId). GainsStrong g.P.Kind.PayloadKind.fits (as_part g.P.Part.part c.args.domain.now) same_view
    IsSameView s (seen_by g.P.Part.seen c.args.seat.now) (seen_by g.P.Part.seen c.copy_strong.new.seat))
    c.of.ensures c.in-Ok.ensures.copied.1 in
    let same = c.in-Ok.ensures.copied.0 ∙ c.of.ensures in
    let some' = more g.P.Kind.PayloadKind.fits (as_part g.P.Part.part c.args.domain.now) c.args.last c.args.node (seen_by g.P.Part.seen c.args.seat.now) (seen_by g.P.Part.seen c.copy_strong.new.seat)
    c.requires.tail c.requires.load copies c.copy_strong.ensures.seen
    c.copy_strong.ensures.objects c.args.last c.requires.tail.owns in
    (omega arith, omega arith)

pub try_replace-requires-clause-deed : goal.try_replace-requires-clause-deed
try_replace-requires-clause-deed g c =
    let copies = subst (λ (s : SlotId). GainsStrong g.P.Kind.PayloadKind.fits (as_part g.P.Part.part c.args.domain.now) same_view
    IsSameView s (seen_by g.P.Part.seen c.args.seat.now) (seen_by g.P.Part.seen c.copy_strong.new.seat))
    c.of.ensures c.in-Ok.ensures.copied.1 in
    let same = c.in-Ok.ensures.copied.0 ∙ c.of.ensures in
    link_ready g.P.Kind.PayloadKind.fits (as_part g.P.Part.part c.args.domain.now) c.args.last c.args.node (seen_by g.P.Part.seen c.args.seat.now) (seen_by g.P.Part.seen c.copy_strong.new.seat)
    c.requires.tail c.requires.load copies c.copy_strong.ensures.seen
    c.copy_strong.ensures.objects c.in-Ok.given.slot same c.requires.queue c.requires.attached

pub returns-in-Ok-try_replace : goal.returns-in-Ok-try_replace
returns-in-Ok-try_replace g c =
    let copies = subst (λ (s : SlotId). GainsStrong g.P.Kind.PayloadKind.fits (as_part g.P.Part.part c.args.domain.now) same_view
    IsSameView s (seen_by g.P.Part.seen c.args.seat.now) (seen_by g.P.Part.seen c.copy_strong.new.seat))
    c.of.ensures c.in-Ok.ensures.copied.1 in
    let same = c.in-Ok.ensures.copied.0 ∙ c.of.ensures in
    let replaces = subst (λ (s : SlotId). Replaces g.P.Kind.PayloadKind.fits (as_part g.P.Part.part c.args.domain.now) link_next
    TellsNothing (Field c.args.last 0) (Some s) None (seen_by g.P.Part.seen c.copy_strong.new.seat)
    (seen_by g.P.Part.seen c.try_replace.new.seat)) same c.in-Ok-try_replace.ensures.replaced.0 in
    let still = subst (λ (s : SlotId). Leaves (without s c.copy_strong.new.seat.view.core.owned)
    (seen_by g.P.Part.seen c.copy_strong.new.seat) (seen_by g.P.Part.seen c.try_replace.new.seat)) same
    (exchange_leaves (Field c.args.last 0) _ (Some c.in-Ok.given.slot) _ (seen_by g.P.Part.seen c.copy_strong.new.seat)
    (seen_by g.P.Part.seen c.try_replace.new.seat) refl c.in-Ok-try_replace.ensures.replaced.0
    c.try_replace.ensures.objects) in
    let client = linked_client g.P.Kind.PayloadKind.fits (as_part g.P.Part.part c.args.domain.now) c.args.last c.args.node (seen_by g.P.Part.seen c.args.seat.now) (seen_by g.P.Part.seen c.copy_strong.new.seat)
    c.requires.tail c.requires.load copies c.copy_strong.ensures.seen
    c.copy_strong.ensures.objects (seen_by g.P.Part.seen c.try_replace.new.seat) still
    replaces in
    record {
      links = record { copied = (seen_by g.P.Part.seen c.copy_strong.new.seat); copies = copies; replaces = replaces };
      linked = client;
      behind = linked_behind g.P.Kind.PayloadKind.fits (as_part g.P.Part.part c.args.domain.now) c.args.last c.args.node (seen_by g.P.Part.seen c.args.seat.now) (seen_by g.P.Part.seen c.copy_strong.new.seat)
          c.requires.tail c.requires.load copies c.copy_strong.ensures.seen
          c.copy_strong.ensures.objects (seen_by g.P.Part.seen c.try_replace.new.seat) still
          client;
      refused = tt;
      leaves = link_leaves g.P.Kind.PayloadKind.fits (as_part g.P.Part.part c.args.domain.now) c.args.last c.args.node (seen_by g.P.Part.seen c.args.seat.now) (seen_by g.P.Part.seen c.copy_strong.new.seat)
          c.requires.tail c.requires.load copies c.copy_strong.ensures.seen
          c.copy_strong.ensures.objects (seen_by g.P.Part.seen c.try_replace.new.seat) still;
      why = tt;
      makes = search rules;
      spent = tt;
      room = c.try_replace.ensures.room;
      beside_part = c.try_replace.ensures.beside ∙ c.copy_strong.ensures.beside;
      rest = c.try_replace.ensures.rest;
    }

pub returns : goal.returns
returns g c =
    let copies = subst (λ (s : SlotId). GainsStrong g.P.Kind.PayloadKind.fits (as_part g.P.Part.part c.args.domain.now) same_view
    IsSameView s (seen_by g.P.Part.seen c.args.seat.now) (seen_by g.P.Part.seen c.copy_strong.new.seat))
    c.of.ensures c.in-Ok.ensures.copied.1 in
    let same = c.in-Ok.ensures.copied.0 ∙ c.of.ensures in
    let loses = subst (λ (s : SlotId). LosesTo g.P.Kind.PayloadKind.fits (as_part g.P.Part.part c.args.domain.now) link_next
    TellsNothing (Field c.args.last 0) (Some s) None c.in-Err.lost.now
    (seen_by g.P.Part.seen c.copy_strong.new.seat) (seen_by g.P.Part.seen c.try_replace.new.seat)) same c.in-Err.ensures.lost in
    let both : Some c.in-Some.given ≡ Some c.in-Ok.given =
    sym c.in-Some.is ∙ c.in-Err.ensures.back in
    let handles : c.in-Some.given ≡ c.in-Ok.given = cc (both) in
    let back = ap (λ (h : Handle). h.slot) handles ∙ same in
    record {
      links = tt;
      linked = tt;
      behind = tt;
      refused = search rules;
      makes = search rules;
      spent = λ is. absurd (cc (is));
      leaves = unlinked g.P.Kind.PayloadKind.fits (as_part g.P.Part.part c.args.domain.now) c.args.last c.args.node (seen_by g.P.Part.seen c.args.seat.now) (seen_by g.P.Part.seen c.copy_strong.new.seat)
          c.requires.tail c.requires.load copies c.copy_strong.ensures.seen
          c.copy_strong.ensures.objects (seen_by g.P.Part.seen c.try_replace.new.seat) (seen_by g.P.Part.seen c.drop_strong.new.seat) c.in-Err.lost.now loses
          (subst (λ (s : SlotId). DropsStrong g.P.Kind.PayloadKind.fits (as_part g.P.Part.part c.args.domain.now) s (seen_by g.P.Part.seen c.try_replace.new.seat)
          (seen_by g.P.Part.seen c.drop_strong.new.seat)) back c.drop_strong.ensures.dropped)
          (subst (λ (s : SlotId). KnowsStill (without_strong s c.try_replace.new.seat.view.core)
          (seen_by g.P.Part.seen c.try_replace.new.seat) (seen_by g.P.Part.seen c.drop_strong.new.seat)) back c.drop_strong.ensures.objects);
      why = record {
        copied = (seen_by g.P.Part.seen c.copy_strong.new.seat);
        lost = (seen_by g.P.Part.seen c.try_replace.new.seat);
        copies = copies;
        expected = c.held_as.ensures;
        loses = loses;
        drops = subst (λ (s : SlotId). DropsStrong g.P.Kind.PayloadKind.fits (as_part g.P.Part.part c.args.domain.now) s (seen_by g.P.Part.seen c.try_replace.new.seat)
            (seen_by g.P.Part.seen c.drop_strong.new.seat)) back c.drop_strong.ensures.dropped;
      };
      room = c.drop_strong.ensures.room c.try_replace.ensures.room;
      beside_part = c.drop_strong.ensures.beside ∙ c.try_replace.ensures.beside
          ∙ c.copy_strong.ensures.beside;
      rest = c.drop_strong.ensures.rest;
    }

pub try_replace-requires-clause-accepted : goal.try_replace-requires-clause-accepted
try_replace-requires-clause-accepted g c =
    link_all g.P.Part.seen g.P.Part.suits g.met.P.HasQueue.accepts
    c.args.domain.now.protocol c.copy_strong.new.seat.view.client g.P.HasQueue.may_push
    g.met.P.HasQueue.accepts_push
    (subst (λ v. g.P.HasQueue.may_push c.args.domain.now.protocol v
    (carried_item (g.P.Part.seen v))) (sym c.copy_strong.ensures.client) c.requires.may)

pub try_replace-requires-clause-within : goal.try_replace-requires-clause-within
try_replace-requires-clause-within g c =
    let copies = subst (λ (s : SlotId). GainsStrong g.P.Kind.PayloadKind.fits
    (as_part g.P.Part.part c.args.domain.now) same_view IsSameView s
    (seen_by g.P.Part.seen c.args.seat.now) (seen_by g.P.Part.seen c.copy_strong.new.seat))
    c.of.ensures c.in-Ok.ensures.copied.1 in
    let known = c.copy_strong.ensures.objects c.args.last
    (has_owned c.args.last c.args.seat.now c.requires.tail.owns) in
    owned_node c.args.last c.copy_strong.new.seat
    (more g.P.Kind.PayloadKind.fits (as_part g.P.Part.part c.args.domain.now) c.args.last c.args.node
    (seen_by g.P.Part.seen c.args.seat.now) (seen_by g.P.Part.seen c.copy_strong.new.seat)
    c.requires.tail c.requires.load copies c.copy_strong.ensures.seen c.copy_strong.ensures.objects
    c.args.last c.requires.tail.owns)
    (ap (λ (o : Object). o.payload) known ∙ c.requires.tail.is_node)
