use Rattle.queue_protocol.specs.queue_law.Views.{first_view}
use Rattle.part_calls.proofs.Beside.{stays_beside}
use Rattle.part_calls.specs.Parts.{as_part, seen_by}
use Rattle.std.proofs.Common.{inr, refl, sym, subst, ap, ◌∙◌}
use Rattle.std.specs.Prelude.{Some, None}
use Rattle.queue_protocol.specs.plain_state.declared.act.EventPlace.TheVariants.{Cell}
use Rattle.queue_protocol.specs.plain_state.declared.slot.SlotId.{SlotId}
use Rattle.slot_store.specs.core_events.Views.{without}
use Rattle.slot_store.specs.acquire_retire.Seats.{SeatState}
use Rattle.slot_store.specs.control_word.Calls.{DropsStrong}
use Rattle.slot_store.specs.retiring_stores.Exchanging.{Stores}
use Rattle.queue_protocol.specs.queue_law.declared.view.View.{View}
use Rattle.queue_protocol.specs.queue_law.Lessons.{TellsNothing}
use Rattle.queue_protocol.specs.queue_law.Opening.{lay_tail_next}
use Rattle.linked_queue.specs.Leaving.{Leaves}
use Rattle.linked_queue.specs.Nodes.{HasNode}
use Rattle.linked_queue.proofs.LaidQueues.{half_laid, half_owned, laid_leaves, node_copied, spent_made}
use Rattle.linked_queue.proofs.Leavings.{drop_leaves, leaves_same}
use Rattle.linked_queue.proofs.Owning.{through}
use Rattle.linked_queue.proofs.queue.LinkedQueue.lay.Goals as goal

pub returns-in_default-clause-why : goal.returns-in_default-clause-why
returns-in_default-clause-why g c =
    let dummy = c.in_ok-dummy.dummy.slot in
    inr (
      refl,
      spent_made g.P.Kind.PayloadKind.fits (as_part g.P.Part.part c.args.domain.now) dummy (seen_by g.P.Part.seen c.args.seat.now) (seen_by g.P.Part.seen c.make_node.new.seat)
          c.in_ok-dummy.ensures.made (c.in_default.ensures.spent.0 refl),
      record {
        dummy = dummy;
        made = (seen_by g.P.Part.seen c.make_node.new.seat);
        makes = c.in_ok-dummy.ensures.made;
        drops = subst (λ (z : SeatState View). DropsStrong g.P.Kind.PayloadKind.fits (as_part g.P.Part.part c.args.domain.now) dummy z
            (seen_by g.P.Part.seen c.drop_strong.new.seat))
            (ap (seen_by g.P.Part.seen) c.in_default.ensures.refused) c.drop_strong.ensures.dropped;
      },
    )

pub returns-in_default-clause-leaves : goal.returns-in_default-clause-leaves
returns-in_default-clause-leaves g c =
    through c.in_ok-dummy.dummy.slot None (seen_by g.P.Part.seen c.args.seat.now) (seen_by g.P.Part.seen c.make_node.new.seat)
    (seen_by g.P.Part.seen c.copy_strong.new.seat) (seen_by g.P.Part.seen c.drop_strong.new.seat) c.in_ok-dummy.ensures.leaves
    (leaves_same (seen_by g.P.Part.seen c.make_node.new.seat) (seen_by g.P.Part.seen c.copy_strong.new.seat) (ap (seen_by g.P.Part.seen) c.in_default.ensures.refused))
    (drop_leaves c.in_ok-dummy.dummy.slot (seen_by g.P.Part.seen c.copy_strong.new.seat) (seen_by g.P.Part.seen c.drop_strong.new.seat)
    c.drop_strong.ensures.dropped c.drop_strong.ensures.objects)

pub lay_tail-requires-clause-node : goal.lay_tail-requires-clause-node
lay_tail-requires-clause-node g c =
    subst (λ (s : SlotId). HasNode s (seen_by g.P.Part.seen c.copy_strong.new.seat)) (sym c.in-Ok.ensures.copied.0)
    (node_copied g.P.Kind.PayloadKind.fits (as_part g.P.Part.part c.args.domain.now) c.in_ok-dummy.dummy.slot (seen_by g.P.Part.seen c.args.seat.now) (seen_by g.P.Part.seen c.make_node.new.seat)
    (seen_by g.P.Part.seen c.copy_strong.new.seat) (seen_by g.P.Part.seen c.args.seat.now) (seen_by g.P.Part.seen c.args.seat.now) c.in_ok-dummy.ensures.node
    c.in-Ok.ensures.copied.1 c.copy_strong.ensures.seen c.copy_strong.ensures.objects)

pub lay_head-requires-clause-dummy : goal.lay_head-requires-clause-dummy
lay_head-requires-clause-dummy g c =
    half_owned g.P.Kind.PayloadKind.fits (as_part g.P.Part.part c.args.domain.now) c.in_ok-dummy.dummy.slot (seen_by g.P.Part.seen c.args.seat.now) (seen_by g.P.Part.seen c.make_node.new.seat)
    (seen_by g.P.Part.seen c.copy_strong.new.seat) (seen_by g.P.Part.seen c.lay_tail.new.seat) (seen_by g.P.Part.seen c.args.seat.now) c.in_ok-dummy.ensures.node
    c.in-Ok.ensures.copied.1 c.copy_strong.ensures.seen c.copy_strong.ensures.objects
    (subst (λ (s : SlotId). Leaves (without s c.copy_strong.new.seat.view.core.owned)
    (seen_by g.P.Part.seen c.copy_strong.new.seat) (seen_by g.P.Part.seen c.lay_tail.new.seat)) c.in-Ok.ensures.copied.0 c.lay_tail.ensures.leaves)

pub lay_head-requires-clause-half : goal.lay_head-requires-clause-half
lay_head-requires-clause-half g c =
    half_laid g.P.Kind.PayloadKind.fits (as_part g.P.Part.part c.args.domain.now) c.in_ok-dummy.dummy.slot (seen_by g.P.Part.seen c.args.seat.now) (seen_by g.P.Part.seen c.make_node.new.seat)
    (seen_by g.P.Part.seen c.copy_strong.new.seat) (seen_by g.P.Part.seen c.lay_tail.new.seat) (seen_by g.P.Part.seen c.args.seat.now) c.in_ok-dummy.ensures.node
    c.in-Ok.ensures.copied.1 c.copy_strong.ensures.seen c.copy_strong.ensures.objects
    (subst (λ (s : SlotId). Leaves (without s c.copy_strong.new.seat.view.core.owned)
    (seen_by g.P.Part.seen c.copy_strong.new.seat) (seen_by g.P.Part.seen c.lay_tail.new.seat)) c.in-Ok.ensures.copied.0 c.lay_tail.ensures.leaves)
    c.lay_tail.ensures.half c.make_node.ensures.deeds c.requires.unlaid

pub returns-clause-lays : goal.returns-clause-lays
returns-clause-lays g c = record {
  dummy = c.in_ok-dummy.dummy.slot;
  made = (seen_by g.P.Part.seen c.make_node.new.seat);
  copied = (seen_by g.P.Part.seen c.copy_strong.new.seat);
  half = (seen_by g.P.Part.seen c.lay_tail.new.seat);
  makes = c.in_ok-dummy.ensures.made;
  copies = c.in-Ok.ensures.copied.1;
  tail = subst (λ (s : SlotId). Stores g.P.Kind.PayloadKind.fits (as_part g.P.Part.part c.args.domain.now) lay_tail_next TellsNothing
      (Cell (as_part g.P.Part.part c.args.domain.now).protocol.tail) (Some s) (seen_by g.P.Part.seen c.copy_strong.new.seat) (seen_by g.P.Part.seen c.lay_tail.new.seat))
      c.in-Ok.ensures.copied.0 c.lay_tail.ensures.stores;
  head = c.lay_head.ensures.stores;
}

pub returns-clause-leaves : goal.returns-clause-leaves
returns-clause-leaves g c =
    laid_leaves g.P.Kind.PayloadKind.fits (as_part g.P.Part.part c.args.domain.now) c.in_ok-dummy.dummy.slot (seen_by g.P.Part.seen c.args.seat.now) (seen_by g.P.Part.seen c.make_node.new.seat)
    (seen_by g.P.Part.seen c.copy_strong.new.seat) (seen_by g.P.Part.seen c.lay_tail.new.seat) (seen_by g.P.Part.seen c.lay_head.new.seat) c.in_ok-dummy.ensures.node
    c.in-Ok.ensures.copied.1 c.copy_strong.ensures.seen c.copy_strong.ensures.objects
    (subst (λ (s : SlotId). Leaves (without s c.copy_strong.new.seat.view.core.owned)
    (seen_by g.P.Part.seen c.copy_strong.new.seat) (seen_by g.P.Part.seen c.lay_tail.new.seat)) c.in-Ok.ensures.copied.0 c.lay_tail.ensures.leaves)
    c.in_ok-dummy.ensures.leaves c.lay_head.ensures.leaves

pub returns-in_err-dummy-clause-beside : goal.returns-in_err-dummy-clause-beside
returns-in_err-dummy-clause-beside g c =
    stays_beside g.P.Part.seen g.P.Part.with_seen first_view g.P.Part.puts_back
    g.P.Part.puts_over c.args.seat.now c.make_node.new.seat
    c.make_node.ensures.beside_part

pub returns-in_default-clause-beside : goal.returns-in_default-clause-beside
returns-in_default-clause-beside g c =
    stays_beside g.P.Part.seen g.P.Part.with_seen first_view g.P.Part.puts_back
    g.P.Part.puts_over c.args.seat.now c.drop_strong.new.seat
    (c.drop_strong.ensures.beside ∙ c.copy_strong.ensures.beside
    ∙ c.make_node.ensures.beside_part)

pub returns-clause-beside : goal.returns-clause-beside
returns-clause-beside g c =
    stays_beside g.P.Part.seen g.P.Part.with_seen first_view g.P.Part.puts_back
    g.P.Part.puts_over c.args.seat.now c.lay_head.new.seat
    (c.lay_head.ensures.beside_part ∙ c.lay_tail.ensures.beside_part
    ∙ c.copy_strong.ensures.beside ∙ c.make_node.ensures.beside_part)
