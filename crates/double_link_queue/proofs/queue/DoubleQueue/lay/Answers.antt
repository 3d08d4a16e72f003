use Rattle.linked_queue.specs.queue_law.Views.{first_view}
use Rattle.weak_part_calls.proofs.Below.part_calls_Beside.{stays_beside}
use Rattle.weak_part_calls.specs.part_calls.Parts.{as_part, seen_by}
use Rattle.std.proofs.Common.{inr, refl, sym, subst, ap, ◌∙◌}
use Rattle.std.specs.Prelude.{Some, None}
use Rattle.weak_part_calls.specs.plain_state.declared.act.EventPlace.TheVariants.{Cell}
use Rattle.weak_part_calls.specs.plain_state.declared.slot.SlotId.{SlotId}
use Rattle.weak_part_calls.specs.core_events.Views.{without}
use Rattle.weak_part_calls.specs.acquire_retire.Seats.{SeatState}
use Rattle.weak_part_calls.specs.control_word.Calls.{DropsStrong}
use Rattle.weak_part_calls.specs.retiring_stores.Exchanging.{Stores}
use Rattle.linked_queue.specs.queue_law.declared.view.View.{View}
use Rattle.linked_queue.specs.queue_law.Lessons.{TellsNothing}
use Rattle.linked_queue.specs.queue_law.Opening.{lay_tail_next}
use Rattle.linked_queue.specs.Leaving.{Leaves}
use Rattle.linked_queue.specs.Nodes.{HasNode}
use Rattle.linked_queue.proofs.LaidQueues.{half_laid, half_owned, laid_leaves, node_copied, spent_made}
use Rattle.linked_queue.proofs.Leavings.{drop_leaves, leaves_same}
use Rattle.linked_queue.proofs.Owning.{through}
use Rattle.double_link_queue.proofs.queue.DoubleQueue.lay.Goals as goal

pub returns-in_default-clause-why : goal.returns-in_default-clause-why
returns-in_default-clause-why g c =
    let d = as_part g.P.Part.part c.args.domain.now in
    let fits = g.P.Kind.PayloadKind.fits in
    let before = seen_by g.P.Part.seen c.args.seat.now in
    let after_drop_strong = seen_by g.P.Part.seen c.drop_strong.new.seat in
    let after_make_node = seen_by g.P.Part.seen c.make_node.new.seat in
    let dummy = c.in_ok-dummy.dummy.slot in
    inr (
      refl,
      spent_made fits d dummy before after_make_node
          c.in_ok-dummy.ensures.made (c.in_default.ensures.spent.0 refl),
      record {
        dummy = dummy;
        made = after_make_node;
        makes = c.in_ok-dummy.ensures.made;
        drops = subst (λ (z : SeatState View). DropsStrong fits d dummy z
            after_drop_strong)
            (ap (seen_by g.P.Part.seen) c.in_default.ensures.refused) c.drop_strong.ensures.dropped;
      },
    )

pub returns-in_default-clause-leaves : goal.returns-in_default-clause-leaves
returns-in_default-clause-leaves g c =
    let before = seen_by g.P.Part.seen c.args.seat.now in
    let after_copy_strong = seen_by g.P.Part.seen c.copy_strong.new.seat in
    let after_drop_strong = seen_by g.P.Part.seen c.drop_strong.new.seat in
    let after_make_node = seen_by g.P.Part.seen c.make_node.new.seat in
    through c.in_ok-dummy.dummy.slot None before after_make_node
    after_copy_strong after_drop_strong c.in_ok-dummy.ensures.leaves
    (leaves_same after_make_node after_copy_strong (ap (seen_by g.P.Part.seen)
    c.in_default.ensures.refused))
    (drop_leaves c.in_ok-dummy.dummy.slot after_copy_strong after_drop_strong
    c.drop_strong.ensures.dropped c.drop_strong.ensures.objects)

pub lay_tail-requires-clause-node : goal.lay_tail-requires-clause-node
lay_tail-requires-clause-node g c =
    let d = as_part g.P.Part.part c.args.domain.now in
    let fits = g.P.Kind.PayloadKind.fits in
    let before = seen_by g.P.Part.seen c.args.seat.now in
    let after_copy_strong = seen_by g.P.Part.seen c.copy_strong.new.seat in
    let after_make_node = seen_by g.P.Part.seen c.make_node.new.seat in
    subst (λ (s : SlotId). HasNode s after_copy_strong) (sym c.in-Ok.ensures.copied.0)
    (node_copied fits d c.in_ok-dummy.dummy.slot before after_make_node
    after_copy_strong before before c.in_ok-dummy.ensures.node
    c.in-Ok.ensures.copied.1 c.copy_strong.ensures.seen c.copy_strong.ensures.objects)

pub lay_head-requires-clause-dummy : goal.lay_head-requires-clause-dummy
lay_head-requires-clause-dummy g c =
    let d = as_part g.P.Part.part c.args.domain.now in
    let fits = g.P.Kind.PayloadKind.fits in
    let before = seen_by g.P.Part.seen c.args.seat.now in
    let after_copy_strong = seen_by g.P.Part.seen c.copy_strong.new.seat in
    let after_lay_tail = seen_by g.P.Part.seen c.lay_tail.new.seat in
    let after_make_node = seen_by g.P.Part.seen c.make_node.new.seat in
    half_owned fits d c.in_ok-dummy.dummy.slot before after_make_node
    after_copy_strong after_lay_tail before c.in_ok-dummy.ensures.node
    c.in-Ok.ensures.copied.1 c.copy_strong.ensures.seen c.copy_strong.ensures.objects
    (subst (λ (s : SlotId). Leaves (without s c.copy_strong.new.seat.view.core.owned)
    after_copy_strong after_lay_tail) c.in-Ok.ensures.copied.0 c.lay_tail.ensures.leaves)

pub lay_head-requires-clause-half : goal.lay_head-requires-clause-half
lay_head-requires-clause-half g c =
    let d = as_part g.P.Part.part c.args.domain.now in
    let fits = g.P.Kind.PayloadKind.fits in
    let before = seen_by g.P.Part.seen c.args.seat.now in
    let after_copy_strong = seen_by g.P.Part.seen c.copy_strong.new.seat in
    let after_lay_tail = seen_by g.P.Part.seen c.lay_tail.new.seat in
    let after_make_node = seen_by g.P.Part.seen c.make_node.new.seat in
    half_laid fits d c.in_ok-dummy.dummy.slot before after_make_node
    after_copy_strong after_lay_tail before c.in_ok-dummy.ensures.node
    c.in-Ok.ensures.copied.1 c.copy_strong.ensures.seen c.copy_strong.ensures.objects
    (subst (λ (s : SlotId). Leaves (without s c.copy_strong.new.seat.view.core.owned)
    after_copy_strong after_lay_tail) c.in-Ok.ensures.copied.0 c.lay_tail.ensures.leaves)
    c.lay_tail.ensures.half c.make_node.ensures.deeds c.requires.unlaid

pub returns-clause-lays : goal.returns-clause-lays
returns-clause-lays g c =
    let d = as_part g.P.Part.part c.args.domain.now in
    let fits = g.P.Kind.PayloadKind.fits in
    let after_copy_strong = seen_by g.P.Part.seen c.copy_strong.new.seat in
    let after_lay_tail = seen_by g.P.Part.seen c.lay_tail.new.seat in
    let after_make_node = seen_by g.P.Part.seen c.make_node.new.seat in
    record {
      dummy = c.in_ok-dummy.dummy.slot;
      made = after_make_node;
      copied = after_copy_strong;
      half = after_lay_tail;
      makes = c.in_ok-dummy.ensures.made;
      copies = c.in-Ok.ensures.copied.1;
      tail = subst (λ (s : SlotId). Stores fits d lay_tail_next TellsNothing
          (Cell d.protocol.tail) (Some s) after_copy_strong after_lay_tail)
          c.in-Ok.ensures.copied.0 c.lay_tail.ensures.stores;
      head = c.lay_head.ensures.stores;
    }

pub returns-clause-leaves : goal.returns-clause-leaves
returns-clause-leaves g c =
    let d = as_part g.P.Part.part c.args.domain.now in
    let fits = g.P.Kind.PayloadKind.fits in
    let before = seen_by g.P.Part.seen c.args.seat.now in
    let after_copy_strong = seen_by g.P.Part.seen c.copy_strong.new.seat in
    let after_lay_head = seen_by g.P.Part.seen c.lay_head.new.seat in
    let after_lay_tail = seen_by g.P.Part.seen c.lay_tail.new.seat in
    let after_make_node = seen_by g.P.Part.seen c.make_node.new.seat in
    laid_leaves fits d c.in_ok-dummy.dummy.slot before after_make_node
    after_copy_strong after_lay_tail after_lay_head c.in_ok-dummy.ensures.node
    c.in-Ok.ensures.copied.1 c.copy_strong.ensures.seen c.copy_strong.ensures.objects
    (subst (λ (s : SlotId). Leaves (without s c.copy_strong.new.seat.view.core.owned)
    after_copy_strong after_lay_tail) c.in-Ok.ensures.copied.0 c.lay_tail.ensures.leaves)
    c.in_ok-dummy.ensures.leaves c.lay_head.ensures.leaves

pub returns-in_err-dummy-clause-beside : goal.returns-in_err-dummy-clause-beside
returns-in_err-dummy-clause-beside g c =
    stays_beside g.P.Part.seen g.P.Part.with_seen first_view g.P.Part.puts_back
    g.P.Part.puts_over c.args.seat.now c.make_node.new.seat
    c.make_node.ensures.beside_part

pub returns-in_default-clause-beside : goal.returns-in_default-clause-beside
returns-in_default-clause-beside g c =
    stays_beside g.P.Part.seen g.P.Part.with_seen first_view g.P.Part.puts_back
    g.P.Part.puts_over c.args.seat.now c.drop_strong.new.seat
    (c.drop_strong.ensures.beside ∙ c.copy_strong.ensures.beside
    ∙ c.make_node.ensures.beside_part)

pub returns-clause-beside : goal.returns-clause-beside
returns-clause-beside g c =
    stays_beside g.P.Part.seen g.P.Part.with_seen first_view g.P.Part.puts_back
    g.P.Part.puts_over c.args.seat.now c.lay_head.new.seat
    (c.lay_head.ensures.beside_part ∙ c.lay_tail.ensures.beside_part
    ∙ c.copy_strong.ensures.beside ∙ c.make_node.ensures.beside_part)
