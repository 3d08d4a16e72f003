use Rattle.weak_part_calls.specs.part_calls.Parts.{as_part, seen_by}
use Rattle.std.proofs.Common.{◌<◌, [], ◌∷◌, ◌++◌, refl, ap, sym, ◌∙◌, subst, arith}
use Rattle.std.specs.Prelude.{None, Some}
use Rattle.weak_part_calls.specs.plain_state.declared.act.EventPlace.TheVariants.{Field}
use Rattle.weak_part_calls.specs.retiring_stores.Exchanging.{Stores}
use Rattle.linked_queue.specs.queue_law.Lessons.{TellsNothing}
use Rattle.linked_queue.specs.queue_law.Nodes.{carry_next}
use Rattle.linked_queue.specs.UnlessRipe.{next_unless}
use Rattle.weak_part_calls.specs.plain_state.declared.slot.SlotId.{SlotId}
use Rattle.weak_part_calls.specs.plain_state.Lists.{times}
use Rattle.weak_part_calls.specs.core_events.declared.view.CoreView.{CoreView}
use Rattle.weak_part_calls.specs.core_events.Views.{without}
use Rattle.weak_part_calls.proofs.Below.core_law_Kit.{times_push}
use Rattle.linked_queue.specs.Leaving.{Leaves}
use Rattle.linked_queue.specs.Nodes.{HasNode}
use Rattle.linked_queue.specs.Pops.{item_in}
use Rattle.linked_queue.proofs.Leavings.{copy_leaves, drop_leaves, leaves_same, drop_spent}
use Rattle.linked_queue.proofs.Owning.{has_owned, still_owned, through}
use Rattle.linked_queue.proofs.Poppings.{item_still, leaves_on}
use Rattle.linked_queue.proofs.Pushings.{left_of, node_still}
use Rattle.weak_part_calls.specs.acquire_retire.Seats.{SeatState}
use Rattle.weak_part_calls.specs.control_word.Resting.{IsSpent}
use Rattle.linked_queue.specs.queue_law.declared.view.View.{View}
use Rattle.double_link_queue.proofs.pushing.load_node.Goals as goal

pub copy_strong-requires-clause-owned : goal.copy_strong-requires-clause-owned
copy_strong-requires-clause-owned g c =
    let is = c.in_ok-node.ensures.leaves.owns c.args.item.now.slot in
    let push = times_push c.args.item.now.slot c.in_ok-node.node.slot
    c.args.seat.now.view.core.owned in
    let some' = c.requires.item in omega arith

pub returns-in_default-clause-leaves : goal.returns-in_default-clause-leaves
returns-in_default-clause-leaves g c =
    let before = seen_by g.P.Part.seen c.args.seat.now in
    let after_copy_strong = seen_by g.P.Part.seen c.copy_strong.new.seat in
    let after_drop_strong = seen_by g.P.Part.seen c.drop_strong.new.seat in
    let after_make_node = seen_by g.P.Part.seen c.make_node.new.seat in
    through c.in_ok-node.node.slot None before after_make_node
    after_copy_strong after_drop_strong c.in_ok-node.ensures.leaves
    (leaves_same after_make_node after_copy_strong (ap (seen_by g.P.Part.seen)
    c.in_default.ensures.refused))
    (drop_leaves c.in_ok-node.node.slot after_copy_strong after_drop_strong
    c.drop_strong.ensures.dropped c.drop_strong.ensures.objects)

pub carry-requires-clause-node : goal.carry-requires-clause-node
carry-requires-clause-node g c =
    let after_copy_strong = seen_by g.P.Part.seen c.copy_strong.new.seat in
    let after_make_node = seen_by g.P.Part.seen c.make_node.new.seat in
    let node = c.in_ok-node.node.slot in
    let has = c.in_ok-node.ensures.node in
    subst (λ (s : SlotId). HasNode s after_copy_strong) (sym c.slot.ensures)
    (node_still node after_make_node after_copy_strong has
    (still_owned node c.args.item.now.slot c.make_node.new.seat.view.core.owned
    c.copy_strong.new.seat.view.core.owned
    (ap (λ (v : CoreView). v.owned) c.in-Ok.ensures.copied.1.core) has.owns)
    (c.copy_strong.ensures.objects node (has_owned node after_make_node has.owns))
    c.copy_strong.ensures.seen)

pub carry-requires-clause-left : goal.carry-requires-clause-left
carry-requires-clause-left g c =
    let node = c.in_ok-node.node.slot in
    subst (λ (x : SlotId × SlotId). 0 < times x.0
    (without x.1 c.copy_strong.new.seat.view.core.owned))
    (λ i. (sym c.slot.ensures i, sym c.in-Ok.ensures.copied.0 i))
    (left_of node c.args.item.now.slot c.make_node.new.seat.view.core.owned
    c.copy_strong.new.seat.view.core.owned
    (ap (λ (v : CoreView). v.owned) c.in-Ok.ensures.copied.1.core) c.in_ok-node.ensures.node.owns)

pub returns-clause-carried : goal.returns-clause-carried
returns-clause-carried g c =
    let before = seen_by g.P.Part.seen c.args.seat.now in
    let after_copy_strong = seen_by g.P.Part.seen c.copy_strong.new.seat in
    let after_make_node = seen_by g.P.Part.seen c.make_node.new.seat in
    let item = c.args.item.now.slot in
    let some' = c.requires.item in
    let made = c.in_ok-node.ensures.leaves in
    let is = made.owns item in
    let push = times_push item c.in_ok-node.node.slot c.args.seat.now.view.core.owned in
    let owns : 0 < times item c.make_node.new.seat.view.core.owned = omega arith in
    c.carry.ensures.carried
    ∙ ap (item_in after_copy_strong) c.in-Ok.ensures.copied.0
    ∙ item_still item after_make_node after_copy_strong
    (c.copy_strong.ensures.objects item (has_owned item after_make_node owns))
    ∙ item_still item before after_make_node
    (made.knows item (omega arith) (omega arith))

pub returns-clause-leaves : goal.returns-clause-leaves
returns-clause-leaves g c =
    let before = seen_by g.P.Part.seen c.args.seat.now in
    let after_carry = seen_by g.P.Part.seen c.carry.new.seat in
    let after_copy_strong = seen_by g.P.Part.seen c.copy_strong.new.seat in
    let after_make_node = seen_by g.P.Part.seen c.make_node.new.seat in
    let item = c.args.item.now.slot in
    leaves_on (c.args.seat.now.view.core.owned ++ c.in_ok-node.node.slot ∷ []) before
    after_make_node after_carry c.in_ok-node.ensures.leaves
    (through item None after_make_node after_copy_strong after_copy_strong
    after_carry
    (copy_leaves item after_make_node after_copy_strong c.in-Ok.ensures.copied.1
    c.copy_strong.ensures.objects)
    (leaves_same after_copy_strong after_copy_strong refl)
    (subst (λ (s : SlotId). Leaves (without s c.copy_strong.new.seat.view.core.owned)
    after_copy_strong after_carry) c.in-Ok.ensures.copied.0 c.carry.ensures.leaves))

pub returns-clause-events : goal.returns-clause-events
returns-clause-events g c =
    let d = as_part g.P.Part.part c.args.domain.now in
    let fits = g.P.Kind.PayloadKind.fits in
    let after_carry = seen_by g.P.Part.seen c.carry.new.seat in
    let after_copy_strong = seen_by g.P.Part.seen c.copy_strong.new.seat in
    let after_make_node = seen_by g.P.Part.seen c.make_node.new.seat in
    record {
      made = after_make_node;
      copied = after_copy_strong;
      makes = c.in_ok-node.ensures.made;
      copies = c.in-Ok.ensures.copied.1;
      stores = subst (λ (x : SlotId × SlotId). Stores fits d
          (next_unless carry_next) TellsNothing (Field x.0 1) (Some x.1) after_copy_strong
          after_carry)
          (λ i. (c.slot.ensures i, c.in-Ok.ensures.copied.0 i)) c.carry.ensures.stores;
    }

pub returns-in_default-clause-spent : goal.returns-in_default-clause-spent
returns-in_default-clause-spent g c = λ is.
    drop_spent c.in_ok-node.node.slot (seen_by g.P.Part.seen c.copy_strong.new.seat)
    (seen_by g.P.Part.seen c.drop_strong.new.seat) c.drop_strong.ensures.dropped
    (subst (λ (z : SeatState View). IsSpent z.view.core)
    (sym (ap (seen_by g.P.Part.seen) c.in_default.ensures.refused)) (c.in_default.ensures.spent.0 refl))
