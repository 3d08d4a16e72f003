-- A seat's own node was linked back, and the link of the node before helped: the tail cell may be exchanged.
use Rattle.std.proofs.Common.{◌≡◌, true, ap, ◌∙◌}
use Rattle.std.specs.Prelude.{None}
use Rattle.weak_part_calls.specs.plain_state.declared.slot.SlotId.{SlotId}
use Rattle.weak_part_calls.specs.acquire_retire.Seats.{SeatState}
use Rattle.linked_queue.specs.queue_law.declared.view.View.{View}
use Rattle.linked_queue.specs.queue_law.Pushes.{carried_item}
use Rattle.linked_queue.specs.Pushes.{HasLoad, SeesTail}
use Rattle.linked_queue.specs.Queues.{IsAttached, beside_eyes}
use Rattle.double_link_queue.specs.Leaving.{LeavesBoth}
use Rattle.double_link_queue.specs.Pushes.{CanExchange, backed_in, beside_back}
use Rattle.double_link_queue.proofs.Backs.{load_kept, tail_left}
use Rattle.double_link_queue.proofs.Owning.{nothing_then}

pub attached_on : (v w : View) → beside_eyes w ≡ beside_eyes v → IsAttached v → IsAttached w
attached_on v w same attached = record {
  here = ap (λ (u : View). u.here) same ∙ attached.here;
  attached = ap (λ (u : View). u.attached) same ∙ attached.attached;
}

pub attached_back : (last : SlotId) (v w : View) → w ≡ backed_in last v → IsAttached v → IsAttached
    w
attached_back last v w is attached = record {
  here = ap (λ (u : View). u.here) is ∙ attached.here;
  attached = ap (λ (u : View). u.attached) is ∙ attached.attached;
}

module _ (last node : SlotId) (old mid : SeatState View) (sees : SeesTail last old)
    (load : HasLoad node old)
    (links : LeavesBoth old.view.core.owned old.view.core.weaks old mid)
    (backed : mid.view.client ≡ backed_in last old.view.client) where
  pub tail_backed : SeesTail last mid
  tail_backed = tail_left old.view.core.owned old.view.core.weaks last old mid sees links sees.owns
      (ap (λ (v : View). v.eyes) backed)

  module _ (new : SeatState View)
      (helps : LeavesBoth mid.view.core.owned mid.view.core.weaks mid new)
      (same : beside_eyes new.view.client ≡ beside_eyes mid.view.client) where
    pub both_leave : LeavesBoth old.view.core.owned old.view.core.weaks old new
    both_leave = nothing_then None old mid new links helps

    pub can_exchange : SeesTail last new → new.view.client.eyes.helped ≡ true
        → CanExchange last node new
    can_exchange tail helped = record {
      tail = tail;
      load = load_kept old.view.core.owned old.view.core.weaks node old new load both_leave
          load.owns
          (ap (λ (v : View). v.load.node) same ∙ ap (λ (v : View). v.load.node) backed)
          (ap (λ (v : View). v.load.life) same ∙ ap (λ (v : View). v.load.life) backed)
          (ap (λ (v : View). v.load.item) same ∙ ap (λ (v : View). v.load.item) backed);
      helped = helped;
      backed = ap (λ (v : View). v.load.back) same ∙ ap (λ (v : View). v.load.back) backed;
    }

    pub carried_still : carried_item new.view.client ≡ carried_item old.view.client
    carried_still = ap carried_item same ∙ ap carried_item backed

-- a node of the seat's own carries its item still, where it has what it had and its view but for where it leads back
pub load_on : (node : SlotId) (old new : SeatState View) → HasLoad node old
    → LeavesBoth old.view.core.owned old.view.core.weaks old new
    → beside_back new.view.client ≡ beside_back old.view.client → HasLoad node new
load_on node old new load leaves same =
    load_kept old.view.core.owned old.view.core.weaks node old new load leaves load.owns
    (ap (λ (v : View). v.load.node) same) (ap (λ (v : View). v.load.life) same)
    (ap (λ (v : View). v.load.item) same)
