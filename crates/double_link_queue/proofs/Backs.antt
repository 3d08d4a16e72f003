-- A seat's own node leads back to the one that the tail cell held.
use Rattle.std.proofs.Common.{◌≡◌, ℕ, ◌<◌, ap, sym, ◌∙◌, subst, arith, List}
use Rattle.std.specs.Prelude.{Some}
use Rattle.weak_part_calls.specs.plain_state.declared.act.EventPlace.TheVariants.{WeakField}
use Rattle.weak_part_calls.specs.plain_state.declared.act.PlainAct.{PlainAct}
use Rattle.weak_part_calls.specs.plain_state.declared.slot.SlotId.{SlotId}
use Rattle.weak_part_calls.specs.plain_state.Lists.{times}
use Rattle.weak_part_calls.specs.plain_protocol.Owns.{Object}
use Rattle.weak_part_calls.specs.core_events.declared.shape.Shape.{Shape}
use Rattle.weak_part_calls.specs.core_events.declared.view.CoreView.{CoreView}
use Rattle.weak_part_calls.specs.domain_rule.Views.{object_in, own_of}
use Rattle.weak_part_calls.specs.acquire_retire.Domains.{DomainState}
use Rattle.weak_part_calls.specs.acquire_retire.Seats.{SeatState}
use Rattle.weak_part_calls.specs.retiring_stores.Exchanging.{Stores}
use Rattle.linked_queue.specs.queue_law.declared.view.Eyes.{Eyes}
use Rattle.linked_queue.specs.queue_law.declared.view.View.{View}
use Rattle.linked_queue.specs.queue_law.Lessons.{TellsNothing}
use Rattle.linked_queue.specs.queue_law.Nodes.{back_next}
use Rattle.linked_queue.specs.queue_protocol.declared.law.QueueLaw.{QueueLaw}
use Rattle.linked_queue.specs.Pushes.{HasLoad, SeesTail}
use Rattle.linked_queue.specs.UnlessRipe.{next_unless}
use Rattle.double_link_queue.specs.Leaving.{LeavesBoth}
use Rattle.double_link_queue.specs.Pushes.{backed_in}

pub backed : (fits : List ℕ → Type 0) (d : DomainState QueueLaw) (node back : SlotId)
    (old new : SeatState View)
    → Stores fits d (next_unless back_next) TellsNothing (WeakField node) (Some back) old new
    → new.view.client ≡ backed_in back old.view.client
backed fits d node back old new stores =
    let step = stores.swaps.puts.step in
    stores.swaps.client ∙ step.told.client
    ∙ ap (λ (a : PlainAct). next_unless back_next (own_of old.view)
    (own_of stores.swaps.mid.view) old.view.client a step.word)
    (stores.is_replace step.word)

-- what is seen in the tail cell is seen still, as long as the seat owns it and its eyes are on it
pub tail_kept : (last : SlotId) (old new : SeatState View) → SeesTail last old
    → 0 < times last new.view.core.owned → object_in new.view last ≡ object_in old.view last
    → new.view.core.shape ≡ old.view.core.shape
    → new.view.client.eyes.node ≡ old.view.client.eyes.node
    → new.view.client.eyes.life ≡ old.view.client.eyes.life
    → new.view.client.eyes.was_tail ≡ old.view.client.eyes.was_tail → SeesTail last new
tail_kept last old new sees owns object shape node life tail = record {
  owns = owns;
  node = node ∙ sees.node;
  life = ap (λ (o : Object). o.life) object ∙ sees.life ∙ sym life;
  was_tail = tail ∙ sees.was_tail;
  is_node = ap (λ (o : Object). o.payload) object ∙ sees.is_node;
  inside = subst (λ (z : Shape). last.0 < z.slots) (sym shape) sees.inside;
}

-- a call that leaves what the seat had leaves it so, if its eyes are on it still
pub tail_left : (owned weaks : List SlotId) (last : SlotId) (old new : SeatState View)
    → SeesTail last old → LeavesBoth owned weaks old new → 0 < times last owned
    → new.view.client.eyes ≡ old.view.client.eyes → SeesTail last new
tail_left owned weaks last old new sees leaves some' eyes =
    let was = sees.owns in
    let is = leaves.owns last in
    tail_kept last old new sees (omega arith) (leaves.knows last (omega arith) (omega arith))
    (ap (λ (v : CoreView). v.shape) leaves.same) (ap (λ (e : Eyes). e.node) eyes)
    (ap (λ (e : Eyes). e.life) eyes) (ap (λ (e : Eyes). e.was_tail) eyes)

-- and so does a node of its own that carries its item
pub load_kept : (owned weaks : List SlotId) (node : SlotId) (old new : SeatState View)
    → HasLoad node old → LeavesBoth owned weaks old new → 0 < times node owned
    → new.view.client.load.node ≡ old.view.client.load.node
    → new.view.client.load.life ≡ old.view.client.load.life
    → new.view.client.load.item ≡ old.view.client.load.item → HasLoad node new
load_kept owned weaks node old new has leaves some' same life item =
    let was = has.owns in
    let is = leaves.owns node in
    let known = leaves.knows node (omega arith) (omega arith) in
    let some_item = has.carried in
    record {
      owns = omega arith;
      node = same ∙ has.node;
      life = ap (λ (o : Object). o.life) known ∙ has.life ∙ sym life;
      is_node = ap (λ (o : Object). o.payload) known ∙ has.is_node;
      carried = omega arith;
    }
