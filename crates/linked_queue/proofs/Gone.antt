-- A look at the head cell after the node that it held was found to have no item behind it.
use Rattle.std.proofs.Common.{◌≡◌, ◌≢◌, ℕ, ◌+◌, length, inl, ap, sym, ◌∙◌, arith, List}
use Rattle.std.specs.Prelude.{Option}
use Rattle.queue_protocol.specs.plain_state.declared.act.EventPlace.TheVariants.{Cell}
use Rattle.queue_protocol.specs.plain_state.declared.act.PlainAct.TheVariants as plain
use Rattle.queue_protocol.specs.plain_state.declared.slot.SlotId.{SlotId}
use Rattle.queue_protocol.specs.plain_state.Steps.{word_of}
use Rattle.slot_store.specs.core_events.declared.act.Act.TheVariants as act
use Rattle.slot_store.specs.core_events.declared.outcome.Outcome.TheVariants as outcome
use Rattle.slot_store.specs.core_events.Shows.{show_slot, shows}
use Rattle.slot_store.proofs.Below.core_law_Each.{length_each}
use Rattle.slot_store.specs.acquire_retire.Calls.{IsReady, Steps, same_view}
use Rattle.slot_store.specs.acquire_retire.Domains.{DomainState}
use Rattle.slot_store.specs.acquire_retire.Seats.{SeatState}
use Rattle.queue_protocol.specs.queue_law.declared.view.View.{View}
use Rattle.queue_protocol.specs.declared.law.QueueLaw.{QueueLaw}
use Rattle.linked_queue.specs.Items.{GoneReady, GoneTells}
use Rattle.linked_queue.specs.Queues.{ends_of}
use Rattle.linked_queue.specs.Seeing.{SeesNone}
use Rattle.linked_queue.proofs.Looks.{looked, looked_there}
use Rattle.linked_queue.proofs.Owning.{has_owned, own_life}

module _ (fits : List ℕ → Type 0) (d : DomainState QueueLaw) (front next : SlotId) (old : SeatState View)
    (sees : SeesNone d.shape.slots front next old) where
  pub gone_ready : (i : ℕ) → i ≡ d.protocol.head
      → IsReady (GoneReady (ends_of d) d.shape.slots) d.shape (act.Look (Cell i)) old.view
  gone_ready i is w = record {
    node = front.0;
    next = next.0;
    reads = inl (ap (λ n. plain.Look (Cell n)) is);
    held = (let some' = sees.nodes.head.owns in omega arith);
    seen = sees.nodes.head.node;
    seen_life = own_life front old (has_owned front old sees.nodes.head.owns)
        ∙ sees.nodes.head.life;
    following = sees.nodes.following;
    gone = sees.gone;
  }

  -- it finds another node
  pub gone_other : (new : SeatState View) (found : Option SlotId) (now : ℕ) → now ≡ word_of found
      → Steps fits d same_view (GoneTells (ends_of d) d.shape.slots)
      (act.Look (Cell d.protocol.head)) old new (outcome.Found found)
      → now ≢ front.0 + 1
  gone_other new found now is step still =
      let by = looked d (Cell d.protocol.head) found old new step in
      let there = looked_there d (Cell d.protocol.head) found old new by in
      let before = by.walks.1.told.happened.before in
      let size : length (shows d.shape before).slots ≡ d.shape.slots =
      length_each 0 d.shape.slots (λ x. show_slot d.shape before (record { 0 = x })) in
      by.walks.1.told.happened.fact.2 (omega arith)
      (ap word_of there ∙ sym is ∙ still ∙ sym sees.nodes.head.node)
