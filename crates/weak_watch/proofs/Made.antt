-- The deeds that make an observer or a delivery are ready.
use Rattle.std.proofs.Common.{◌≡◌, ℕ, List, ap, sym, ◌∙◌, subst}
use Rattle.std.specs.Prelude.{if◌then◌else◌, Some, None}
use Rattle.control_word.specs.plain_state.declared.act.PlainAct.TheVariants as plain
use Rattle.control_word.specs.plain_state.declared.slot.SlotId.{SlotId}
use Rattle.control_word.specs.plain_protocol.Owns.{HasSlot}
use Rattle.control_word.specs.core_events.declared.view.CoreView.{CoreView}
use Rattle.control_word.specs.core_events.declared.view.Phase.{Phase}
use Rattle.control_word.specs.core_events.declared.view.Phase.TheVariants as phase
use Rattle.control_word.specs.core_events.Shows.{show_seat}
use Rattle.control_word.specs.core_events.ShownSteps.{on_slot}
use Rattle.control_word.specs.core_events.Views.{slot_of}
use Rattle.control_word.specs.domain_rule.Views.{object_in, own_of}
use Rattle.control_word.proofs.Below.domain_rule_Others.{fills_has}
use Rattle.control_word.specs.acquire_retire.Domains.{DomainState}
use Rattle.control_word.specs.acquire_retire.Seats.{SeatState}
use Rattle.part_calls.specs.slot_store.Calls.{Begins}
use Rattle.watch_protocol.specs.queue_law.Words.{payload_of, life_of}
use Rattle.watch_protocol.specs.watch_law.Making.{DeliveryReady, ObserverReady}
use Rattle.watch_protocol.specs.watch_law.Payloads.{IsDelivery, IsObserver}
use Rattle.watch_protocol.specs.watch_law.Steps.{life_in, payload_in}
use Rattle.watch_protocol.specs.watch_law.declared.view.View.{View}

-- what a seat has it knows by its own part
module _ {V : Type 0} (s : SlotId) (seat : SeatState V)
    (has : HasSlot (show_seat seat.view.core) s) where
  pub own_life : life_in (own_of seat.view) s ≡ (object_in seat.view s).life
  own_life = ap (λ b. life_of (if b then Some (object_in seat.view s) else None)) has

  pub own_payload : payload_in (own_of seat.view) s ≡ (object_in seat.view s).payload
  own_payload = ap (λ b. payload_of (if b then Some (object_in seat.view s) else None)) has

module _ {P V : Type 0} (fits : List ℕ → Type 0) (d : DomainState P) (payload : List ℕ) (s : SlotId)
    (old mid : SeatState V) (begins : Begins fits d payload s old mid) where
  blank : mid.view.core.phase ≡ phase.Blank s
  blank = ap (λ (v : CoreView). v.phase) begins.goes.becomes.core

  pub makes_it : on_slot plain.Make (slot_of mid.view.core.phase) ≡ plain.Make s
  makes_it = ap (λ (x : Phase). on_slot plain.Make (slot_of x)) blank

  pub fills_it : HasSlot (show_seat mid.view.core) s
  fills_it = fills_has s mid.view.core blank

  filled : payload_in (own_of mid.view) s ≡ payload
  filled = own_payload s mid fills_it ∙ begins.filled

  pub observer_ready : (v : View) → IsObserver payload
      → ObserverReady (own_of mid.view) v (on_slot plain.Make (slot_of mid.view.core.phase))
  observer_ready v is = record { slot = s; act_is = makes_it; is = subst IsObserver (sym filled) is }

  pub delivery_ready : (v : View) → IsDelivery payload
      → DeliveryReady (own_of mid.view) v (on_slot plain.Make (slot_of mid.view.core.phase))
  delivery_ready v is = record { slot = s; act_is = makes_it; is = subst IsDelivery (sym filled) is }
