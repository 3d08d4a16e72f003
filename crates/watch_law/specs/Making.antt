-- The deeds that make observers and deliveries: when each is ready, what the view is afterwards, and what is told.
use Rattle.std.specs.Prelude.{◌≡◌, ℕ, ◌+◌}
use Rattle.plain_protocol.specs.plain_state.declared.act.PlainAct.{PlainAct}
use Rattle.plain_protocol.specs.plain_state.declared.act.PlainAct.TheVariants as act
use Rattle.plain_protocol.specs.plain_state.declared.slot.SlotId.{SlotId}
use Rattle.plain_protocol.specs.plain_state.State.{Plain}
use Rattle.plain_protocol.specs.Owns.{OwnPart}
use Rattle.watch_law.specs.Payloads.{IsObserver, IsDelivery}
use Rattle.watch_law.specs.Views.{View}
use Rattle.watch_law.specs.Steps.{life_in, payload_in, made_slot}

-- MAKE OBSERVER. The slot that the seat is filling, whichever it is, becomes an observer
pub record ObserverReady (own : OwnPart) (v : View) (step : PlainAct) : Type 0 where
  pub slot : SlotId
  pub act_is : step ≡ act.Make slot
  pub is : IsObserver (payload_in own slot)

abbrev pub observer_next : OwnPart → OwnPart → View → PlainAct → ℕ → View
observer_next own after v step found = v

abbrev pub ObserverTells : Plain → Plain → ℕ → View → View → Type 0
ObserverTells p q n v w = w ≡ v

-- MAKE DELIVERY. It becomes a delivery, which the seat notes as its own, in the life that begins
pub record DeliveryReady (own : OwnPart) (v : View) (step : PlainAct) : Type 0 where
  pub slot : SlotId
  pub act_is : step ≡ act.Make slot
  pub is : IsDelivery (payload_in own slot)

abbrev pub delivery_next : OwnPart → OwnPart → View → PlainAct → ℕ → View
delivery_next own after v step found = record v {
  made = record { slot = made_slot step; life = life_in own (made_slot step) + 1 };
}

-- nobody has got a delivery by that
abbrev pub DeliveryTells : Plain → Plain → ℕ → View → View → Type 0
DeliveryTells p q n v w = w.addressed ≡ v.addressed
