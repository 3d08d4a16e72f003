-- The deeds that put an observer into a cell, and into a delivery.
use Rattle.std.specs.Prelude.{◌≡◌, ℕ, ◌+◌, ◌<◌, true, [], ◌∷◌, ◌++◌, Some}
use Rattle.plain_protocol.specs.plain_state.declared.act.EventPlace.TheVariants.{Field, WeakCell}
use Rattle.plain_protocol.specs.plain_state.declared.act.PlainAct.{PlainAct}
use Rattle.plain_protocol.specs.plain_state.declared.act.PlainAct.TheVariants as act
use Rattle.plain_protocol.specs.plain_state.declared.slot.SlotId.{SlotId}
use Rattle.plain_protocol.specs.plain_state.Lists.{times}
use Rattle.plain_protocol.specs.plain_state.State.{Plain, slot_at}
use Rattle.plain_protocol.specs.Owns.{OwnPart}
use Rattle.watch_law.specs.Payloads.{IsObserver, IsObserverOf}
use Rattle.watch_law.specs.Views.{Address, View, no_made}
use Rattle.watch_law.specs.Law.{Area, cell, owner, IsTo}
use Rattle.watch_law.specs.Steps.{life_in, payload_in, address_by}

-- SUBSCRIBE. The cell of an id of the seat's gets observer s, which has this id and which the seat owns
pub record SubscribeReady (z : Area) (c : ℕ) (s : SlotId) (own : OwnPart) (v : View)
    (step : PlainAct) : Type 0 where
  pub act_is : step ≡ act.Replace (WeakCell (z.first + c)) (Some s)
  pub inside : c < z.cells
  pub here : v.here ≡ true
  pub seat : owner z c ≡ v.number
  pub owned : 0 < times s own.seat.owned
  pub is : IsObserverOf c (payload_in own s)

abbrev pub subscribe_next : ℕ → SlotId → OwnPart → OwnPart → View → PlainAct → ℕ → View
subscribe_next c s own after v step found = record v {
  subscribed = record { id = c; slot = s; life = life_in own s } ∷ v.subscribed;
}

-- the observer stands in the cell
abbrev pub SubscribeTells : Area → ℕ → SlotId → Plain → Plain → ℕ → View → View → Type 0
SubscribeTells z c s p q n v w = cell z q c ≡ Some s

-- ADDRESS. Field 0 of the delivery that the seat made last gets observer o. The seat has the delivery in the life that
-- it noted, so nobody has got it yet
pub record AddressReady (d o : SlotId) (own : OwnPart) (v : View) (step : PlainAct) : Type 0 where
  pub act_is : step ≡ act.Replace (Field d 0) (Some o)
  pub made : v.made.slot ≡ d
  pub some : 0 < v.made.life
  pub life : life_in own d ≡ v.made.life
  pub observer : IsObserver (payload_in own o)

abbrev pub address_next : SlotId → SlotId → OwnPart → OwnPart → View → PlainAct → ℕ → View
address_next d o own after v step found = record v {
  made = no_made;
  addressed = v.addressed ++ address_by own d (own.objects o) o ∷ [];
}

-- one address more is noted, and it is so
pub record AddressTells (d o : SlotId) (p q : Plain) (n : ℕ) (v w : View) : Type 0 where
  pub address : Address
  pub noted : w.addressed ≡ v.addressed ++ address ∷ []
  pub is : IsTo q address
  pub slot : address.slot ≡ d
  pub observer : address.observer ≡ o
  pub life : address.life ≡ (slot_at p d).life
