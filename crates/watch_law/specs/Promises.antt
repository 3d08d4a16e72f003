-- What the laws promise, read off the plain state and the views.
use Rattle.std.specs.Prelude.{◌≡◌, ℕ, List, Some}
use Rattle.plain_protocol.specs.plain_state.declared.slot.SlotId.{SlotId}
use Rattle.plain_protocol.specs.plain_state.declared.slot.Stage.TheVariants.{Live}
use Rattle.plain_protocol.specs.plain_state.State.{Plain, slot_at, stage_at}
use Rattle.watch_law.specs.Views.{Address, View, IsAddressed, last}
use Rattle.watch_law.specs.Law.{IsTo}

-- the view tells that s, in the life that it has, is the observer that its seat put last into the cell of id c
abbrev pub SubscribedLast : Plain → View → ℕ → SlotId → Type 0
SubscribedLast p v c s =
    last c v.subscribed ≡ Some (record { id = c; slot = s; life = (slot_at p s).life })

-- a delivery lives, in the life in which it was given its observer
abbrev pub LivesOn : Plain → Address → Type 0
LivesOn p a = (stage_at p a.slot ≡ Live) × ((slot_at p a.slot).life ≡ a.life)

-- a view tells to whom delivery d is, now and to observer o, and it is so
pub record IsGiven (p : Plain) (views : List View) (d o : SlotId) : Type 0 where
  pub address : Address
  pub noted : IsAddressed views address
  pub slot : address.slot ≡ d
  pub life : address.life ≡ (slot_at p d).life
  pub observer : address.observer ≡ o
  pub is : IsTo p address

-- a delivery is to the same observer, which is in the same life, in both states
pub record SameObserver (p q : Plain) (a : Address) : Type 0 where
  pub first : (slot_at q a.slot).first ≡ (slot_at p a.slot).first
  pub is : (slot_at q a.slot).first ≡ Some a.observer
  pub life : (slot_at q a.observer).life ≡ (slot_at p a.observer).life
