-- The law of observers in the weak cells of their ids, and of deliveries to them.
use Rattle.std.specs.Prelude.{◌≡◌, ℕ, ◌+◌, ◌<◌, ◌≤◌, true, List, slice_index_or, Option, Some, None}
use Rattle.plain_protocol.specs.plain_state.declared.slot.SlotId.{SlotId}
use Rattle.plain_protocol.specs.plain_state.declared.slot.Stage.TheVariants.{Live}
use Rattle.plain_protocol.specs.plain_state.State.{Plain, slot_at, stage_at}
use Rattle.plain_protocol.specs.Calm.{IsMade}
use Rattle.watch_law.specs.Payloads.{IsObserver, IsDelivery, IsOwn, IsObserverOf, told}
use Rattle.watch_law.specs.Views.{Made, Subscribed, Address, View, view_at, IsAddressed, WasRead, last}

-- the range of weak cells, one for each id, and the seat of each id
pub record Area : Type 0 where
  pub first : ℕ
  pub cells : ℕ
  pub owners : List ℕ

abbrev pub area : ℕ → ℕ → List ℕ → Area
area first cells owners = record { first = first; cells = cells; owners = owners }

-- what the cell of id c holds
abbrev pub cell : Area → Plain → ℕ → Option SlotId
cell z p c = slice_index_or p.weak_cells (z.first + c) None

-- the seat of id c: seat 0 where none is named
abbrev pub owner : Area → ℕ → ℕ
owner z c = slice_index_or z.owners c 0

-- the cell of id c holds the observer that its seat put there last, in its life; null where it put none there
abbrev pub KnowsCell : Area → Plain → ℕ → Option Subscribed → Type 0
KnowsCell z p c None = cell z p c ≡ None
KnowsCell z p c (Some e) = (cell z p c ≡ Some e.slot) × ((slot_at p e.slot).life ≡ e.life)

-- field 0 of the delivery holds the observer, which is in this life and has this id
pub record IsTo (p : Plain) (a : Address) : Type 0 where
  pub delivery : IsDelivery (slot_at p a.slot).payload
  pub event : told (slot_at p a.slot).payload ≡ a.event
  pub first : (slot_at p a.slot).first ≡ Some a.observer
  pub life : (slot_at p a.observer).life ≡ a.observer_life
  pub observer : IsObserverOf a.id (slot_at p a.observer).payload

-- the delivery's life has begun, and as long as it lives in it, it is to this observer
pub record Holds (p : Plain) (a : Address) : Type 0 where
  pub begun : a.life ≤ (slot_at p a.slot).life
  pub holds : stage_at p a.slot ≡ Live → (slot_at p a.slot).life ≡ a.life → IsTo p a

-- a delivery that a seat made is to nobody yet
pub record Fresh (p : Plain) (views : List View) (e : Made) : Type 0 where
  pub begun : e.life ≤ (slot_at p e.slot).life
  pub null :
      stage_at p e.slot ≡ Live → (slot_at p e.slot).life ≡ e.life
      → IsDelivery (slot_at p e.slot).payload × ((slot_at p e.slot).first ≡ None)
  pub loose : (a : Address) → IsAddressed views a → a.slot ≡ e.slot → a.life ≡ e.life → ⊥

-- a view tells that delivery d was given observer o in life l
pub record IsNotedAs (views : List View) (d : SlotId) (l : ℕ) (o : SlotId) : Type 0 where
  pub address : Address
  pub noted : IsAddressed views address
  pub slot : address.slot ≡ d
  pub life : address.life ≡ l
  pub observer : address.observer ≡ o

-- no field is set but field 0 of a delivery
pub record IsBare (p : Plain) (s : SlotId) : Type 0 where
  pub second : (slot_at p s).second ≡ None
  pub weak_field : (slot_at p s).weak_field ≡ None
  pub first : IsObserver (slot_at p s).payload → (slot_at p s).first ≡ None

pub record WatchLaw (z : Area) (p : Plain) (views : List View) : Type 0 where
  -- a cell is null, or refers to an observer with its id, alive or not
  pub cells :
      (c : ℕ) (s : SlotId) → c < z.cells → cell z p c ≡ Some s
      → IsMade (stage_at p s) × IsObserverOf c (slot_at p s).payload
  -- the seat of an id knows what its cell holds
  pub own_cells :
      (n c : ℕ) → (view_at views n).here ≡ true → c < z.cells → owner z c ≡ n
      → KnowsCell z p c (last c (view_at views n).subscribed)
  pub number : (n : ℕ) → (view_at views n).here ≡ true → (view_at views n).number ≡ n
  -- a delivery that was made is one seat's own, until it is addressed
  pub fresh : (n : ℕ) → 0 < (view_at views n).made.life → Fresh p views (view_at views n).made
  pub apart :
      (n m : ℕ) → 0 < (view_at views n).made.life
      → (view_at views n).made.slot ≡ (view_at views m).made.slot
      → (view_at views n).made.life ≡ (view_at views m).made.life → n ≡ m
  -- from then on it is to one observer, as long as it lives
  pub addressed : (a : Address) → IsAddressed views a → Holds p a
  pub once :
      (a b : Address) → IsAddressed views a → IsAddressed views b → a.slot ≡ b.slot
      → a.life ≡ b.life → a ≡ b
  pub fields :
      (d o : SlotId) → stage_at p d ≡ Live → IsDelivery (slot_at p d).payload
      → (slot_at p d).first ≡ Some o → IsNotedAs views d (slot_at p d).life o
  pub bare : (s : SlotId) → stage_at p s ≡ Live → IsOwn (slot_at p s).payload → IsBare p s
  -- what a seat found in a delivery is what the delivery was given
  pub read : (a : Address) → WasRead views a → IsAddressed views a
