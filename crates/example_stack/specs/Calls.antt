-- What the calls on a stack ask of a seat, and what they leave.
use Rattle.std.specs.Prelude.{ℕ, ◌≡◌, ◌<◌, ◌≤◌, ◌+◌, ◌⊎◌, List, [], ◌∷◌, ◌++◌, Option, Some, None}
use Rattle.cdrc.specs.plain_state.declared.act.EventPlace.{EventPlace}
use Rattle.cdrc.specs.plain_state.declared.act.PlainAct.{PlainAct}
use Rattle.cdrc.specs.plain_state.declared.slot.SlotId.{SlotId}
use Rattle.cdrc.specs.plain_state.Lists.{times}
use Rattle.cdrc.specs.plain_protocol.Owns.{OwnPart}
use Rattle.cdrc.specs.core_events.declared.view.CoreView.{CoreView}
use Rattle.cdrc.specs.core_events.Steps.{IsContent}
use Rattle.cdrc.specs.core_events.Words.{slot_in}
use Rattle.cdrc.specs.control_word.Resting.{IsSpent}
use Rattle.cdrc.specs.counted_handles.declared.refusal.LoadError.{LoadError}
use Rattle.cdrc.specs.counted_handles.declared.refusal.LoadError.TheVariants as refused
use Rattle.cdrc.specs.protected_loads.Loads.{FindsNull, Misses}
use Rattle.cdrc.specs.protected_loads.References.{Loads}
use Rattle.cdrc.specs.retiring_stores.Exchanging.{Loses}
use Rattle.cdrc.specs.counted_handles.declared.place.Place.{Place}
use Rattle.cdrc.specs.counted_handles.declared.place.Place.TheVariants as place
use Rattle.cdrc.specs.domain_rule.Views.{object_in, own_of}
use Rattle.cdrc.specs.acquire_retire.Domains.{DomainState}
use Rattle.cdrc.specs.acquire_retire.Seats.{SeatState}
use Rattle.example_stack.specs.Views.{View}
use Rattle.example_stack.specs.Deeds.{SawIt, SeeTells, TellsNothing, see_next}
use Rattle.example_stack.specs.Leaving.{TrailGoesOn, with_found}

-- the seat owns a reference to a node
abbrev pub HasNode : (List ℕ → Type 0) → SlotId → SeatState View → Type 0
HasNode kind s seat =
    (0 < times s seat.view.core.owned) × kind (object_in seat.view s).payload

-- the place is the stack's cell, or field 0 of a node that the seat owns
abbrev pub IsPlaceOf : ℕ → (List ℕ → Type 0) → SeatState View → Place → Type 0
IsPlaceOf cell kind seat (place.Cell i) = i ≡ cell
IsPlaceOf cell kind seat (place.Field x i) = (i ≡ 0) × HasNode kind x seat

-- at most one add is left
abbrev pub HasFewAdds : CoreView → Type 0
HasFewAdds v = v.quota.adds ≤ v.adds + 1

-- the found slot, if it isn't null, holds a node
abbrev pub IsNodeOf : (List ℕ → Type 0) → Option SlotId → SeatState View → Type 0
IsNodeOf kind None seat = Unit {0}
IsNodeOf kind (Some s) seat = kind (object_in seat.view s).payload

-- The seat found null, or owns a reference to the node that it found, whose value it saw in the stack.
pub record Sees {P : Type 0} (kind : List ℕ → Type 0) (d : DomainState P) (found : Option SlotId)
    (old new : SeatState View) : Type 0 where
  pub owned : new.view.core.owned ≡ with_found found old.view.core.owned
  pub node : IsNodeOf kind found new
  pub saw : SawIt (own_of new.view) new.view.client found
  pub there : IsContent d.shape found
  pub spent : IsSpent new.view.core → HasFewAdds old.view.core

-- where it found null, that was at its look at the place, and its only step
abbrev pub IsNullAt : {P : Type 0} → (List ℕ → Type 0) → DomainState P → EventPlace
    → Option SlotId → SeatState View → SeatState View → Type 0
IsNullAt kind d place None old new = FindsNull kind d place see_next (SeeTells kind) old new
IsNullAt kind d place (Some s) old new = Unit {0}

module _ {P : Type 0} (kind : List ℕ → Type 0) (d : DomainState P) where
  -- Between these two states of the seat a load found `seen` in a place, and its check found another
  -- content there, `now`.
  pub record Passes (place : EventPlace) (seen now : Option SlotId) (old new : SeatState View)
      : Type 0 where
    pub mid : SeatState View
    pub late : SeatState View
    pub since : TrailGoesOn old mid
    pub misses : Misses kind d 0 place see_next (SeeTells kind) seen now mid late
    pub till : TrailGoesOn late new

  -- Between these two states of the seat a compare and exchange that expected `seen` in a place
  -- found another content there, `now`.
  pub record LosesAt (place : EventPlace) (seen now : Option SlotId) (old new : SeatState View)
      : Type 0 where
    pub mid : SeatState View
    pub late : SeatState View
    pub next : OwnPart → OwnPart → View → PlainAct → ℕ → View
    pub given : Option SlotId
    pub since : TrailGoesOn old mid
    pub loses : Loses kind d next TellsNothing place given seen now mid late
    pub till : TrailGoesOn late new

  -- Between these two states a load found `seen` in a place, and a later compare and exchange that
  -- expected it found another content there, `now`.
  pub record LosesAfter (place : EventPlace) (seen now : Option SlotId) (old new : SeatState View)
      : Type 0 where
    pub start : SeatState View
    pub first : SeatState View
    pub since : TrailGoesOn old start
    pub loads : Loads kind d place see_next (SeeTells kind) seen start first
    pub loses : LosesAt place seen now first new

  -- A place of the stack was found to hold `seen`, and then another content, `now`, by two steps of
  -- the seat between these two states.
  abbrev pub Changes : ℕ → ℕ → SeatState View → SeatState View → Type 0
  Changes seen now old new =
      (place : EventPlace)
      × (Passes place (slot_in seen) (slot_in now) old new
      ⊎ LosesAfter place (slot_in seen) (slot_in now) old new)

  -- why an exchange that expected this in a place was lost
  abbrev pub IsWhyLost : EventPlace → Option SlotId → LoadError → SeatState View → SeatState View
      → Type 0
  IsWhyLost place expected refused.Spent old new = ⊥
  IsWhyLost place expected (refused.Moved seen now) old new =
      (slot_in seen ≡ expected) × LosesAt place expected (slot_in now) old new

  -- why a call was refused: the seat was spent, or a place has changed meanwhile
  abbrev pub IsWhy : Type 0 → LoadError → SeatState View → SeatState View → Type 0
  IsWhy spent refused.Spent old new = spent
  IsWhy spent (refused.Moved seen now) old new = Changes seen now old new

-- a view that has pushed one value more; that has popped one value more
abbrev pub pushed_too : List ℕ → View → View
pushed_too value v = record v { pushed = v.pushed ++ value ∷ [] }

abbrev pub popped_too : List ℕ → View → View
popped_too value v = record v { popped = v.popped ++ value ∷ [] }

-- the stack was empty; or the seat owns the node that was the top, and has popped its value
abbrev pub Pops : (List ℕ → Type 0) → Option SlotId → SeatState View → SeatState View → Type 0
Pops kind None old new = new.view.client.popped ≡ old.view.client.popped
Pops kind (Some s) old new =
    HasNode kind s new
    × (new.view.client.popped ≡ old.view.client.popped ++ (object_in new.view s).payload ∷ [])
