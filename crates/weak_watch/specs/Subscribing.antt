-- What a seat does that subscribes an observer, what its view tells then, and why it didn't.
use Rattle.std.specs.Prelude.{ℕ, ◌≡◌, ◌⊎◌, ◌+◌, List, ◌∷◌, Some}
use Rattle.part_calls.specs.acquire_retire.Domains.{DomainState}
use Rattle.part_calls.specs.acquire_retire.Seats.{SeatState}
use Rattle.part_calls.specs.control_word.Calls.{DropsStrong, GainsWeak}
use Rattle.part_calls.specs.control_word.Resting.{IsSpent}
use Rattle.part_calls.specs.core_events.declared.view.CoreView.{CoreView}
use Rattle.part_calls.specs.domain_rule.Views.{object_in}
use Rattle.part_calls.specs.plain_state.declared.act.EventPlace.TheVariants.{WeakCell}
use Rattle.part_calls.specs.plain_state.declared.slot.SlotId.{SlotId}
use Rattle.part_calls.specs.slot_store.Calls.{HasNoMake, Makes}
use Rattle.part_calls.specs.slot_store.declared.making.MakeError.{MakeError}
use Rattle.part_calls.specs.slot_store.declared.making.MakeError.TheVariants as refused
use Rattle.part_calls.specs.slot_store.Searching.{Misses}
use Rattle.weak_part_calls.specs.retiring_stores.Exchanging.{Stores}
use Rattle.watch_protocol.specs.declared.law.WatchLaw.{WatchLaw}
use Rattle.watch_protocol.specs.Sides.{area_of}
use Rattle.watch_protocol.specs.watch_law.Making.{ObserverTells, observer_next}
use Rattle.watch_protocol.specs.watch_law.declared.view.View.{View}
use Rattle.watch_protocol.specs.watch_law.Writes.{SubscribeTells, subscribe_next}
use Rattle.weak_watch.specs.Subjects.{words}

-- the seat may make an object
abbrev pub CanMake : CoreView → Type 0
CanMake v = (HasNoMake v → ⊥) × (IsSpent v → ⊥)

-- a view that has put s, in the life in which the seat has it, into the cell of id c, and nothing else
abbrev pub subscribed_in : ℕ → SlotId → SeatState View → View → View
subscribed_in c s seat v = record v {
  subscribed = record { id = c; slot = s; life = (object_in seat.view s).life } ∷ v.subscribed;
}

module _ (fits : List ℕ → Type 0) (d : DomainState WatchLaw) where
  -- It made an observer with this id in s.
  abbrev pub MakesObserver : ℕ → SlotId → SeatState View → SeatState View → Type 0
  MakesObserver c s = Makes fits d observer_next ObserverTells (words 1 c) s

  -- It counted a weak reference to s, and put that into the cell of the id.
  pub record SetsCell (c : ℕ) (s : SlotId) (old new : SeatState View) : Type 0 where
    pub counted : SeatState View
    pub counts : GainsWeak fits d s old counted
    pub stores :
        Stores fits d (subscribe_next c s) (SubscribeTells (area_of d.protocol) c s)
        (WeakCell (d.protocol.first + c)) (Some s) counted new

  -- It made an observer and put it into the cell, as no increment found the adds used up.
  pub record Subscribes (c : ℕ) (s : SlotId) (old new : SeatState View) : Type 0 where
    pub can : CanMake old.view.core
    pub made : SeatState View
    pub makes : MakesObserver c s old made
    pub one_more : IsSpent made.view.core → ⊥
    pub sets : SetsCell c s made new

  -- It made an observer, found no add left for the weak reference, and gave the observer up.
  pub record GivesUp (c : ℕ) (old new : SeatState View) : Type 0 where
    pub can : CanMake old.view.core
    pub slot : SlotId
    pub made : SeatState View
    pub makes : MakesObserver c slot old made
    pub spent : IsSpent made.view.core
    pub drops : DropsStrong fits d slot made new

  -- why nothing was made: no make was left, or no add, or each slot was found taken
  abbrev pub IsWhyUnmade : MakeError → SeatState View → SeatState View → Type 0
  IsWhyUnmade refused.MakesSpent old new = HasNoMake old.view.core × (new ≡ old)
  IsWhyUnmade refused.AddsSpent old new =
      (HasNoMake old.view.core → ⊥) × IsSpent old.view.core × (new ≡ old)
  IsWhyUnmade refused.Full old new = CanMake old.view.core × Misses fits d old new

  -- why nothing was subscribed: nothing was made, or the observer was given up
  abbrev pub IsWhyNot : ℕ → MakeError → SeatState View → SeatState View → Type 0
  IsWhyNot c why old new =
      IsWhyUnmade why old new ⊎ ((why ≡ refused.AddsSpent) × GivesUp c old new)
