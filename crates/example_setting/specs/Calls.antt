-- What a read and a store leave of a seat.
use Rattle.std.specs.Prelude.{ℕ, ◌≡◌, ◌<◌, List, [], ◌∷◌, ◌++◌, Option, Some, None}
use Rattle.cdrc.specs.plain_state.declared.act.EventPlace.TheVariants.{Cell}
use Rattle.cdrc.specs.plain_state.declared.slot.SlotId.{SlotId}
use Rattle.cdrc.specs.plain_state.Lists.{times}
use Rattle.cdrc.specs.core_events.declared.act.Act.TheVariants as act
use Rattle.cdrc.specs.core_events.declared.act.Event.{Event}
use Rattle.cdrc.specs.core_events.Runs.{Core, History}
use Rattle.cdrc.specs.domain_rule.Past.{GoesOnFrom}
use Rattle.cdrc.specs.domain_rule.Views.{object_in}
use Rattle.cdrc.specs.acquire_retire.Calls.{IsSameView, same_view}
use Rattle.cdrc.specs.acquire_retire.Domains.{DomainState}
use Rattle.cdrc.specs.acquire_retire.Notes.{least_free}
use Rattle.cdrc.specs.acquire_retire.Seats.{SeatState}
use Rattle.cdrc.specs.claim_law.Claims.{makes_given}
use Rattle.cdrc.specs.control_word.Resting.{IsSpent}
use Rattle.cdrc.specs.place_history.Puts.{WasPut}
use Rattle.cdrc.specs.protected_loads.Loads.{Misses}
use Rattle.cdrc.specs.retiring_stores.Exchanging.{Stores}
use Rattle.cdrc.specs.slot_store.Calls.{HasNoMake, Makes}
use Rattle.cdrc.specs.slot_store.Searching as searching
use Rattle.cdrc.specs.slot_store.declared.making.MakeError.{MakeError}
use Rattle.cdrc.specs.slot_store.declared.making.MakeError.TheVariants as unmade
use Rattle.cdrc.specs.snapshot_ptr.Handles.{Snap}
use Rattle.cdrc.specs.snapshot_ptr.Taking.{Takes, word_taken}
use Rattle.example_setting.specs.Views.{View}
use Rattle.example_setting.specs.Deeds.{ReadTells, StoreTells, read_next, store_next}

-- a view that has read one value more
abbrev pub read_too : List ℕ → View → View
read_too value v = record v { read = v.read ++ value ∷ [] }

-- a seat that had the view v read nothing where the cell was null, else the value of the object that it
-- is under a snapshot of
abbrev pub Reads : Option Snap → View → SeatState View → Type 0
Reads None v new = new.view.client ≡ v
Reads (Some snap) v new = new.view.client ≡ read_too (object_in new.view snap.slot).payload v

-- at its check the cell held another content than at its look
abbrev pub Moves : {P : Type 0} → (List ℕ → Type 0) → DomainState P → ℕ → Option SlotId
    → Option SlotId → SeatState View → SeatState View → Type 0
Moves kind d cell seen now old new =
    Misses kind d (word_taken (least_free old.view.core)) (Cell cell) read_next (ReadTells cell)
    seen now old new

-- it owns each slot as often as before
abbrev pub OwnsAsMuch : SeatState View → SeatState View → Type 0
OwnsAsMuch old new =
    (x : SlotId) → times x new.view.core.owned ≡ times x old.view.core.owned

-- What the seat found in slot s was put into the cell. The history of its check of the cell goes on from
-- its own past. By an event of that history a seat put s there, with the payload that this seat knows
-- now, and until the check the cell has held it.
pub record WasPutThere {P : Type 0} (d : DomainState P) (cell : ℕ) (s : SlotId)
    (old new : SeatState View) : Type 0 where
  pub word : ℕ
  pub events : List Event
  pub core : Core
  pub history : History d.shape d.terms events core
  pub since : GoesOnFrom old.view.past events
  pub checked :
      GoesOnFrom (record { seat = old.view.core.seat; act = act.Check word (Cell cell) } ∷ events)
      new.view.past
  pub put : WasPut d.shape d.terms events core cell s (object_in new.view s).payload

module _ {P : Type 0} (kind : List ℕ → Type 0) (d : DomainState P) where
  -- its look at the cell found null, or it came under a snapshot of what the cell held at its check
  abbrev pub TakesFrom : ℕ → Option SlotId → SeatState View → SeatState View → Type 0
  TakesFrom cell found old new =
      Takes kind d (Cell cell) read_next (ReadTells cell) (least_free old.view.core) found old new

  -- it made an object of the value, and one exchange put the reference to that into the cell
  pub record StoresValue (cell : ℕ) (value : List ℕ) (old new : SeatState View) : Type 0 where
    pub slot : SlotId
    pub made : SeatState View
    pub makes : Makes kind d same_view IsSameView value slot old made
    pub stores : Stores kind d store_next (StoreTells cell) (Cell cell) (Some slot) made new

  -- Why it stored nothing: it had no make left; else it had no add left; or it found each slot taken, in a domain that
  -- was given more makes than it has slots.
  abbrev pub IsWhyUnmade : MakeError → SeatState View → SeatState View → Type 0
  IsWhyUnmade unmade.MakesSpent old new = HasNoMake old.view.core × (new ≡ old)
  IsWhyUnmade unmade.AddsSpent old new =
      (HasNoMake old.view.core → ⊥) × IsSpent old.view.core × (new ≡ old)
  IsWhyUnmade unmade.Full old new =
      searching.Misses kind d old new × (d.shape.slots < makes_given d.terms)
