-- How a seat takes a snapshot of what a place holds.
use Rattle.std.specs.Prelude.{ℕ, ◌≡◌, List, Option, Some, None}
use Rattle.protected_loads.specs.plain_state.declared.act.EventPlace.{EventPlace}
use Rattle.protected_loads.specs.plain_state.declared.act.PlainAct.{PlainAct}
use Rattle.protected_loads.specs.plain_state.declared.slot.SlotId.{SlotId}
use Rattle.protected_loads.specs.plain_state.State.{Plain}
use Rattle.protected_loads.specs.plain_protocol.Owns.{OwnPart}
use Rattle.protected_loads.specs.core_events.declared.view.CoreView.{CoreView}
use Rattle.protected_loads.specs.acquire_retire.Domains.{DomainState}
use Rattle.protected_loads.specs.acquire_retire.Notes.{least_free}
use Rattle.protected_loads.specs.acquire_retire.Seats.{SeatState}
use Rattle.protected_loads.specs.control_word.Resting.{IsSpent}
use Rattle.protected_loads.specs.Loads.{Acquires, IsReadyToAcquire}
use Rattle.protected_loads.specs.References.{Loads}
use Rattle.protected_loads.specs.Retries.{IsReadyToReacquire}

-- all three words are in use, and no add is left
abbrev pub CanTakeNone : CoreView → Type 0
CanTakeNone v = (least_free v ≡ None) × IsSpent v

-- the word that announces what was found: that which the snapshot takes, else the first, from where
-- a reference is counted
abbrev pub word_taken : Option ℕ → ℕ
word_taken None = 0
word_taken (Some j) = j

module _ {P V : Type 0} (fits : List ℕ → Type 0) (d : DomainState P) (place : EventPlace) where
  -- the deed is ready for the look, and for the check of whatever was found and announced
  abbrev pub IsReadyToTake : (OwnPart → V → PlainAct → Type 0) → SeatState V → Type 0
  IsReadyToTake ready old =
      IsReadyToAcquire fits d (word_taken (least_free old.view.core)) place ready old

  module _ (next : OwnPart → OwnPart → V → PlainAct → ℕ → V)
      (allows : Plain → Plain → ℕ → V → V → Type 0) where
    -- the same after whatever tries were lost
    abbrev pub IsReadyToRetake : (OwnPart → V → PlainAct → Type 0) → SeatState V → Type 0
    IsReadyToRetake ready old =
        IsReadyToReacquire fits d place next allows (word_taken (least_free old.view.core)) ready
        old

    -- it found null, or protects by the word what the place held, and where there is no word it
    -- has gained a reference to it
    abbrev pub Takes : Option ℕ → Option SlotId → SeatState V → SeatState V → Type 0
    Takes None found = Loads fits d place next allows found
    Takes (Some j) found = Acquires fits d j place next allows found
