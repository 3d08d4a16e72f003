-- What is tried again as long as the place changes under it.
use Rattle.std.specs.Prelude.{ℕ, ◌≡◌, List, [], ◌∷◌, ◌++◌, Option, Some}
use Rattle.control_word.specs.plain_state.declared.act.EventPlace.{EventPlace}
use Rattle.control_word.specs.plain_state.declared.act.PlainAct.{PlainAct}
use Rattle.control_word.specs.plain_state.declared.slot.SlotId.{SlotId}
use Rattle.control_word.specs.plain_state.State.{Plain}
use Rattle.control_word.specs.plain_protocol.Owns.{OwnPart}
use Rattle.control_word.specs.core_events.declared.view.Move.{Move}
use Rattle.control_word.specs.acquire_retire.Domains.{DomainState}
use Rattle.control_word.specs.acquire_retire.Seats.{SeatState}
use Rattle.protected_loads.specs.Loads.{Acquires, IsReadyToAcquire, Misses, missed_by}
use Rattle.protected_loads.specs.References.{Loads}

-- a try that was lost: the slot that it announced, and what the place held then
pub record Lost : Type 0 where
  pub slot : SlotId
  pub now : Option SlotId

-- All lists of tries have the newest first. The moves of these by note j, the oldest first
abbrev pub lost_by : ℕ → EventPlace → List Lost → List Move
lost_by j place [] = []
lost_by j place (t ∷ ts) = lost_by j place ts ++ missed_by j place t.slot t.now

module _ {P V : Type 0} (fits : List ℕ → Type 0) (d : DomainState P) (place : EventPlace)
    (next : OwnPart → OwnPart → V → PlainAct → ℕ → V)
    (allows : Plain → Plain → ℕ → V → V → Type 0) where
  -- the seat has lost these tries by note j, each with the deed
  abbrev pub Loses : ℕ → List Lost → SeatState V → SeatState V → Type 0
  Loses j [] old new = new ≡ old
  Loses j (t ∷ ts) old new =
      (mid : SeatState V) × Loses j ts old mid
      × Misses fits d j place next allows (Some t.slot) t.now mid new

  -- the deed is ready for an acquire by note j, and for a load, after whatever tries were lost
  abbrev pub IsReadyToReacquire : ℕ → (OwnPart → V → PlainAct → Type 0) → SeatState V → Type 0
  IsReadyToReacquire j ready old =
      (ts : List Lost) (mid : SeatState V) → Loses j ts old mid
      → IsReadyToAcquire fits d j place ready mid

  abbrev pub IsReadyToRetry : (OwnPart → V → PlainAct → Type 0) → SeatState V → Type 0
  IsReadyToRetry = IsReadyToReacquire 0

  -- it has lost some tries by note j, by which only its trail has grown, and the last one went so
  pub record AtLast (j : ℕ) (Goes : SeatState V → SeatState V → Type 0) (old new : SeatState V)
      : Type 0 where
    pub lost : List Lost
    pub mid : SeatState V
    pub loses : Loses j lost old mid
    pub core :
        mid.view.core
        ≡ record old.view.core { trail = old.view.core.trail ++ lost_by j place lost }
    pub cleared : mid.view.cleared ≡ old.view.cleared
    pub goes : Goes mid new

  -- at the last try it found null or gained a reference
  abbrev pub LoadsAtLast : Option SlotId → SeatState V → SeatState V → Type 0
  LoadsAtLast found = AtLast 0 (Loads fits d place next allows found)

  -- at the last try it found null or protected what the place held
  abbrev pub AcquiresAtLast : ℕ → Option SlotId → SeatState V → SeatState V → Type 0
  AcquiresAtLast j found = AtLast j (Acquires fits d j place next allows found)
