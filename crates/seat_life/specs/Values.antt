-- Values in strong places: whole payloads, stored and read in one call.
use Rattle.std.specs.Prelude.{ℕ, ◌≡◌, List, Option, Some, None}
use Rattle.domain_audit.specs.plain_state.declared.act.EventPlace.{EventPlace}
use Rattle.domain_audit.specs.plain_state.declared.act.PlainAct.{PlainAct}
use Rattle.domain_audit.specs.plain_state.declared.slot.SlotId.{SlotId}
use Rattle.domain_audit.specs.plain_state.State.{Plain}
use Rattle.domain_audit.specs.plain_protocol.Owns.{OwnPart}
use Rattle.domain_audit.specs.core_events.declared.act.Act.TheVariants as act
use Rattle.domain_audit.specs.domain_rule.Views.{object_in}
use Rattle.domain_audit.specs.acquire_retire.Calls.{IsReady}
use Rattle.domain_audit.specs.acquire_retire.Domains.{DomainState}
use Rattle.domain_audit.specs.acquire_retire.Notes.{least_free}
use Rattle.domain_audit.specs.acquire_retire.Seats.{SeatState}
use Rattle.domain_audit.specs.protected_loads.Retries.{AtLast}
use Rattle.domain_audit.specs.slot_store.Calls.{Makes}
use Rattle.domain_audit.specs.slot_store.retiring_stores.Exchanging.{Stores}
use Rattle.payload_reading.specs.Reading.{SeesPayload}
use Rattle.snapshot_ptr.specs.Ending.{Ends}
use Rattle.snapshot_ptr.specs.Handles.{Snap}
use Rattle.snapshot_ptr.specs.Taking.{Takes, word_taken}

module _ {P V : Type 0} (fits : List ℕ → Type 0) (d : DomainState P) where
  module _ (making : OwnPart → OwnPart → V → PlainAct → ℕ → V)
      (made : Plain → Plain → ℕ → V → V → Type 0) (payload : List ℕ) where
    -- the deed of the store is ready whatever object the make has made
    abbrev pub IsReadyToStore : EventPlace → (OwnPart → V → PlainAct → Type 0) → SeatState V
        → Type 0
    IsReadyToStore p ready old =
        (s : SlotId) (mid : SeatState V) → Makes fits d making made payload s old mid
        → IsReady ready d.shape (act.Swap p (Some s)) mid.view

    -- the seat made an object of the payload, and one exchange put its reference into the place
    pub record StoresValue (storing : OwnPart → OwnPart → V → PlainAct → ℕ → V)
        (stored : Plain → Plain → ℕ → V → V → Type 0) (p : EventPlace) (old new : SeatState V)
        : Type 0 where
      pub slot : SlotId
      pub mid : SeatState V
      pub makes : Makes fits d making made payload slot old mid
      pub stores : Stores fits d storing stored p (Some slot) mid new

  module _ (next : OwnPart → OwnPart → V → PlainAct → ℕ → V)
      (allows : Plain → Plain → ℕ → V → V → Type 0) (p : EventPlace) where
    -- at its last try it found the place null, or came under a snapshot of what the place held
    abbrev pub TakesAtLast : Option SlotId → SeatState V → SeatState V → Type 0
    TakesAtLast found old new =
        AtLast fits d p next allows (word_taken (least_free old.view.core))
        (Takes fits d p next allows (least_free old.view.core) found) old new

    -- It came under a snapshot of what the place held, read the payload of that object word by word, which is what it
    -- knows of it, and ended the snapshot.
    pub record ReadsThere (payload : List ℕ) (old new : SeatState V) : Type 0 where
      pub snap : Snap
      pub taken : SeatState V
      pub read : SeatState V
      pub takes : TakesAtLast (Some snap.slot) old taken
      pub is : payload ≡ (object_in taken.view snap.slot).payload
      pub sees : SeesPayload fits d snap.slot payload taken read
      pub ends : Ends fits d snap read new

    -- it read the payload of the object that the place held, or found the place null
    abbrev pub ReadsValue : Option (List ℕ) → SeatState V → SeatState V → Type 0
    ReadsValue None old new = TakesAtLast None old new
    ReadsValue (Some payload) old new = ReadsThere payload old new
