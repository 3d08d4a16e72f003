-- A pop that reads a field of the item with a deed of its caller's: what the deed has to be, and what becomes of the
-- client's view beside the queue.
use Rattle.std.specs.Prelude.{ℕ, ◌≡◌, ◌⊎◌, List, Option, Some, None, Result, Ok, Err, IfSome}
use Rattle.queue_protocol.specs.plain_state.declared.act.EventPlace.TheVariants.{Field}
use Rattle.queue_protocol.specs.plain_state.declared.act.PlainAct.{PlainAct}
use Rattle.queue_protocol.specs.plain_state.declared.act.PlainAct.TheVariants as act
use Rattle.queue_protocol.specs.plain_state.declared.slot.SlotId.{SlotId}
use Rattle.queue_protocol.specs.plain_state.Places.{HoldsStrongly}
use Rattle.queue_protocol.specs.plain_state.State.{Plain}
use Rattle.queue_protocol.specs.plain_protocol.Owns.{OwnPart}
use Rattle.queue_protocol.specs.queue_law.Views.{first_view}
use Rattle.queue_protocol.specs.queue_law.declared.view.View.{View}
use Rattle.slot_store.specs.acquire_retire.Domains.{DomainState}
use Rattle.slot_store.specs.acquire_retire.Seats.{SeatState}
use Rattle.slot_store.specs.counted_handles.Handles.{Handle}
use Rattle.slot_store.specs.counted_handles.declared.refusal.LoadError.{LoadError}
use Rattle.slot_store.specs.domain_rule.Views.{object_in}
use Rattle.part_calls.specs.atomic_shared.Places.{named}
use Rattle.part_calls.specs.protected_loads.Loads.{Misses}
use Rattle.part_calls.specs.protected_loads.References.{Loads}
use Rattle.part_calls.specs.Parts.{HasBeside}
use Rattle.linked_queue.specs.Leaving.{TrailGoesOn}

-- a look at field f of a slot, or a check of an announcement there
abbrev pub ReadsField : SlotId → ℕ → PlainAct → Type 0
ReadsField s f step = (step ≡ act.Look (Field s f)) ⊎ ((j : ℕ) × (step ≡ act.Check j (Field s f)))

-- The deed is ready for the reading of field f of whichever slot the seat holds strongly, in whichever view has beside
-- the queue what this one has; and it leaves what the view has of the queue.
pub record MayRead {V : Type 0} (seen : V → View) (with_seen : V → View → V) (f : ℕ)
    (ready : OwnPart → V → PlainAct → Type 0) (next : OwnPart → OwnPart → V → PlainAct → ℕ → V)
    (v : V) : Type 0 where
  pub is_ready :
      (own : OwnPart) (w : V) (s : SlotId) (step : PlainAct)
      → with_seen w first_view ≡ with_seen v first_view → ReadsField s f step
      → HoldsStrongly own.seat s → ready own w step
  pub leaves_queue :
      (own after : OwnPart) (w : V) (step : PlainAct) (found : ℕ)
      → seen (next own after w step found) ≡ seen w

-- where a field is named it is one of a slot, and the deed may read it
abbrev pub MayReadOne : {V : Type 0} → (V → View) → (V → View → V) → Option ℕ
    → (OwnPart → V → PlainAct → Type 0) → (OwnPart → OwnPart → V → PlainAct → ℕ → V) → V → Type 0
MayReadOne seen with_seen field ready next v =
    IfSome field (λ f. MayRead seen with_seen f ready next v)

module _ {V : Type 0} (with_seen : V → View → V) where
  -- some steps of a pop, among which it doesn't read the field: beside the queue the view stays
  pub record GoesBeside (old new : SeatState V) : Type 0 where
    pub same : HasBeside with_seen first_view old new
    pub trail : TrailGoesOn old new

-- the seat knows an item, and what was found in it, as before
pub record KnowsBoth {V : Type 0} (item : SlotId) (content : Option SlotId)
    (old new : SeatState V) : Type 0 where
  pub same_item : object_in new.view item ≡ object_in old.view item
  pub same_content : IfSome content (λ s. object_in new.view s ≡ object_in old.view s)

module _ {P V : Type 0} (fits : List ℕ → Type 0) (d : DomainState P) (with_seen : V → View → V)
    (next : OwnPart → OwnPart → V → PlainAct → ℕ → V)
    (allows : Plain → Plain → ℕ → V → V → Type 0) where
  -- The seat read field f of the item with the deed, and gained a reference to the content, unless that was null.
  pub record ReadsWithin (f : ℕ) (item : SlotId) (content : Option SlotId) (old new : SeatState V)
      : Type 0 where
    pub begun : SeatState V
    pub read : SeatState V
    pub before : GoesBeside with_seen old begun
    pub loads : Loads fits d (Field item f) next allows content begun read
    pub after : GoesBeside with_seen read new
    pub knows : KnowsBoth item content read new

  -- a try to read it: no step, for want of adds; or a content; or another content at the check than at the look
  abbrev pub Tries : ℕ → SlotId → SeatState V → SeatState V → Type 0
  Tries f item old new =
      (new ≡ old)
      ⊎ ((content : Option SlotId) × Loads fits d (Field item f) next allows content old new)
      ⊎ ((seen : Option SlotId) × (now : Option SlotId)
      × Misses fits d 0 (Field item f) next allows seen now old new)

  -- the seat tried once to read field f of some item, and nothing was popped
  pub record TriesWithin (f : ℕ) (old new : SeatState V) : Type 0 where
    pub item : SlotId
    pub begun : SeatState V
    pub tried : SeatState V
    pub before : GoesBeside with_seen old begun
    pub tries : Tries f item begun tried
    pub after : GoesBeside with_seen tried new

  -- What of the client's view changed beside the queue: nothing, where no field is to be read; what the deed made of it
  -- when it read the field of the item that was popped; or when it tried to, and nothing was popped.
  abbrev pub LeavesBeside : Option ℕ → Option (SlotId × Option SlotId) → SeatState V → SeatState V
      → Type 0
  LeavesBeside None found old new = HasBeside with_seen first_view old new
  LeavesBeside (Some f) None old new =
      HasBeside with_seen first_view old new ⊎ TriesWithin f old new
  LeavesBeside (Some f) (Some x) old new = ReadsWithin f x.0 x.1 old new

  -- the same of the reading alone
  abbrev pub LoadsBeside : Option ℕ → SlotId → Result (Option Handle) LoadError → SeatState V
      → SeatState V → Type 0
  LoadsBeside None item r old new = GoesBeside with_seen old new
  LoadsBeside (Some f) item (Ok found) old new =
      Loads fits d (Field item f) next allows (named found) old new
  LoadsBeside (Some f) item (Err e) old new = Tries f item old new

-- an item that was popped, and what was found in it
abbrev pub taken_by : {E : Type 0} → SlotId → Result (Option Handle) E
    → Option (SlotId × Option SlotId)
taken_by item (Ok found) = Some (item, named found)
taken_by item (Err e) = None
