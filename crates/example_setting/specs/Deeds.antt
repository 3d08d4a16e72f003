-- The deeds on a setting: when each is ready, the next view, and what it tells.
use Rattle.std.specs.Prelude.{ℕ, zero, suc, ◌≡◌, ◌⊎◌, List, [], ◌∷◌, ◌++◌, Option, Some, None}
use Rattle.cdrc.specs.plain_state.declared.act.EventPlace.TheVariants.{Cell}
use Rattle.cdrc.specs.plain_state.declared.act.PlainAct.{PlainAct}
use Rattle.cdrc.specs.plain_state.declared.act.PlainAct.TheVariants as act
use Rattle.cdrc.specs.plain_state.declared.slot.SlotId.{SlotId}
use Rattle.cdrc.specs.plain_state.State.{Plain, seat_at, slot_at}
use Rattle.cdrc.specs.plain_protocol.Owns.{Object, OwnPart, HasSlot}
use Rattle.example_setting.specs.Views.{View}
use Rattle.example_setting.specs.Setting.{Holds}

-- the value of an object, if the seat has it
abbrev pub value_of : Option Object → List (List ℕ)
value_of None = []
value_of (Some o) = o.payload ∷ []

-- STORE. The cell gets an object of the seat's own, or null
abbrev pub StoreReady : ℕ → OwnPart → View → PlainAct → Type 0
StoreReady cell own v step = (new : Option SlotId) × (step ≡ act.Replace (Cell cell) new)

abbrev pub value_put : OwnPart → PlainAct → List (List ℕ)
value_put own (act.Replace place (Some s)) = value_of (own.objects s)
value_put own _ = []

abbrev pub store_next : OwnPart → OwnPart → View → PlainAct → ℕ → View
store_next own after v step found = record v { stored = v.stored ++ value_put own step }

-- the value of what the cell now holds joins those that the seat stored
abbrev pub StoreTells : ℕ → Plain → Plain → ℕ → View → View → Type 0
StoreTells cell p q n v w =
    (s : SlotId) → Holds q cell s → w.stored ≡ v.stored ++ (slot_at q s).payload ∷ []

-- READ. What the cell holds, by a look or a check, if the seat has it afterwards
abbrev pub ReadReady : ℕ → OwnPart → View → PlainAct → Type 0
ReadReady cell own v step =
    (step ≡ act.Look (Cell cell)) ⊎ ((j : ℕ) × (step ≡ act.Check j (Cell cell)))

abbrev pub read_next : OwnPart → OwnPart → View → PlainAct → ℕ → View
read_next own after v step zero = v
read_next own after v step (suc s) =
    record v { read = v.read ++ value_of (after.objects (record { 0 = s })) }

-- the value of what the cell held joins those that the seat read
abbrev pub ReadTells : ℕ → Plain → Plain → ℕ → View → View → Type 0
ReadTells cell p q n v w =
    (s : SlotId) → Holds p cell s → HasSlot (seat_at q n) s
    → w.read ≡ v.read ++ (slot_at q s).payload ∷ []
