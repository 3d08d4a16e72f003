-- The deeds on a cache: when each is ready, the next view, and what it tells.
use Rattle.std.specs.Prelude.{ℕ, zero, suc, ◌≡◌, ◌<◌, ◌⊎◌, List, [], ◌∷◌, ◌++◌, Option, Some, None}
use Rattle.cdrc.specs.plain_state.declared.act.EventPlace.TheVariants.{WeakCell}
use Rattle.cdrc.specs.plain_state.declared.act.PlainAct.{PlainAct}
use Rattle.cdrc.specs.plain_state.declared.act.PlainAct.TheVariants as act
use Rattle.cdrc.specs.plain_state.declared.slot.SlotId.{SlotId}
use Rattle.cdrc.specs.plain_state.Lists.{times}
use Rattle.cdrc.specs.plain_state.State.{Plain, seat_at, slot_at}
use Rattle.cdrc.specs.plain_protocol.Owns.{OwnPart, HasSlot}
use Rattle.cdrc.specs.protocol_pairs.Values.{value_of}
use Rattle.example_cache.specs.Views.{View}
use Rattle.example_cache.specs.Cache.{Holds}

-- REMEMBER. The weak cell gets an object that the seat owns strongly, or null
abbrev pub OwnsIt : OwnPart → Option SlotId → Type 0
OwnsIt own None = Unit {0}
OwnsIt own (Some s) = 0 < times s own.seat.owned

abbrev pub RememberReady : ℕ → OwnPart → View → PlainAct → Type 0
RememberReady cell own v step =
    (new : Option SlotId) × (step ≡ act.Replace (WeakCell cell) new) × OwnsIt own new

abbrev pub value_put : OwnPart → PlainAct → List (List ℕ)
value_put own (act.Replace place (Some s)) = value_of (own.objects s)
value_put own _ = []

abbrev pub remember_next : OwnPart → OwnPart → View → PlainAct → ℕ → View
remember_next own after v step found =
    record v { remembered = v.remembered ++ value_put own step }

-- the value of what the cell now holds joins those that the seat remembered
abbrev pub RememberTells : ℕ → Plain → Plain → ℕ → View → View → Type 0
RememberTells cell p q n v w =
    (s : SlotId) → Holds cell q s → w.remembered ≡ v.remembered ++ (slot_at q s).payload ∷ []

-- RECALL. What the weak cell holds, by a look or a check, if the seat has it afterwards
abbrev pub RecallReady : ℕ → OwnPart → View → PlainAct → Type 0
RecallReady cell own v step =
    (step ≡ act.Look (WeakCell cell)) ⊎ ((j : ℕ) × (step ≡ act.Check j (WeakCell cell)))

abbrev pub recall_next : OwnPart → OwnPart → View → PlainAct → ℕ → View
recall_next own after v step zero = v
recall_next own after v step (suc s) =
    record v { recalled = v.recalled ++ value_of (after.objects (record { 0 = s })) }

-- the value of what the cell held joins those that the seat recalled
abbrev pub RecallTells : ℕ → Plain → Plain → ℕ → View → View → Type 0
RecallTells cell p q n v w =
    (s : SlotId) → Holds cell p s → HasSlot (seat_at q n) s
    → w.recalled ≡ v.recalled ++ (slot_at q s).payload ∷ []
