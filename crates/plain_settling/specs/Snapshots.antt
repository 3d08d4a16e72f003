-- How the seat of a heap takes a snapshot, whatever the order in which its snapshots stand.
use Rattle.std.specs.Prelude.{Bool, true, false, ◌≡◌, ◌<◌, ◌≤◌, ◌+◌, List, length, Option, Some, None}
use Rattle.plain_store.specs.plain_state.declared.act.EventPlace.{EventPlace}
use Rattle.plain_store.specs.plain_state.declared.act.PlainAct.TheVariants as act
use Rattle.plain_store.specs.plain_state.declared.slot.SlotId.{SlotId}
use Rattle.plain_store.specs.plain_state.Lists.{Entry, Gains}
use Rattle.plain_store.specs.plain_state.Places.{content, place_kind}
use Rattle.plain_store.specs.plain_state.State.{Plain, seat_at, with_seat}
use Rattle.plain_store.specs.plain_state.Steps.{Does}
use Rattle.plain_store.specs.Calls.{Loads}

-- the seat is under one snapshot more, of s in this place
abbrev pub IsUnderMore : Plain → EventPlace → SlotId → Plain → Type 0
IsUnderMore p place s q =
    (es : List Entry) × Gains (seat_at p 0).snapshots (place_kind place, s) es
    × (q ≡ with_seat p 0 (record (seat_at p 0) { snapshots = es }))

-- a check found s in the place, and the seat is under a snapshot of it
pub record IsProtected (p : Plain) (place : EventPlace) (s : SlotId) (q : Plain) : Type 0 where
  pub holds : content p place ≡ Some s
  pub under : IsUnderMore p place s q
  pub checks : Does p 0 (act.Check 0 place) (s.0 + 1) q

-- a look found null
abbrev pub FindsNone : Plain → EventPlace → Plain → Type 0
FindsNone p place q = (content p place ≡ None) × Does p 0 (act.Look place) 0 q

-- a snapshot of s: uncounted where the seat has fewer than three, and else counted, which is a load
abbrev pub TakesAs : Plain → EventPlace → SlotId → Bool → Plain → Type 0
TakesAs p place s false q =
    (length (seat_at p 0).snapshots < 3) × IsProtected p place s q
TakesAs p place s true q = (3 ≤ length (seat_at p 0).snapshots) × Loads p place (Some s) q

-- the same by what the call answers: the slot, and whether the snapshot is counted; or none
abbrev pub Takes : Plain → EventPlace → Option (SlotId × Bool) → Plain → Type 0
Takes p place (Some taken) q = TakesAs p place taken.0 taken.1 q
Takes p place None q = FindsNone p place q
