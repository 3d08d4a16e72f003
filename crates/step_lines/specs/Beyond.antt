-- Which events and shapes have a number that is too large to be held.
use Rattle.std.specs.Prelude.{ℕ, ◌⊎◌, ◌^◌, ◌≤◌, Option, Some, None}
use Rattle.core_events.specs.plain_state.declared.act.EventPlace.{EventPlace}
use Rattle.core_events.specs.plain_state.declared.act.EventPlace.TheVariants.{Cell, Field, WeakCell, WeakField}
use Rattle.core_events.specs.plain_state.declared.slot.SlotId.{SlotId}
use Rattle.core_events.specs.declared.act.Act.{Act}
use Rattle.core_events.specs.declared.act.Act.TheVariants as act
use Rattle.core_events.specs.declared.act.Event.{Event}
use Rattle.core_events.specs.declared.shape.Shape.{Shape}

-- a seat, a slot, a note, a cell, a payload place or a size
abbrev pub IsTooLarge : ℕ → Type 0
IsTooLarge n = 2 ^ 32 ≤ n

-- the value of a payload word
abbrev pub IsTooLargeValue : ℕ → Type 0
IsTooLargeValue n = 2 ^ 64 ≤ n

abbrev pub IsBeyondSlot : SlotId → Type 0
IsBeyondSlot s = IsTooLarge s.0

abbrev pub IsBeyondContent : Option SlotId → Type 0
IsBeyondContent None = ⊥
IsBeyondContent (Some s) = IsBeyondSlot s

abbrev pub IsBeyondPlace : EventPlace → Type 0
IsBeyondPlace (Cell i) = IsTooLarge i
IsBeyondPlace (Field s i) = IsBeyondSlot s
IsBeyondPlace (WeakCell i) = IsTooLarge i
IsBeyondPlace (WeakField s) = IsBeyondSlot s

-- a number of the act
abbrev pub IsBeyondAct : Act → Type 0
IsBeyondAct (act.Add s) = IsBeyondSlot s
IsBeyondAct (act.Drop s) = IsBeyondSlot s
IsBeyondAct act.Pay = ⊥
IsBeyondAct act.Finish = ⊥
IsBeyondAct act.Take = ⊥
IsBeyondAct (act.Count s) = IsBeyondSlot s
IsBeyondAct act.Mark = ⊥
IsBeyondAct (act.Announce j k s) = IsTooLarge j ⊎ IsBeyondSlot s
IsBeyondAct (act.Release j) = IsTooLarge j
IsBeyondAct (act.Look p) = IsBeyondPlace p
IsBeyondAct (act.Check j p) = IsTooLarge j ⊎ IsBeyondPlace p
IsBeyondAct (act.Alive j) = IsTooLarge j
IsBeyondAct act.Scan = ⊥
IsBeyondAct (act.Swap p new) = IsBeyondPlace p ⊎ IsBeyondContent new
IsBeyondAct (act.Cas p old new) = IsBeyondPlace p ⊎ IsBeyondContent old ⊎ IsBeyondContent new
IsBeyondAct (act.Claim s) = IsBeyondSlot s
IsBeyondAct act.Arm = ⊥
IsBeyondAct (act.Fill i value) = IsTooLarge i ⊎ IsTooLargeValue value
IsBeyondAct act.Start = ⊥
IsBeyondAct (act.See s i) = IsBeyondSlot s ⊎ IsTooLarge i
IsBeyondAct act.Free = ⊥
IsBeyondAct act.Ticket = ⊥
IsBeyondAct (act.Wadd s) = IsBeyondSlot s
IsBeyondAct (act.Wdrop s) = IsBeyondSlot s
IsBeyondAct (act.Destroy s) = IsBeyondSlot s
IsBeyondAct (act.Wcount s) = IsBeyondSlot s
IsBeyondAct (act.Leave j) = IsTooLarge j

-- the seat, or a number of the act
abbrev pub IsBeyond : Event → Type 0
IsBeyond e = IsTooLarge e.seat ⊎ IsBeyondAct e.act

-- a size
abbrev pub IsBeyondShape : Shape → Type 0
IsBeyondShape z =
    IsTooLarge z.seats ⊎ IsTooLarge z.slots ⊎ IsTooLarge z.cells ⊎ IsTooLarge z.weak_cells
    ⊎ IsTooLarge z.batch
