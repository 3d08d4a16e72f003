-- The references to a slot, counted over the whole state.
use Rattle.std.specs.Prelude.{ℕ, ◌+◌, List, sum_by, Option, if◌then◌else◌}
use Rattle.plain_state.specs.declared.slot.Kind.{Kind}
use Rattle.plain_state.specs.declared.slot.Kind.TheVariants.{Strong, Weak, Disposal}
use Rattle.plain_state.specs.declared.slot.SlotId.{SlotId}
use Rattle.plain_state.specs.declared.slot.PlainSlot.{PlainSlot}
use Rattle.plain_state.specs.declared.slot.Stage.{Stage}
use Rattle.plain_state.specs.declared.slot.Stage.TheVariants.{Free, Blank, Live, Ended, Husk}
use Rattle.plain_state.specs.Lists.{times, entry_times, cell_times, holds}
use Rattle.plain_state.specs.State.{Plain, PlainSeat, slot_at}

-- 1 where the place holds s
unfoldable pub held_in : SlotId → Option SlotId → ℕ
held_in s place = if holds s place then 1 else 0

-- a number read off each seat, and off each slot, added up
unfoldable pub over_seats : (PlainSeat → ℕ) → List PlainSeat → ℕ
over_seats f vs = sum_by f vs

unfoldable pub over_slots : (PlainSlot → ℕ) → List PlainSlot → ℕ
over_slots f xs = sum_by f xs

-- how many strong fields of a slot hold s
abbrev pub strong_fields : SlotId → PlainSlot → ℕ
strong_fields s x = held_in s x.first + held_in s x.second

abbrev pub weak_fields : SlotId → PlainSlot → ℕ
weak_fields s x = held_in s x.weak_field

-- how many places of kind k hold s
abbrev pub places : Kind → Plain → SlotId → ℕ
places Strong p s = cell_times s p.cells + over_slots (strong_fields s) p.slots
places Weak p s = cell_times s p.weak_cells + over_slots (weak_fields s) p.slots
places Disposal p s = 0

-- how often (k, s) stands in deferred lists
abbrev pub deferrals : Kind → Plain → SlotId → ℕ
deferrals k p s = over_seats (λ v. entry_times k s v.deferred) p.seats

-- a slot has one weak reference of its own from its claim until its destruction
abbrev pub own_reference : Stage → ℕ
own_reference Free = 0
own_reference Blank = 1
own_reference Live = 1
own_reference Ended = 1
own_reference Husk = 0

-- what seats own, what strong places hold, and the strong decrements that are deferred
abbrev pub strong_refs : Plain → SlotId → ℕ
strong_refs p s = over_seats (λ v. times s v.owned) p.seats + places Strong p s + deferrals Strong p s

-- the same for weak ones, and the slot's own
abbrev pub weak_refs : Plain → SlotId → ℕ
weak_refs p s =
    over_seats (λ v. times s v.weaks) p.seats + places Weak p s + deferrals Weak p s
    + own_reference (slot_at p s).stage

-- how often (k, s) is under a snapshot, and how often s stands in dying lists, over all seats
abbrev pub snapshot_times : Kind → Plain → SlotId → ℕ
snapshot_times k p s = over_seats (λ v. entry_times k s v.snapshots) p.seats

abbrev pub dying_times : Plain → SlotId → ℕ
dying_times p s = over_seats (λ v. times s v.dying) p.seats
