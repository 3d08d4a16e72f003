-- Which numbers of an event are in their ranges, in a domain of this shape.
use Rattle.std.specs.Prelude.{◌<◌, ◌^◌, ⊤}
use Rattle.step_lines.specs.plain_state.declared.act.EventPlace.{EventPlace}
use Rattle.step_lines.specs.plain_state.declared.act.EventPlace.TheVariants.{Cell, Field, WeakCell, WeakField}
use Rattle.step_lines.specs.plain_state.declared.slot.SlotId.{SlotId}
use Rattle.step_lines.specs.core_events.declared.act.Act.{Act}
use Rattle.step_lines.specs.core_events.declared.act.Act.TheVariants as act
use Rattle.step_lines.specs.core_events.declared.act.Event.{Event}
use Rattle.step_lines.specs.core_events.declared.shape.Shape.{Shape}
use Rattle.step_lines.specs.core_events.Steps.{IsContent}

abbrev pub HasSlot : Shape → SlotId → Type 0
HasSlot z s = s.0 < z.slots

abbrev pub HasPlace : Shape → EventPlace → Type 0
HasPlace z (Cell i) = i < z.cells
HasPlace z (Field s i) = HasSlot z s
HasPlace z (WeakCell i) = i < z.weak_cells
HasPlace z (WeakField s) = HasSlot z s

-- the slots, notes, cells, payload places and values of an act are there
abbrev pub HasNumbersOf : Shape → Act → Type 0
HasNumbersOf z (act.Add s) = HasSlot z s
HasNumbersOf z (act.Drop s) = HasSlot z s
HasNumbersOf z (act.Count s) = HasSlot z s
HasNumbersOf z (act.Announce j k s) = (j < 4) × HasSlot z s
HasNumbersOf z (act.Release j) = j < 4
HasNumbersOf z (act.Alive j) = j < 4
HasNumbersOf z (act.Look p) = HasPlace z p
HasNumbersOf z (act.Check j p) = (j < 4) × HasPlace z p
HasNumbersOf z (act.Swap p new) = HasPlace z p × IsContent z new
HasNumbersOf z (act.Cas p old new) = HasPlace z p × IsContent z old × IsContent z new
HasNumbersOf z (act.Claim s) = HasSlot z s
HasNumbersOf z (act.Fill i value) = (i < 16) × (value < 2 ^ 64)
HasNumbersOf z (act.See s i) = HasSlot z s × (i < 16)
HasNumbersOf z (act.Wadd s) = HasSlot z s
HasNumbersOf z (act.Wdrop s) = HasSlot z s
HasNumbersOf z (act.Destroy s) = HasSlot z s
HasNumbersOf z (act.Wcount s) = HasSlot z s
HasNumbersOf z (act.Leave j) = j < z.seats
HasNumbersOf z a = ⊤

-- and so is its seat
abbrev pub IsInRange : Shape → Event → Type 0
IsInRange z e = (e.seat < z.seats) × HasNumbersOf z e.act
