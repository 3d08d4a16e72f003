-- Which step of the plain state each event shows.
use Rattle.std.specs.Prelude.{ℕ, ◌==◌, nat_lt, Bool, false, List, [], ◌∷◌, Option, Some, None, if◌then◌else◌}
use Rattle.announce_slots.specs.plain_state.declared.act.EventPlace.{EventPlace}
use Rattle.announce_slots.specs.plain_state.declared.act.EventPlace.TheVariants.{Cell, Field, WeakCell, WeakField}
use Rattle.announce_slots.specs.plain_state.declared.act.PlainAct.{PlainAct}
use Rattle.announce_slots.specs.plain_state.declared.act.PlainAct.TheVariants as plain
use Rattle.announce_slots.specs.plain_state.declared.slot.SlotId.{SlotId}
use Rattle.announce_slots.specs.plain_state.Lists.{Entry, times}
use Rattle.core_events.specs.declared.act.Act.{Act}
use Rattle.core_events.specs.declared.act.Act.TheVariants as act
use Rattle.core_events.specs.declared.shape.Shape.{Shape}
use Rattle.core_events.specs.declared.view.CoreView.{CoreView}
use Rattle.core_events.specs.declared.view.Note.{Note}
use Rattle.core_events.specs.declared.view.Note.TheVariants as note
use Rattle.core_events.specs.Words.{bit_in}
use Rattle.announce_slots.specs.counter_word.Words.{ZERO, has_help, value}
use Rattle.core_events.specs.Views.{note_of, slot_of}
use Rattle.core_events.specs.Steps.{is_last}

-- a payment ejects the first entry that is owed
abbrev pub ejects : List Entry → PlainAct
ejects [] = plain.Still
ejects (e ∷ es) = plain.Eject e.0 e.1

-- a release ends a snapshot, if the note was valid
abbrev pub releases : Note → PlainAct
releases note.Idle = plain.Still
releases (note.Announced k s) = plain.Still
releases (note.Valid k s) = plain.EndSnapshot k s

-- the place is a field of a slot that the seat may destroy
abbrev pub is_ripe_field : CoreView → EventPlace → Bool
is_ripe_field v (Cell i) = false
is_ripe_field v (Field s i) = nat_lt 0 (times s v.ripe)
is_ripe_field v (WeakCell i) = false
is_ripe_field v (WeakField s) = nat_lt 0 (times s v.ripe)

-- a plain step on a slot, where there is one
abbrev pub on_slot : (SlotId → PlainAct) → Option SlotId → PlainAct
on_slot f None = plain.Still
on_slot f (Some s) = f s

-- the plain step that an act shows, where it finds w
abbrev pub shown_act : Shape → Act → ℕ → CoreView → PlainAct
shown_act z (act.Add s) w v = plain.Add s
shown_act z (act.Drop s) w v = plain.Drop s
shown_act z act.Pay w v = ejects v.owed
shown_act z act.Finish w v = if w == 0 then on_slot plain.End (slot_of v.phase) else plain.Still
shown_act z act.Take w v = if has_help w then on_slot plain.End (slot_of v.phase) else plain.Still
shown_act z (act.Count s) w v = plain.Count s
shown_act z act.Mark w v = on_slot plain.Mark (slot_of v.phase)
shown_act z (act.Announce j k s) w v = plain.Still
shown_act z (act.Release j) w v = releases (note_of v j)
shown_act z (act.Look p) w v = plain.Look p
shown_act z (act.Check j p) w v = plain.Check j p
shown_act z (act.Alive j) w v = plain.Alive j
shown_act z act.Scan w v = if is_last z v then plain.Split else plain.Still
shown_act z (act.Swap p new) w v = if is_ripe_field v p then plain.Clear p else plain.Replace p new
shown_act z (act.Cas p old new) w v = plain.TryReplace p old new
shown_act z (act.Claim s) w v = if bit_in s w == 1 then plain.Claim s else plain.Still
shown_act z act.Arm w v = plain.Still
shown_act z (act.Fill i x) w v = on_slot (λ s. plain.Fill s i x) (slot_of v.phase)
shown_act z act.Start w v = on_slot plain.Make (slot_of v.phase)
shown_act z (act.See s i) w v = plain.See s i
shown_act z act.Free w v = on_slot plain.Give (slot_of v.phase)
shown_act z act.Ticket w v = plain.Ticket
shown_act z (act.Wadd s) w v = plain.WeakGain s
shown_act z (act.Wdrop s) w v = plain.WeakDrop s
shown_act z (act.Destroy s) w v = plain.Destroy s
shown_act z (act.Wcount s) w v = plain.WeakCount s
shown_act z (act.Leave j) w v = plain.Leave j

-- what that step finds: the zero mark, the word of a place, or a count
abbrev pub shown_number : Act → ℕ → ℕ
shown_number (act.Add s) w = if nat_lt w ZERO then 0 else 1
shown_number (act.Count s) w = value w
shown_number act.Mark w = value w
shown_number (act.Look p) w = w
shown_number (act.Alive j) w = value w
shown_number act.Ticket w = w
shown_number (act.Check j p) w = w
shown_number (act.Swap p new) w = w
shown_number (act.Cas p old new) w = w
shown_number a w = 0
