-- What callers see of a snapshot, and when a seat is under it.
use Rattle.std.specs.Prelude.{ℕ, ◌≡◌, ◌<◌, List, Option, Some, None, slice_index_or}
use Rattle.protected_loads.specs.plain_state.declared.slot.Kind.TheVariants.{Strong}
use Rattle.protected_loads.specs.plain_state.declared.slot.SlotId.{SlotId}
use Rattle.protected_loads.specs.plain_state.Lists.{times}
use Rattle.protected_loads.specs.core_events.declared.view.CoreView.{CoreView}
use Rattle.protected_loads.specs.core_events.declared.view.Note.{Note}
use Rattle.protected_loads.specs.core_events.declared.view.Note.TheVariants as note
use Rattle.protected_loads.specs.control_word.Resting.{noted}

-- the slot that it names, and the announcement word that protects it, or none where it is counted
pub record Snap : Type 0 where
  pub slot : SlotId
  pub word : Option ℕ

-- Of a seat that owns these references and has these notes: one of its words 1 to 3 stands for a
-- strong snapshot of the slot; or, where there is no word, it owns a reference to it.
abbrev pub IsHeldBy : Option ℕ → SlotId → List SlotId → List Note → Type 0
IsHeldBy None s owned notes = 0 < times s owned
IsHeldBy (Some j) s owned notes =
    (0 < j) × (j < 4) × (slice_index_or notes j note.Idle ≡ note.Valid Strong s)

abbrev pub IsUnder : Snap → CoreView → Type 0
IsUnder snap v = IsHeldBy snap.word snap.slot v.owned v.notes

-- whatever snapshot a seat with v was under, a seat with w is under
abbrev pub StaysUnder : CoreView → CoreView → Type 0
StaysUnder v w = (snap : Snap) → IsUnder snap v → IsUnder snap w

-- the slot of a snapshot, if there is one
abbrev pub slot_under : Option Snap → Option SlotId
slot_under None = None
slot_under (Some snap) = Some snap.slot

-- the notes of a seat that has come under one snapshot more, by what it found; and once one has ended
abbrev pub notes_with : Option Snap → List Note → List Note
notes_with None ns = ns
notes_with (Some snap) ns = noted snap.word (note.Valid Strong snap.slot) ns

abbrev pub notes_without : Snap → List Note → List Note
notes_without snap ns = noted snap.word note.Idle ns
