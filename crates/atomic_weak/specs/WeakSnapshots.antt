-- A weak snapshot: what callers see of it, and when a seat is under it.
use Rattle.std.specs.Prelude.{ℕ, ◌≡◌, ◌<◌, List, Option, Some, None, slice_index_or}
use Rattle.protected_loads.specs.plain_state.declared.slot.Kind.TheVariants.{Disposal}
use Rattle.protected_loads.specs.plain_state.declared.slot.SlotId.{SlotId}
use Rattle.protected_loads.specs.plain_state.Lists.{times}
use Rattle.protected_loads.specs.core_events.declared.view.CoreView.{CoreView}
use Rattle.protected_loads.specs.core_events.declared.view.Note.{Note}
use Rattle.protected_loads.specs.core_events.declared.view.Note.TheVariants as note
use Rattle.protected_loads.specs.acquire_retire.Notes.{least_free}
use Rattle.protected_loads.specs.control_word.Resting.{IsSpent, noted}

-- the slot that it names, and the announcement word that guards its object, or none where it is
-- counted
pub record WeakSnap : Type 0 where
  pub slot : SlotId
  pub word : Option ℕ

-- Of a seat that owns these references and has these notes: one of its words 1 to 3 stands for a
-- snapshot of the slot, whose object nobody is to destroy; or, where there is no word, it owns a
-- strong reference to it.
abbrev pub IsGuardedBy : Option ℕ → SlotId → List SlotId → List Note → Type 0
IsGuardedBy None s owned notes = 0 < times s owned
IsGuardedBy (Some j) s owned notes =
    (0 < j) × (j < 4) × (slice_index_or notes j note.Idle ≡ note.Valid Disposal s)

abbrev pub IsUnder : WeakSnap → CoreView → Type 0
IsUnder snap v = IsGuardedBy snap.word snap.slot v.owned v.notes

-- all three words are in use, and no add is left
abbrev pub CanTakeNone : CoreView → Type 0
CanTakeNone v = (least_free v ≡ None) × IsSpent v

-- whatever weak snapshot a seat with v was under, a seat with w is under
abbrev pub StaysUnder : CoreView → CoreView → Type 0
StaysUnder v w = (snap : WeakSnap) → IsUnder snap v → IsUnder snap w

-- the notes of a seat once a weak snapshot has ended
abbrev pub notes_without : WeakSnap → List Note → List Note
notes_without snap ns = noted snap.word note.Idle ns
