-- A free seat comes under a snapshot by its word 1, and announces nothing once that has ended.
use Rattle.std.proofs.Common.{◌≡◌, ◌∙◌, ℕ, List, [], ◌∷◌, Option, Some, refl, ap, arith}
use Rattle.domain_audit.specs.plain_state.declared.slot.Kind.TheVariants.{Strong}
use Rattle.domain_audit.specs.plain_state.Lists.{entry_times}
use Rattle.domain_audit.specs.core_events.declared.view.CoreView.{CoreView}
use Rattle.domain_audit.specs.core_events.declared.view.Note.{Note}
use Rattle.domain_audit.specs.core_events.declared.view.Note.TheVariants as note
use Rattle.domain_audit.specs.core_events.Views.{CanReadFields, no_notes, snapshots, valid_of}
use Rattle.domain_audit.specs.control_word.Resting.{noted}
use Rattle.domain_audit.proofs.Below.core_law_Kit.{entry_cons, entry_one, one_same}
use Rattle.domain_audit.specs.acquire_retire.Notes.{least_free}
use Rattle.snapshot_ptr.specs.Handles.{Snap, notes_with, notes_without}

pub free_word : (v : CoreView) → v.notes ≡ no_notes → least_free v ≡ Some 1
free_word v none = ap (λ (ns : List Note). least_free (record v { notes = ns })) none

module _ (snap : Snap) (word : snap.word ≡ Some 1) where
  abbrev taken : List Note
  taken = note.Idle ∷ note.Valid Strong snap.slot ∷ note.Idle ∷ note.Idle ∷ []

  taken_is : (ns : List Note) → ns ≡ no_notes → notes_with (Some snap) ns ≡ taken
  taken_is ns none =
      ap (notes_with (Some snap)) none
      ∙ ap (λ (o : Option ℕ). noted o (note.Valid Strong snap.slot) no_notes) word

  -- it may read the fields of the object, and so its payload fits
  pub can_read : (v w : CoreView) → v.notes ≡ no_notes → w.notes ≡ notes_with (Some snap) v.notes
      → CanReadFields w snap.slot
  can_read v w none took =
      let is : snapshots w ≡ (Strong, snap.slot) ∷ [] = ap valid_of (took ∙ taken_is v.notes none) in
      let here : entry_one Strong snap.slot (Strong, snap.slot) ≡ 1 = one_same snap.slot snap.slot refl in
      let cons = entry_cons Strong snap.slot (Strong, snap.slot) [] in
      let times = ap (entry_times Strong snap.slot) is in omega arith

  pub back : (v w u x : CoreView) → v.notes ≡ no_notes → w.notes ≡ notes_with (Some snap) v.notes
      → u.notes ≡ w.notes → x.notes ≡ notes_without snap u.notes → x.notes ≡ no_notes
  back v w u x none took same gave =
      gave ∙ ap (notes_without snap) (same ∙ took ∙ taken_is v.notes none)
      ∙ ap (λ (o : Option ℕ). noted o note.Idle taken) word
