-- A free word, and the slot of a snapshot.
use Rattle.std.proofs.Common.{◌≡◌, ⊎_elim, ℕ, ◌<◌, ◌≤◌, Bool, true, false, List, length, refl, subst, arith}
use Rattle.std.specs.Prelude.{Option, Some, None, slice_index_or, if◌then◌else◌}
use Rattle.std.proofs.lemmas.Bool.{cases_lt}
use Rattle.std.proofs.lemmas.List.{get_or_past}
use Rattle.protected_loads.specs.plain_state.declared.slot.Kind.{Kind}
use Rattle.protected_loads.specs.plain_state.declared.slot.Kind.TheVariants.{Strong}
use Rattle.protected_loads.specs.plain_state.declared.slot.SlotId.{SlotId}
use Rattle.protected_loads.specs.core_events.declared.view.CoreView.{CoreView}
use Rattle.protected_loads.specs.core_events.declared.view.Note.{Note}
use Rattle.protected_loads.specs.core_events.declared.view.Note.TheVariants as note
use Rattle.protected_loads.specs.core_events.Views.{Holds, HoldsStrongly, note_of}
use Rattle.protected_loads.proofs.Below.core_functions_Snapshots.{snapshot_at}
use Rattle.protected_loads.specs.acquire_retire.Notes.{is_free, least_free}
use Rattle.snapshot_ptr.specs.Handles.{IsHeldBy, IsUnder, Snap}

free_idle : (n : Note) → is_free n ≡ true → n ≡ note.Idle
free_idle note.Idle is = refl
free_idle (note.Announced k s) is = absurd (cc (is))
free_idle (note.Valid k s) is = absurd (cc (is))

-- one of the words 1 to 3, which stands for nothing
abbrev pub IsFreeWord : ℕ → CoreView → Type 0
IsFreeWord j v = (0 < j) × (j < 4) × (note_of v j ≡ note.Idle)

-- the least free word is one
pub least_is_free : (v : CoreView) (j : ℕ) → least_free v ≡ Some j → IsFreeWord j v
least_is_free v j =
    go (is_free (note_of v 1)) (is_free (note_of v 2)) (is_free (note_of v 3)) refl refl refl
  where
    named : (i : ℕ) → 0 < i → i < 4 → is_free (note_of v i) ≡ true → Some i ≡ Some j
        → IsFreeWord j v
    named i least most free is =
        subst (λ (n : ℕ). IsFreeWord n v) (cc (is)) (least, most, free_idle (note_of v i) free)

    go : (a b c : Bool) → is_free (note_of v 1) ≡ a → is_free (note_of v 2) ≡ b
        → is_free (note_of v 3) ≡ c
        → (if a then Some 1 else if b then Some 2 else if c then Some 3 else None) ≡ Some j
        → IsFreeWord j v
    go true b c first second third is = named 1 (omega arith) (omega arith) first is
    go false true c first second third is = named 2 (omega arith) (omega arith) second is
    go false false true first second third is = named 3 (omega arith) (omega arith) third is
    go false false false first second third is = absurd (cc (is))

-- a note that stands for something is there
pub noted_there : (ns : List Note) (j : ℕ) (k : Kind) (s : SlotId)
    → slice_index_or ns j note.Idle ≡ note.Valid k s → j < length ns
noted_there ns j k s is = ⊎_elim
    (λ (below : j < length ns). below)
    (λ (past : length ns ≤ j). absurd (cc (get_or_past ns j note.Idle past, is)))
    (cases_lt j (length ns))

-- a seat that is under a snapshot has its slot strongly
pub has_strongly : (snap : Snap) (v : CoreView) → IsUnder snap v → HoldsStrongly v snap.slot
has_strongly snap v under = go snap.word under
  where
    go : (word : Option ℕ) → IsHeldBy word snap.slot v.owned v.notes → HoldsStrongly v snap.slot
    go None owned = omega arith
    go (Some j) noted =
        let there = noted_there v.notes j Strong snap.slot noted.2 in
        let some = snapshot_at Strong snap.slot v.notes j there noted.2 in omega arith

pub holds_under : (snap : Snap) (v : CoreView) → IsUnder snap v → Holds v snap.slot
holds_under snap v under = let strongly = has_strongly snap v under in omega arith
