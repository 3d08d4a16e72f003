-- A note that stood for nothing, then for something, and for nothing again, leaves a seat under no snapshot.
use Rattle.std.proofs.Common.{◌≡◌, ◌≢◌, ⊎_elim, ℕ, List, Option, Some, None, ap, sym, ◌∙◌, ◌<◌, arith, length}
use Rattle.std.specs.Prelude.{slice_index_or, slice_set}
use Rattle.std.proofs.lemmas.Bool.{cases_eq, cases_lt}
use Rattle.std.proofs.lemmas.List.{get_or-set_same, get_or-set_other, get_or_past, length-set, set-set}
use Rattle.acquire_retire.specs.core_events.declared.view.CoreView.{CoreView}
use Rattle.acquire_retire.specs.core_events.declared.view.Note.{Note}
use Rattle.acquire_retire.specs.core_events.declared.view.Note.TheVariants as note
use Rattle.control_word.specs.Resting.{IsUnderNone, noted}

-- a list of idle notes in which one is idle anew
idle_still : (ns : List Note) (j : ℕ) → ((i : ℕ) → slice_index_or ns i note.Idle ≡ note.Idle)
    → (i : ℕ) → slice_index_or (slice_set ns j note.Idle) i note.Idle ≡ note.Idle
idle_still ns j idle i =
    ⊎_elim
    (λ (same : i ≡ j). ⊎_elim
    (λ (low : i < length ns).
    ap (λ k. slice_index_or (slice_set ns k note.Idle) i note.Idle) (sym same)
    ∙ get_or-set_same ns i note.Idle note.Idle low)
    (λ past. get_or_past (slice_set ns j note.Idle) i note.Idle
    (let l = length-set ns j note.Idle in omega arith)) (cases_lt i (length ns)))
    (λ (apart : i ≢ j). get_or-set_other ns j i note.Idle note.Idle apart ∙ idle i)
    (cases_eq i j)

noted_back : (word : Option ℕ) (n : Note) (ns : List Note)
    → ((i : ℕ) → slice_index_or ns i note.Idle ≡ note.Idle)
    → (i : ℕ) → slice_index_or (noted word note.Idle (noted word n ns)) i note.Idle ≡ note.Idle
noted_back None n ns idle i = idle i
noted_back (Some j) n ns idle i =
    ap (λ ms. slice_index_or ms i note.Idle) (set-set ns j n note.Idle) ∙ idle_still ns j idle i

-- so it is after a snapshot that was taken by a word, or without one, and ended
pub none_again : (word : Option ℕ) (n : Note) (v w u : CoreView) → IsUnderNone v
    → w.notes ≡ noted word n v.notes → u.notes ≡ noted word note.Idle w.notes → IsUnderNone u
none_again word n v w u idle took gave i =
    ap (λ ns. slice_index_or ns i note.Idle) (gave ∙ ap (noted word note.Idle) took)
    ∙ noted_back word n v.notes idle i

-- and where all notes stayed
pub none_still : (v w : CoreView) → w.notes ≡ v.notes → IsUnderNone v → IsUnderNone w
none_still v w same none j = ap (λ ns. slice_index_or ns j note.Idle) same ∙ none j
