-- What the words of a seat protect, as its notes say it.
use Rattle.std.proofs.Common.{◌≡◌, ⊎_elim, ℕ, ◌<◌, ◌≤◌, List, [], ◌∷◌, length, refl, ap, sym, ◌∙◌, subst, arith}
use Rattle.std.specs.Prelude.{Option, Some, None, if◌then◌else◌}
use Rattle.std.proofs.lemmas.Bool.{cases_lt}
use Rattle.protected_loads.specs.plain_state.declared.slot.Kind.TheVariants.{Strong}
use Rattle.protected_loads.specs.plain_state.declared.slot.SlotId.{SlotId}
use Rattle.protected_loads.specs.plain_state.Lists.{Entry, entry_times}
use Rattle.protected_loads.proofs.Below.plain_state_Kit.{entry_cons, entry_in, entry_is, entry_none}
use Rattle.protected_loads.specs.core_events.declared.view.CoreView.{CoreView}
use Rattle.protected_loads.specs.core_events.declared.view.Note.{Note}
use Rattle.protected_loads.specs.core_events.declared.view.Note.TheVariants as note
use Rattle.protected_loads.specs.core_events.Views.{valid_of}
use Rattle.protected_loads.specs.acquire_retire.Notes.{is_free, least_free}
use Rattle.lone_heap.specs.declared.words.Words.{Words}
use Rattle.lone_heap.specs.Words.{note_for, notes_for}

-- a word that doesn't protect the slot doesn't count for it
passed : (o : Option SlotId) (s : SlotId) (ns : List Note) → (o ≡ Some s → ⊥)
    → entry_times Strong s (valid_of (note_for o ∷ ns)) ≡ entry_times Strong s (valid_of ns)
passed None s ns other = refl
passed (Some x) s ns other =
    let all = entry_cons Strong s (Strong, x) (valid_of ns) in
    ⊎_elim
    (λ (some : 0 < entry_in Strong s (Strong, x)).
    absurd (other (ap (λ (e : Entry). Some e.1) (entry_is Strong s (Strong, x) some))))
    (λ (none : entry_in Strong s (Strong, x) ≤ 0). omega arith)
    (cases_lt 0 (entry_in Strong s (Strong, x)))

only : (o : Option SlotId) (s : SlotId)
    → 0 < entry_times Strong s (valid_of (note_for o ∷ [])) → o ≡ Some s
only None s some = let none = entry_none Strong s in absurd (omega arith)
only (Some x) s some =
    let all = entry_cons Strong s (Strong, x) [] in
    let none = entry_none Strong s in
    ap (λ (e : Entry). Some e.1) (entry_is Strong s (Strong, x) (omega arith))

-- where neither the first nor the second word protects the slot, the third does
pub third_is : (w : Words) (s : SlotId) → 0 < entry_times Strong s (valid_of (notes_for w))
    → (w.first ≡ Some s → ⊥) → (w.second ≡ Some s → ⊥) → w.third ≡ Some s
third_is w s some first second =
    let a = passed w.first s (note_for w.second ∷ note_for w.third ∷ []) first in
    let b = passed w.second s (note_for w.third ∷ []) second in only w.third s (omega arith)

-- the least word that protects nothing, of what each protects
abbrev least : Option SlotId → Option SlotId → Option SlotId → Option ℕ
least a b c =
    if is_free (note_for a) then Some 1
    else if is_free (note_for b) then Some 2
    else if is_free (note_for c) then Some 3
    else None

abbrev many : Option SlotId → Option SlotId → Option SlotId → ℕ
many a b c = length (valid_of (note.Idle ∷ note_for a ∷ note_for b ∷ note_for c ∷ []))

few : (a b c : Option SlotId) (j : ℕ) → least a b c ≡ Some j → many a b c < 3
few None None None j is = omega arith
few None None (Some z) j is = omega arith
few None (Some y) None j is = omega arith
few None (Some y) (Some z) j is = omega arith
few (Some x) None None j is = omega arith
few (Some x) None (Some z) j is = omega arith
few (Some x) (Some y) None j is = omega arith
few (Some x) (Some y) (Some z) j is = absurd (cc (is))

three : (a b c : Option SlotId) → least a b c ≡ None → 3 ≤ many a b c
three None b c is = absurd (cc (is))
three (Some x) None c is = absurd (cc (is))
three (Some x) (Some y) None is = absurd (cc (is))
three (Some x) (Some y) (Some z) is = omega arith

least_of : (w : Words) (v : CoreView) → v.notes ≡ notes_for w
    → least_free v ≡ least w.first w.second w.third
least_of w v noted = ap (λ (ns : List Note). least_free (record v { notes = ns })) noted

pub few_where_free : (w : Words) (v : CoreView) (j : ℕ) → v.notes ≡ notes_for w
    → least_free v ≡ Some j → length (valid_of v.notes) < 3
few_where_free w v j noted free =
    subst (λ (ns : List Note). length (valid_of ns) < 3) (sym noted)
    (few w.first w.second w.third j (sym (least_of w v noted) ∙ free))

pub three_where_none : (w : Words) (v : CoreView) → v.notes ≡ notes_for w → least_free v ≡ None
    → 3 ≤ length (valid_of v.notes)
three_where_none w v noted none =
    subst (λ (ns : List Note). 3 ≤ length (valid_of ns)) (sym noted)
    (three w.first w.second w.third (sym (least_of w v noted) ∙ none))
