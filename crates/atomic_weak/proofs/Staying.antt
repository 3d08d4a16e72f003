-- Which weak snapshots a seat stays under.
use Rattle.std.proofs.Common.{◌≡◌, ℕ, ◌<◌, List, [], ◌∷◌, ◌++◌, length, sym, ◌∙◌, subst, arith}
use Rattle.std.specs.Prelude.{slice_set, Option, Some, None}
use Rattle.protected_loads.specs.plain_state.declared.act.EventPlace.{EventPlace}
use Rattle.protected_loads.specs.plain_state.declared.act.PlainAct.{PlainAct}
use Rattle.protected_loads.specs.plain_state.declared.slot.Kind.TheVariants.{Disposal}
use Rattle.protected_loads.specs.plain_state.declared.slot.SlotId.{SlotId}
use Rattle.protected_loads.specs.plain_state.State.{Plain}
use Rattle.protected_loads.specs.plain_protocol.Owns.{OwnPart}
use Rattle.protected_loads.specs.core_events.declared.view.CoreView.{CoreView}
use Rattle.protected_loads.specs.core_events.declared.view.Note.TheVariants as note
use Rattle.protected_loads.specs.core_events.Steps.{with_note}
use Rattle.protected_loads.specs.core_events.Views.{note_of}
use Rattle.protected_loads.proofs.Below.core_law_Kit.{times_push}
use Rattle.protected_loads.specs.acquire_retire.Domains.{DomainState}
use Rattle.protected_loads.specs.acquire_retire.Seats.{SeatState}
use Rattle.protected_loads.specs.control_word.Calls.{with_strong}
use Rattle.protected_loads.proofs.Noting.{beside}
use Rattle.protected_loads.proofs.Telling.{four_notes}
use Rattle.atomic_weak.specs.Questions.{CanUse, with_guarded, with_none}
use Rattle.atomic_weak.specs.Taking.{Finds}
use Rattle.atomic_weak.specs.WeakSnapshots.{IsGuardedBy, StaysUnder}
use Rattle.atomic_weak.specs.declared.snapshots.WeakSnap.{WeakSnap as WeakAnswer}
use Rattle.atomic_weak.specs.declared.snapshots.WeakSnap.TheVariants as answer

-- where it owns a reference more, and where a word guards that stood for nothing
stays_owning : (v : CoreView) (s : SlotId) → StaysUnder v (with_strong s v)
stays_owning v s snap under = go snap.word under
  where
    go : (word : Option ℕ) → IsGuardedBy word snap.slot v.owned v.notes
        → IsGuardedBy word snap.slot (v.owned ++ s ∷ []) v.notes
    go None owned = let more = times_push snap.slot s v.owned in omega arith
    go (Some j) noted = noted

stays_guarding : (v : CoreView) (s : SlotId) (j : ℕ) → j < length v.notes
    → note_of v j ≡ note.Idle → StaysUnder v (with_note j (note.Valid Disposal s) v)
stays_guarding v s j there free snap under = go snap.word under
  where
    go : (word : Option ℕ) → IsGuardedBy word snap.slot v.owned v.notes
        → IsGuardedBy word snap.slot v.owned (slice_set v.notes j (note.Valid Disposal s))
    go None owned = owned
    go (Some i) noted = (
      noted.0,
      noted.1,
      beside v j there (note.Valid Disposal s) i
          (λ (same : i ≡ j). absurd (cc (free, same, noted.2)))
          ∙ noted.2,
    )

stays_under : (v : CoreView) (s : SlotId) (word : Option ℕ) → CanUse word v → length v.notes ≡ 4
    → StaysUnder v (with_guarded word s v)
stays_under v s None free four = stays_owning v s
stays_under v s (Some j) free four =
    stays_guarding v s j (let small = free.1 in omega arith) free.2

stays_none : (v : CoreView) (word : Option ℕ) → StaysUnder v (with_none word v)
stays_none v None snap under = under
stays_none v (Some j) snap under = under

-- whatever a try to take one finds
pub stays_found : {P V : Type 0} (fits : List ℕ → Type 0) (d : DomainState P) (place : EventPlace)
    (next : OwnPart → OwnPart → V → PlainAct → ℕ → V)
    (allows : Plain → Plain → ℕ → V → V → Type 0) (word : Option ℕ) (old new : SeatState V)
    → CanUse word old.view.core → (a : WeakAnswer)
    → Finds fits d place next allows word a old new
    → StaysUnder old.view.core new.view.core
stays_found fits d place next allows word old new free answer.Null null =
    subst (StaysUnder old.view.core) (sym null.becomes.core) (λ snap under. under)
stays_found fits d place next allows word old new free answer.Zero found =
    subst (StaysUnder old.view.core) (sym found.core) (stays_none old.view.core word)
stays_found fits d place next allows word old new free (answer.Held snap) found =
    subst (StaysUnder old.view.core) (sym found.1.core)
    (stays_under old.view.core snap.slot word free
    (four_notes found.1.protects.by.announces.becomes.walks.1.told))
