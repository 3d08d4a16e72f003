-- The notes of a seat once it has tried to take a weak snapshot: but for that of the snapshot all stay.
use Rattle.std.proofs.Common.{◌≡◌, ℕ, List, refl, ap, sym, ◌∙◌}
use Rattle.std.specs.Prelude.{Option, Some, None}
use Rattle.protected_loads.specs.plain_state.declared.act.EventPlace.{EventPlace}
use Rattle.protected_loads.specs.plain_state.declared.act.PlainAct.{PlainAct}
use Rattle.protected_loads.specs.plain_state.declared.slot.Kind.TheVariants.{Disposal}
use Rattle.protected_loads.specs.plain_state.declared.slot.SlotId.{SlotId}
use Rattle.protected_loads.specs.plain_state.State.{Plain}
use Rattle.protected_loads.specs.plain_protocol.Owns.{OwnPart}
use Rattle.protected_loads.specs.core_events.declared.view.CoreView.{CoreView}
use Rattle.protected_loads.specs.core_events.declared.view.Note.TheVariants as note
use Rattle.protected_loads.specs.acquire_retire.Domains.{DomainState}
use Rattle.protected_loads.specs.acquire_retire.Seats.{SeatState}
use Rattle.protected_loads.specs.control_word.Resting.{noted}
use Rattle.atomic_weak.specs.Questions.{with_guarded, with_none}
use Rattle.atomic_weak.specs.Taking.{Finds, notes_with}
use Rattle.atomic_weak.specs.declared.snapshots.WeakSnap.{WeakSnap as WeakAnswer}
use Rattle.atomic_weak.specs.declared.snapshots.WeakSnap.TheVariants as answer

guarded_notes : (word : Option ℕ) (s : SlotId) (v : CoreView)
    → (with_guarded word s v).notes ≡ noted word (note.Valid Disposal s) v.notes
guarded_notes None s v = refl
guarded_notes (Some j) s v = refl

none_notes : (word : Option ℕ) (v : CoreView) → (with_none word v).notes ≡ v.notes
none_notes None v = refl
none_notes (Some j) v = refl

module _ {P V : Type 0} (fits : List ℕ → Type 0) (d : DomainState P) (place : EventPlace)
    (next : OwnPart → OwnPart → V → PlainAct → ℕ → V)
    (allows : Plain → Plain → ℕ → V → V → Type 0) (word : Option ℕ) (old new : SeatState V) where
  pub notes_found : (a : WeakAnswer) → Finds fits d place next allows word a old new
      → new.view.core.notes ≡ notes_with a old.view.core.notes
  notes_found answer.Null null = ap (λ (v : CoreView). v.notes) null.becomes.core
  notes_found answer.Zero zero =
      ap (λ (v : CoreView). v.notes) zero.core ∙ none_notes word old.view.core
  notes_found (answer.Held snap) held =
      ap (λ (v : CoreView). v.notes) held.1.core ∙ guarded_notes word snap.slot old.view.core
      ∙ ap (λ w. noted w (note.Valid Disposal snap.slot) old.view.core.notes) (sym held.0)
