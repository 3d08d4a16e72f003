-- The release of a word.
use Rattle.std.proofs.Common.{◌≡◌, ℕ, List, [], ◌∷◌, refl, ap, sym, ◌∙◌, subst}
use Rattle.protected_loads.specs.plain_state.declared.slot.SlotId.{SlotId}
use Rattle.protected_loads.specs.plain_protocol.Owns.{HasSlot}
use Rattle.protected_loads.specs.core_events.declared.act.Act.TheVariants as act
use Rattle.protected_loads.specs.core_events.declared.outcome.Outcome.{Outcome}
use Rattle.protected_loads.specs.core_events.declared.outcome.Outcome.TheVariants as outcome
use Rattle.protected_loads.specs.core_events.declared.view.CoreView.{CoreView}
use Rattle.protected_loads.specs.core_events.declared.view.Move.{Move}
use Rattle.protected_loads.specs.core_events.declared.view.Note.TheVariants as note
use Rattle.protected_loads.specs.core_events.Shows.{show_seat}
use Rattle.protected_loads.specs.core_events.Steps.{with_note}
use Rattle.protected_loads.specs.core_events.Views.{note_of}
use Rattle.protected_loads.specs.acquire_retire.Calls.{IsSameView, Steps, same_view}
use Rattle.protected_loads.specs.acquire_retire.Collecting.{move}
use Rattle.protected_loads.specs.acquire_retire.Domains.{DomainState}
use Rattle.protected_loads.specs.acquire_retire.Seats.{SeatState}
use Rattle.protected_loads.proofs.Below.control_word_Becoming.{Comes, bare, comes_one}
use Rattle.protected_loads.proofs.Noting.{release_keeps}

module _ {P V : Type 0} {fits : List ℕ → Type 0} (d : DomainState P) (j : ℕ) (u v kept : CoreView)
    (old new : SeatState V) where
  -- a seat that has u has v once its word stands for nothing, and knows what it knew of the slots
  -- that it has by `kept`
  pub releases : (t : List Move) → old.view.core ≡ record u { trail = t }
      → bare (with_note j note.Idle u) ≡ bare v
      → ((x : SlotId) → HasSlot (show_seat kept) x → HasSlot (show_seat u) x)
      → (o : Outcome) → Steps fits d same_view IsSameView (act.Release j) old new o
      → Comes fits d (move (act.Release j) outcome.Plain ∷ []) v kept old new
  releases t is back has o step =
      comes_one d (act.Release j) old new outcome.Plain 0 v kept
      (subst (λ (x : Outcome). Steps fits d same_view IsSameView (act.Release j) old new x)
      step.answers step)
      refl (ap (λ (y : CoreView). bare (with_note j note.Idle y)) is ∙ back) refl
      (λ x it. subst (λ (y : CoreView). HasSlot (show_seat y) x) (sym is) (has x it))
      (λ w x it. release_keeps (note_of old.view.core j) x it)
