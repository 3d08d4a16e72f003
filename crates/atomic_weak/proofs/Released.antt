-- The release of a word that stood for a weak snapshot.
use Rattle.std.proofs.Common.{◌≡◌, ℕ, ◌<◌, List, [], ◌∷◌, length, refl, ap, ◌∙◌, arith}
use Rattle.std.specs.Prelude.{slice_set}
use Rattle.protected_loads.specs.plain_state.declared.slot.Kind.TheVariants.{Disposal}
use Rattle.protected_loads.specs.plain_state.declared.slot.SlotId.{SlotId}
use Rattle.protected_loads.specs.core_events.declared.act.Act.TheVariants as act
use Rattle.protected_loads.specs.core_events.declared.outcome.Outcome.{Outcome}
use Rattle.protected_loads.specs.core_events.declared.outcome.Outcome.TheVariants as outcome
use Rattle.protected_loads.specs.core_events.declared.view.Note.TheVariants as note
use Rattle.protected_loads.specs.core_events.Steps.{with_note}
use Rattle.protected_loads.specs.core_events.Views.{note_of}
use Rattle.protected_loads.specs.acquire_retire.Calls.{IsSameView, Steps, same_view}
use Rattle.protected_loads.specs.acquire_retire.Collecting.{move}
use Rattle.protected_loads.specs.acquire_retire.Domains.{DomainState}
use Rattle.protected_loads.specs.acquire_retire.Seats.{SeatState}
use Rattle.protected_loads.specs.control_word.Moves.{Becomes, KnowsStill}
use Rattle.protected_loads.specs.control_word.Resting.{IsAtRest}
use Rattle.protected_loads.proofs.Below.control_word_Becoming.{Comes, calling}
use Rattle.protected_loads.proofs.Noting.{all_settled, beside, rests_noted}
use Rattle.atomic_weak.proofs.Noted.{has_released, noted_there}
use Rattle.atomic_weak.proofs.Releasing.{releases}

module _ {P V : Type 0} {fits : List ℕ → Type 0} (d : DomainState P) (old : SeatState V) (j : ℕ)
    (s : SlotId) (rest : IsAtRest d old)
    (held : (0 < j) × (j < 4) × (note_of old.view.core j ≡ note.Valid Disposal s))
    (new : SeatState V) (o : Outcome)
    (release : Steps fits d same_view IsSameView (act.Release j) old new o) where
  there : j < length old.view.core.notes
  there = noted_there old.view.core.notes j Disposal s held.2

  comes : Comes fits d (move (act.Release j) outcome.Plain ∷ [])
      (with_note j note.Idle old.view.core) (with_note j note.Idle old.view.core) old new
  comes =
      releases d j old.view.core (with_note j note.Idle old.view.core)
      (with_note j note.Idle old.view.core) old new old.view.core.trail refl refl
      (λ x has. has_released old.view.core j Disposal s x held.2 has) o release

  -- all that the release leaves
  pub released : Becomes fits d same_view IsSameView (move (act.Release j) outcome.Plain ∷ [])
      (with_note j note.Idle old.view.core) old new
      × (new.view.client ≡ old.view.client)
      × KnowsStill (with_note j note.Idle old.view.core) old new × IsAtRest d new
  released = (
    comes.by,
    comes.client,
    comes.knows,
    rests_noted d old new rest release.table (slice_set old.view.core.notes j note.Idle)
        (ap calling comes.by.core)
        (beside old.view.core j there note.Idle 0 (λ (first : 0 ≡ j). omega (arith, held.0))
        ∙ rest.first)
        (all_settled old.view.core j there note.Idle tt rest.others),
  )
