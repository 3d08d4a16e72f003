-- The head that a seat sees, which it holds, and lets go.
use Rattle.std.proofs.Common.{◌≡◌, ◌≢◌, ℕ, ◌<◌, List, [], ◌∷◌, ◌++◌, length, refl, ap, ◌∙◌, subst, arith}
use Rattle.std.specs.Prelude.{slice_set}
use Rattle.atomic_weak.specs.plain_state.declared.slot.Kind.TheVariants.{Weak}
use Rattle.atomic_weak.specs.plain_state.declared.slot.SlotId.{SlotId}
use Rattle.atomic_weak.specs.plain_protocol.Owns.{HasSlot}
use Rattle.atomic_weak.specs.core_events.declared.act.Act.TheVariants as act
use Rattle.atomic_weak.specs.core_events.declared.outcome.Outcome.{Outcome}
use Rattle.atomic_weak.specs.core_events.declared.outcome.Outcome.TheVariants as outcome
use Rattle.atomic_weak.specs.core_events.declared.view.CoreView.{CoreView}
use Rattle.atomic_weak.specs.core_events.declared.view.Note.TheVariants as note
use Rattle.atomic_weak.specs.core_events.Shows.{show_seat}
use Rattle.atomic_weak.specs.core_events.Steps.{IsIdle}
use Rattle.atomic_weak.specs.core_events.Views.{Holds, note_of}
use Rattle.atomic_weak.specs.acquire_retire.Calls.{IsSameView, Steps, same_view}
use Rattle.atomic_weak.specs.acquire_retire.Collecting.{move}
use Rattle.atomic_weak.specs.acquire_retire.Domains.{DomainState}
use Rattle.atomic_weak.specs.acquire_retire.Seats.{SeatState}
use Rattle.atomic_weak.specs.control_word.Moves.{KnowsStill}
use Rattle.atomic_weak.specs.control_word.Resting.{IsAtRest}
use Rattle.atomic_weak.proofs.Below.control_word_Becoming.{Comes, calling, comes_one}
use Rattle.atomic_weak.proofs.Noted.{has_released, holds_weak, noted_there}
use Rattle.atomic_weak.proofs.Below.protected_loads_Noting.{all_settled, beside, release_keeps, rests_noted}
use Rattle.atomic_weak.proofs.Below.protected_loads_Telling.{holds_has}
use Rattle.weak_intern.specs.declared.seeing.Sighted.{Sighted}
use Rattle.weak_intern.specs.Sighting.{IsSighted, let_go_of}

module _ (it : Sighted) (v : CoreView) (sighted : IsSighted it v) where
  pub sighted_held : Holds v it.slot
  sighted_held = holds_weak v it.word it.slot sighted.2

  pub sighted_has : HasSlot (show_seat v) it.slot
  sighted_has = holds_has v it.slot sighted_held

  -- what a seat has without the head it has with it
  pub had_before : (x : SlotId) → HasSlot (show_seat (let_go_of it v)) x → HasSlot (show_seat v) x
  had_before x has = has_released v it.word Weak it.slot x sighted.2 has

module _ {P V : Type 0} (d : DomainState P) (old : SeatState V) (it : Sighted)
    (rest : IsAtRest d old) (sighted : IsSighted it old.view.core) where
  there : it.word < length old.view.core.notes
  there = noted_there old.view.core.notes it.word Weak it.slot sighted.2

  pub may_release : IsIdle old.view.core × (it.word < 4) × (note_of old.view.core it.word ≢ note.Idle)
  may_release = (rest.idle, sighted.1, (λ free. absurd (cc (free, sighted.2))))

  module _ {fits : List ℕ → Type 0} (new : SeatState V) (o : Outcome)
      (release : Steps fits d same_view IsSameView (act.Release it.word) old new o) where
    comes : Comes fits d (move (act.Release it.word) outcome.Plain ∷ [])
        (let_go_of it old.view.core) (let_go_of it old.view.core) old new
    comes =
        comes_one d (act.Release it.word) old new outcome.Plain 0 (let_go_of it old.view.core)
        (let_go_of it old.view.core)
        (subst (λ (x : Outcome). Steps fits d same_view IsSameView (act.Release it.word) old new x)
        release.answers release)
        refl refl refl (had_before it old.view.core sighted)
        (λ w x is. release_keeps (note_of old.view.core it.word) x is)

    -- all that the release leaves
    pub let_go_core : new.view.core
        ≡ record (let_go_of it old.view.core) {
          trail = old.view.core.trail ++ move (act.Release it.word) outcome.Plain ∷ [];
        }
    let_go_core = comes.by.core

    pub let_go_client : new.view.client ≡ old.view.client
    let_go_client = comes.client

    pub let_go_knows : KnowsStill (let_go_of it old.view.core) old new
    let_go_knows = comes.knows

    pub let_go_rests : IsAtRest d new
    let_go_rests =
        rests_noted d old new rest release.table
        (slice_set old.view.core.notes it.word note.Idle)
        (ap calling comes.by.core)
        (beside old.view.core it.word there note.Idle 0
        (λ (first : 0 ≡ it.word). omega (arith, first, sighted.0))
        ∙ rest.first)
        (all_settled old.view.core it.word there note.Idle tt rest.others)
