-- The release of a word that stood for a snapshot.
use Rattle.std.proofs.Common.{◌≡◌, ◌≢◌, ℕ, ◌<◌, List, [], ◌∷◌, length, refl, ap, ◌∙◌, subst, arith}
use Rattle.std.specs.Prelude.{slice_set}
use Rattle.std.proofs.lemmas.Bool.Decides.{nat_tests}
use Rattle.protected_loads.specs.plain_state.declared.slot.Kind.{Kind}
use Rattle.protected_loads.specs.plain_state.declared.slot.Kind.TheVariants.{Strong, Weak, Disposal}
use Rattle.protected_loads.specs.plain_state.declared.slot.SlotId.{SlotId}
use Rattle.protected_loads.proofs.Below.plain_state_Kit.{entry_loses}
use Rattle.protected_loads.specs.plain_protocol.Owns.{HasSlot}
use Rattle.protected_loads.specs.core_events.declared.act.Act.TheVariants as act
use Rattle.protected_loads.specs.core_events.declared.outcome.Outcome.{Outcome}
use Rattle.protected_loads.specs.core_events.declared.outcome.Outcome.TheVariants as outcome
use Rattle.protected_loads.specs.core_events.declared.view.CoreView.{CoreView}
use Rattle.protected_loads.specs.core_events.declared.view.Note.TheVariants as note
use Rattle.protected_loads.specs.core_events.Shows.{show_seat}
use Rattle.protected_loads.specs.core_events.Steps.{IsIdle, with_note}
use Rattle.protected_loads.specs.core_events.Views.{note_of, valid_of}
use Rattle.protected_loads.proofs.Below.core_law_Losing.{valid_loses}
use Rattle.protected_loads.specs.acquire_retire.Calls.{IsSameView, Steps, same_view}
use Rattle.protected_loads.specs.acquire_retire.Collecting.{move}
use Rattle.protected_loads.specs.acquire_retire.Domains.{DomainState}
use Rattle.protected_loads.specs.acquire_retire.Seats.{SeatState}
use Rattle.protected_loads.specs.control_word.Moves.{Becomes, KnowsStill}
use Rattle.protected_loads.specs.control_word.Resting.{IsAtRest}
use Rattle.protected_loads.proofs.Below.control_word_Becoming.{Comes, calling, comes_one}
use Rattle.protected_loads.proofs.Noting.{all_settled, beside, release_keeps, rests_noted}
use Rattle.snapshot_ptr.proofs.Under.{noted_there}

-- what a seat has without a snapshot it has with it
released_has : (v : CoreView) (j : ℕ) (k : Kind) (s x : SlotId) → note_of v j ≡ note.Valid k s
    → HasSlot (show_seat (with_note j note.Idle v)) x → HasSlot (show_seat v) x
released_has v j k s x noted has =
    let less = valid_loses v.notes j k s (noted_there v.notes j k s noted) noted in
    let ns = valid_of v.notes in
    let ms = valid_of (slice_set v.notes j note.Idle) in
    let a = entry_loses Strong x (k, s) ns ms less in
    let b = entry_loses Weak x (k, s) ns ms less in
    let c = entry_loses Disposal x (k, s) ns ms less in grind (arith, nat_tests)

module _ {P V : Type 0} (d : DomainState P) (old : SeatState V) (j : ℕ)
    (s : SlotId) (rest : IsAtRest d old)
    (held : (0 < j) × (j < 4) × (note_of old.view.core j ≡ note.Valid Strong s)) where
  there : j < length old.view.core.notes
  there = noted_there old.view.core.notes j Strong s held.2

  pub may_release : IsIdle old.view.core × (j < 4) × (note_of old.view.core j ≢ note.Idle)
  may_release = (rest.idle, held.1, (λ free. absurd (cc (free, held.2))))

  module _ {fits : List ℕ → Type 0} (new : SeatState V) (o : Outcome)
      (release : Steps fits d same_view IsSameView (act.Release j) old new o) where
    comes : Comes fits d (move (act.Release j) outcome.Plain ∷ [])
        (with_note j note.Idle old.view.core) (with_note j note.Idle old.view.core) old new
    comes =
        comes_one d (act.Release j) old new outcome.Plain 0 (with_note j note.Idle old.view.core)
        (with_note j note.Idle old.view.core)
        (subst (λ (x : Outcome). Steps fits d same_view IsSameView (act.Release j) old new x)
        release.answers release)
        refl refl refl (λ x has. released_has old.view.core j Strong s x held.2 has)
        (λ w x it. release_keeps (note_of old.view.core j) x it)

    -- all that the release leaves
    pub released : Becomes fits d same_view IsSameView (move (act.Release j) outcome.Plain ∷ [])
        (with_note j note.Idle old.view.core) old new
        × (new.view.client ≡ old.view.client)
        × KnowsStill (with_note j note.Idle old.view.core) old new × IsAtRest d new
    released = (
      comes.by,
      comes.client,
      comes.knows,
      rests_noted d old new rest release.table (slice_set old.view.core.notes j note.Idle)
          (ap calling comes.by.core)
          (beside old.view.core j there note.Idle 0 (λ (first : 0 ≡ j). omega (arith, held.0))
          ∙ rest.first)
          (all_settled old.view.core j there note.Idle tt rest.others),
    )
