-- What a seat has once it protects what a place holds, and once it has missed it.
use Rattle.std.proofs.Common.{◌≡◌, ◌≢◌, ℕ, ◌<◌, List, [], ◌∷◌, ◌++◌, length, refl, ap, sym, ◌∙◌, subst, arith, append_assoc}
use Rattle.std.specs.Prelude.{Option, Some, slice_set}
use Rattle.control_word.specs.plain_state.declared.act.EventPlace.{EventPlace}
use Rattle.control_word.specs.plain_state.declared.act.PlainAct.{PlainAct}
use Rattle.control_word.specs.plain_state.declared.slot.SlotId.{SlotId}
use Rattle.control_word.specs.plain_state.Places.{place_kind}
use Rattle.control_word.specs.plain_state.State.{Plain}
use Rattle.control_word.specs.plain_protocol.Owns.{HasSlot, OwnPart, object_of}
use Rattle.control_word.specs.core_events.declared.act.Act.TheVariants as act
use Rattle.control_word.specs.core_events.declared.outcome.Outcome.{Outcome}
use Rattle.control_word.specs.core_events.declared.outcome.Outcome.TheVariants as outcome
use Rattle.control_word.specs.core_events.declared.view.CoreView.{CoreView}
use Rattle.control_word.specs.core_events.declared.view.Move.{Move}
use Rattle.control_word.specs.core_events.declared.view.Note.TheVariants as note
use Rattle.control_word.specs.core_events.Shows.{show_seat}
use Rattle.control_word.specs.core_events.Steps.{IsIdle, with_note}
use Rattle.control_word.specs.core_events.Views.{Holds, note_of}
use Rattle.control_word.specs.acquire_retire.Calls.{IsOf, IsSameView, Steps, same_view}
use Rattle.control_word.specs.acquire_retire.Collecting.{move}
use Rattle.control_word.specs.acquire_retire.Domains.{DomainState}
use Rattle.control_word.specs.acquire_retire.Seats.{SeatState}
use Rattle.control_word.proofs.Below.acquire_retire_Contents.{check_on}
use Rattle.control_word.specs.domain_rule.Views.{object_in}
use Rattle.control_word.specs.Moves.{Becomes, KnowsStill}
use Rattle.control_word.specs.Resting.{IsAtRest}
use Rattle.control_word.proofs.Becoming.{bare, calling, knows_after, one_step, walks_table}
use Rattle.protected_loads.specs.Loads.{Announces, Misses, Protects, announced_by, protected_by, with_announced, with_snapshot}
use Rattle.protected_loads.proofs.Checking.{becomes_moved, becomes_valid, has_announced, knows_checked, moved_word, valid_answer, valid_word}
use Rattle.protected_loads.proofs.Noting.{all_settled, beside, more_holds, release_keeps, rests_noted, rests_still, second_stays, snapshot_gains, written, written_back}
use Rattle.protected_loads.proofs.Telling.{checked_slot, content_found, four_notes, holds_has}

-- a seat that came to have a snapshot holds its slot
module _ {V : Type 0} (place : EventPlace) (j : ℕ) (s : SlotId) (v : CoreView)
    (there : j < length v.notes) (idle : note_of v j ≡ note.Idle) (new : SeatState V)
    (ms : List Move) (is : new.view.core ≡ record (with_snapshot j place s v) { trail = ms }) where
  pub holds_snapshot : Holds new.view.core s
  holds_snapshot =
      subst (λ (u : CoreView). Holds u s) (sym is)
      (more_holds v (slice_set v.notes j (note.Valid (place_kind place) s)) ms (place_kind place) s
      (snapshot_gains v j there (place_kind place) s idle))

module _ {P V : Type 0} {fits : List ℕ → Type 0} (d : DomainState P) (place : EventPlace) (j : ℕ)
    (small : j < 4) (s : SlotId) (old mid : SeatState V) (rest : IsAtRest d old)
    (idle : note_of old.view.core j ≡ note.Idle) (announces : Announces fits d j place s old mid)
  where
    there : j < length old.view.core.notes
    there = let four = four_notes announces.becomes.walks.1.told in omega arith

    table_announced : mid.table ≡ old.table
    table_announced =
        walks_table fits d same_view IsSameView (announced_by j place s) old mid
        announces.becomes.walks

    module _ {next : OwnPart → OwnPart → V → PlainAct → ℕ → V}
        {allows : Plain → Plain → ℕ → V → V → Type 0} where
      module _ (new : SeatState V) where
        -- the object of the snapshot is known as it was shown at the check
        protects_by : (by : Becomes fits d next allows (move (act.Check j place) outcome.Valid ∷ [])
            (with_snapshot j place s old.view.core) mid new)
            → Protects fits d j place next allows s old new
        protects_by by =
            let check = by.walks.1 in
            let core : new.view.core ≡ record (with_snapshot j place s old.view.core) {
              trail = old.view.core.trail ++ protected_by j place s;
            } =
            by.core
            ∙ ap (λ (t : List Move). record (with_snapshot j place s old.view.core) { trail = t })
            (ap (λ (v : CoreView). v.trail ++ move (act.Check j place) outcome.Valid ∷ [])
            announces.becomes.core
            ∙ append_assoc old.view.core.trail (announced_by j place s)
            (move (act.Check j place) outcome.Valid ∷ [])) in
            record {
              mid = mid;
              announces = announces;
              checks = by;
              core = core;
              cleared = by.cleared ∙ announces.becomes.cleared;
              there =
                  content_found check.told place (check_on d.shape j place)
                  ∙ valid_word d place j small s old mid rest idle announces by.walks.0 check;
              object =
                  ap (λ (x : SeatState V). object_in x.view s) by.walks.2
                  ∙ check.told.says.objects s (holds_has by.walks.0.view.core s
                  (subst (λ (x : SeatState V). Holds x.view.core s) by.walks.2
                  (holds_snapshot place j s old.view.core there idle new
                  (old.view.core.trail ++ protected_by j place s) core)))
                  ∙ ap object_of (checked_slot check.told j place refl s);
            }

        protects_rests : Protects fits d j place next allows s old new → new.table ≡ mid.table
            → j ≢ 0 → IsAtRest d new
        protects_rests is table apart =
            rests_noted d old new rest (table ∙ table_announced)
            (slice_set old.view.core.notes j (note.Valid (place_kind place) s))
            (ap calling is.core)
            (beside old.view.core j there (note.Valid (place_kind place) s) 0
            (λ e. apart (sym e))
            ∙ rest.first)
            (all_settled old.view.core j there (note.Valid (place_kind place) s) tt rest.others)

        -- all that a check leaves that didn't find another content
        pub protected : (o : Outcome) → Steps fits d next allows (act.Check j place) mid new o
            → ((now : Option SlotId) → o ≡ outcome.Moved now → ⊥)
            → Protects fits d j place next allows s old new
            × KnowsStill old.view.core old new × IsOf d new × (j ≢ 0 → IsAtRest d new)
        protected o step not =
            let is = valid_answer d place j small s old mid rest idle announces new o step not in
            let p = protects_by
            (becomes_valid d place j small s old mid rest idle announces new
            (subst (λ (x : Outcome). Steps fits d next allows (act.Check j place) mid new x) is
            step))
            in (
              p,
              knows_checked d place j small s old mid rest idle announces new o step,
              (
                step.table ∙ table_announced ∙ rest.of_domain.0,
                ap (λ (v : CoreView). v.shape) p.core ∙ rest.of_domain.1,
              ),
              protects_rests p step.table,
            )

      module _ (late : SeatState V) (now : Option SlotId)
          (check : Steps fits d next allows (act.Check j place) mid late (outcome.Moved now)) where
        checks : Becomes fits d next allows (move (act.Check j place) (outcome.Moved now) ∷ [])
            (with_announced j place s old.view.core) mid late
        checks = becomes_moved d place j small s old mid rest idle announces late now check

        noted_late : note_of late.view.core j ≡ note.Announced (place_kind place) s
        noted_late =
            ap (λ (v : CoreView). note_of v j) checks.core
            ∙ written old.view.core j there (note.Announced (place_kind place) s)

        pub is_of_late : IsOf d late
        is_of_late = (
          check.table ∙ table_announced ∙ rest.of_domain.0,
          ap (λ (v : CoreView). v.shape) checks.core ∙ rest.of_domain.1,
        )

        pub may_release : IsIdle late.view.core × (j < 4) × (note_of late.view.core j ≢ note.Idle)
        may_release = (
          (
            ap (λ (v : CoreView). v.phase) checks.core ∙ rest.idle.0,
            ap (λ (v : CoreView). v.left) checks.core ∙ rest.idle.1,
          ),
          small,
          (λ free. absurd (cc (free, noted_late))),
        )

        module _ (new : SeatState V) (o : Outcome)
            (release : Steps fits d same_view IsSameView (act.Release j) late new o) where
          releases : Becomes fits d same_view IsSameView (move (act.Release j) outcome.Plain ∷ [])
              old.view.core late new
          releases =
              one_step d (act.Release j) late new outcome.Plain 0 old.view.core
              (subst (λ (x : Outcome). Steps fits d same_view IsSameView (act.Release j) late new x)
              release.answers release)
              refl
              (ap (λ (v : CoreView). bare (with_note j note.Idle v)) checks.core
              ∙ ap bare (second_stays old.view.core j (note.Announced (place_kind place) s)
              note.Idle
              ∙ written_back old.view.core j note.Idle idle))
              refl

          misses_by : (by : Becomes fits d next allows
              (move (act.Check j place) (outcome.Moved now) ∷ [])
              (with_announced j place s old.view.core) mid late)
              → Misses fits d j place next allows (Some s) now old new
          misses_by by =
              let word = moved_word d place j small s old mid rest idle announces by.walks.0 now
              by.walks.1 in record {
                slot = s;
                found = refl;
                differ = word.1;
                mid = mid;
                announces = announces;
                late = late;
                checks = by;
                releases = releases;
                client = release.told.client;
                core =
                    releases.core
                    ∙ ap (λ (t : List Move). record old.view.core { trail = t })
                    (ap (λ (v : CoreView). v.trail ++ move (act.Release j) outcome.Plain ∷ [])
                    by.core
                    ∙ ap (λ (v : CoreView).
                    (v.trail ++ move (act.Check j place) (outcome.Moved now) ∷ [])
                    ++ move (act.Release j) outcome.Plain ∷ []) announces.becomes.core
                    ∙ append_assoc (old.view.core.trail ++ announced_by j place s)
                    (move (act.Check j place) (outcome.Moved now) ∷ [])
                    (move (act.Release j) outcome.Plain ∷ [])
                    ∙ append_assoc old.view.core.trail (announced_by j place s)
                    (move (act.Check j place) (outcome.Moved now)
                    ∷ move (act.Release j) outcome.Plain ∷ []));
                cleared = releases.cleared ∙ by.cleared ∙ announces.becomes.cleared;
                there =
                    content_found by.walks.1.told place (check_on d.shape j place) ∙ sym word.0;
              }

          knows_missed : KnowsStill old.view.core old new
          knows_missed x has =
              knows_after d (act.Release j) late new o old.view.core release
              (λ y it. subst (λ (v : CoreView). HasSlot (show_seat v) y) (sym checks.core)
              (has_announced d place j small s old mid rest idle announces y it
              (mid.view.core.trail ++ move (act.Check j place) (outcome.Moved now) ∷ [])))
              (λ w y it. release_keeps (note_of late.view.core j) y it) x has
              ∙ knows_checked d place j small s old mid rest idle announces late
              (outcome.Moved now) check x has

          -- all that the release leaves
          pub missed : Misses fits d j place next allows (Some s) now old new
              × KnowsStill old.view.core old new × IsAtRest d new
          missed =
              let misses = misses_by checks in (
                misses,
                knows_missed,
                rests_still d old new rest (release.table ∙ check.table ∙ table_announced)
                    (ap calling misses.core),
              )
