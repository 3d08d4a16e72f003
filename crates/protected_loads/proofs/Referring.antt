-- The second half of a load: what is protected gets a reference, and the announcement goes.
use Rattle.std.proofs.Common.{◌≡◌, ◌≢◌, ℕ, ◌<◌, List, [], ◌∷◌, ◌++◌, length, refl, ap, sym, ◌∙◌, subst, arith, append_assoc}
use Rattle.std.specs.Prelude.{slice_index_or, slice_set}
use Rattle.std.proofs.lemmas.Bool.Decides.{nat_tests}
use Rattle.control_word.specs.plain_state.declared.act.EventPlace.{EventPlace}
use Rattle.control_word.specs.plain_state.declared.act.PlainAct.{PlainAct}
use Rattle.control_word.specs.plain_state.declared.slot.Kind.{Kind}
use Rattle.control_word.specs.plain_state.declared.slot.Kind.TheVariants.{Strong, Weak, Disposal}
use Rattle.control_word.specs.plain_state.declared.slot.SlotId.{SlotId}
use Rattle.control_word.specs.plain_state.Lists.{entry_times}
use Rattle.control_word.specs.plain_state.Places.{place_kind}
use Rattle.control_word.specs.plain_state.State.{Plain}
use Rattle.control_word.specs.plain_protocol.Owns.{HasSlot, OwnPart}
use Rattle.control_word.specs.core_events.declared.act.Act.TheVariants as act
use Rattle.control_word.specs.core_events.declared.outcome.Outcome.{Outcome}
use Rattle.control_word.specs.core_events.declared.outcome.Outcome.TheVariants as outcome
use Rattle.control_word.specs.core_events.declared.view.CoreView.{CoreView}
use Rattle.control_word.specs.core_events.declared.view.Move.{Move}
use Rattle.control_word.specs.core_events.declared.view.Note.{Note}
use Rattle.control_word.specs.core_events.declared.view.Note.TheVariants as note
use Rattle.control_word.specs.core_events.Shows.{show_seat}
use Rattle.control_word.specs.core_events.Steps.{IsIdle, with_note}
use Rattle.control_word.specs.core_events.Views.{note_of, snapshots}
use Rattle.control_word.proofs.Below.core_law_Kit.{times_push}
use Rattle.control_word.specs.acquire_retire.Calls.{IsOf, IsSameView, Steps, same_view}
use Rattle.control_word.specs.acquire_retire.Collecting.{move}
use Rattle.control_word.specs.acquire_retire.Domains.{DomainState}
use Rattle.control_word.specs.acquire_retire.Seats.{SeatState}
use Rattle.control_word.specs.Moves.{KnowsStill}
use Rattle.control_word.specs.Resting.{IsAtRest}
use Rattle.control_word.proofs.Becoming.{Comes, bare, calling, comes_more, comes_one, walks_table}
use Rattle.protected_loads.specs.Loads.{Protects, announced_by, protected_by, with_snapshot}
use Rattle.protected_loads.specs.References.{Refers, counted_as, counting, kept_by, with_reference}
use Rattle.protected_loads.proofs.Noting.{more_has, release_keeps, rests_still, second_stays, snapshot_gains, some_more, written, written_back}
use Rattle.protected_loads.proofs.Protecting.{holds_snapshot}
use Rattle.protected_loads.proofs.Telling.{four_notes, holds_has}

-- a reference more leaves what tells whether a seat is in a call, and it goes beside a note
calls_still : (k : Kind) (s : SlotId) (v : CoreView) → calling (with_reference k s v) ≡ calling v
calls_still Strong s v = refl
calls_still Weak s v = refl
calls_still Disposal s v = refl

goes_beside : (k : Kind) (s : SlotId) (j : ℕ) (n : Note) (v : CoreView)
    → with_note j n (with_reference k s v) ≡ with_reference k s (with_note j n v)
goes_beside Strong s j n v = refl
goes_beside Weak s j n v = refl
goes_beside Disposal s j n v = refl

-- with a reference more a seat has the slots that it had
has_still : (k : Kind) (s : SlotId) (v : CoreView) (t : List Move) (x : SlotId)
    → HasSlot (show_seat v) x
    → HasSlot (show_seat (record (with_reference k s v) { trail = t })) x
has_still Strong s v t x has = let more = times_push x s v.owned in grind (arith, nat_tests)
has_still Weak s v t x has = let more = times_push x s v.weaks in grind (arith, nat_tests)
has_still Disposal s v t x has = let more = times_push x s v.weaks in grind (arith, nat_tests)

module _ {P V : Type 0} {fits : List ℕ → Type 0} (d : DomainState P) (place : EventPlace)
    {next : OwnPart → OwnPart → V → PlainAct → ℕ → V}
    {allows : Plain → Plain → ℕ → V → V → Type 0} (s : SlotId) (old mid : SeatState V)
    (rest : IsAtRest d old) (protects : Protects fits d 0 place next allows s old mid) where
  there : 0 < length old.view.core.notes
  there = let four = four_notes protects.announces.becomes.walks.1.told in omega arith

  noted_as : note_of mid.view.core 0 ≡ note.Valid (place_kind place) s
  noted_as =
      ap (λ (v : CoreView). note_of v 0) protects.core
      ∙ written old.view.core 0 there (note.Valid (place_kind place) s)

  pub idle_protected : IsIdle mid.view.core
  idle_protected = (
    ap (λ (v : CoreView). v.phase) protects.core ∙ rest.idle.0,
    ap (λ (v : CoreView). v.left) protects.core ∙ rest.idle.1,
  )

  pub snapshot_there : 0 < entry_times (place_kind place) s (snapshots mid.view.core)
  snapshot_there =
      subst (λ (v : CoreView). 0 < entry_times (place_kind place) s (snapshots v))
      (sym protects.core)
      (some_more old.view.core (slice_set old.view.core.notes 0 (note.Valid (place_kind place) s))
      (old.view.core.trail ++ protected_by 0 place s) (place_kind place) s
      (snapshot_gains old.view.core 0 there (place_kind place) s rest.first))

  has_protected : (x : SlotId) → HasSlot (show_seat old.view.core) x
      → HasSlot (show_seat mid.view.core) x
  has_protected x has =
      subst (λ (v : CoreView). HasSlot (show_seat v) x) (sym protects.core)
      (more_has old.view.core (slice_set old.view.core.notes 0 (note.Valid (place_kind place) s))
      (old.view.core.trail ++ protected_by 0 place s) (place_kind place) s
      (snapshot_gains old.view.core 0 there (place_kind place) s rest.first) x has)

  table_protected : mid.table ≡ old.table
  table_protected =
      walks_table fits d next allows (move (act.Check 0 place) outcome.Valid ∷ []) protects.mid mid
      protects.checks.walks
      ∙ walks_table fits d same_view IsSameView (announced_by 0 place s) old protects.mid
      protects.announces.becomes.walks

  module _ (k : Kind) (same : k ≡ place_kind place) (late : SeatState V)
      (count : Steps fits d same_view IsSameView (counting k s) mid late (counted_as k)) where
    count' : Steps fits d same_view IsSameView (counting (place_kind place) s) mid late
        (counted_as (place_kind place))
    count' =
        subst (λ (x : Kind). Steps fits d same_view IsSameView (counting x s) mid late
        (counted_as x)) same count

    counts : (x : Kind) → Steps fits d same_view IsSameView (counting x s) mid late (counted_as x)
        → Comes fits d (move (counting x s) (counted_as x) ∷ [])
        (with_reference x s (with_snapshot 0 place s old.view.core)) mid.view.core mid late
    counts Strong step =
        comes_one d (act.Add s) mid late outcome.Up 0
        (with_reference Strong s (with_snapshot 0 place s old.view.core)) mid.view.core step refl
        (ap (λ (v : CoreView). bare (with_reference Strong s v)) protects.core) refl
        (λ y has. has) (λ w y it. refl)
    counts Weak step =
        comes_one d (act.Wadd s) mid late outcome.Plain 0
        (with_reference Weak s (with_snapshot 0 place s old.view.core)) mid.view.core step refl
        (ap (λ (v : CoreView). bare (with_reference Weak s v)) protects.core) refl
        (λ y has. has) (λ w y it. refl)
    counts Disposal step =
        comes_one d (act.Wadd s) mid late outcome.Plain 0
        (with_reference Disposal s (with_snapshot 0 place s old.view.core)) mid.view.core step refl
        (ap (λ (v : CoreView). bare (with_reference Disposal s v)) protects.core) refl
        (λ y has. has) (λ w y it. refl)

    first : Comes fits d (move (counting (place_kind place) s) (counted_as (place_kind place)) ∷ [])
        (with_reference (place_kind place) s (with_snapshot 0 place s old.view.core))
        mid.view.core mid late
    first = counts (place_kind place) count'

    calls_late : calling late.view.core ≡ calling (with_snapshot 0 place s old.view.core)
    calls_late =
        ap calling first.by.core
        ∙ calls_still (place_kind place) s (with_snapshot 0 place s old.view.core)

    noted_late : note_of late.view.core 0 ≡ note.Valid (place_kind place) s
    noted_late =
        ap (λ x. slice_index_or x.3 0 note.Idle) calls_late
        ∙ written old.view.core 0 there (note.Valid (place_kind place) s)

    pub is_of_counted : IsOf d late
    is_of_counted = (
      count.table ∙ table_protected ∙ rest.of_domain.0,
      ap (λ x. x.0) calls_late ∙ rest.of_domain.1,
    )

    pub may_release : IsIdle late.view.core × (0 < 4) × (note_of late.view.core 0 ≢ note.Idle)
    may_release = (
      (ap (λ x. x.1) calls_late ∙ rest.idle.0, ap (λ x. x.2) calls_late ∙ rest.idle.1),
      omega arith,
      (λ free. absurd (cc (free, noted_late))),
    )

    module _ (new : SeatState V) (o : Outcome)
        (release : Steps fits d same_view IsSameView (act.Release 0) late new o) where
      second : Comes fits d (move (act.Release 0) outcome.Plain ∷ [])
          (with_reference (place_kind place) s old.view.core) mid.view.core late new
      second =
          comes_one d (act.Release 0) late new outcome.Plain 0
          (with_reference (place_kind place) s old.view.core) mid.view.core
          (subst (λ (x : Outcome). Steps fits d same_view IsSameView (act.Release 0) late new x)
          release.answers release)
          refl
          (ap (λ (v : CoreView). bare (with_note 0 note.Idle v)) first.by.core
          ∙ ap bare (goes_beside (place_kind place) s 0 note.Idle
          (with_snapshot 0 place s old.view.core)
          ∙ ap (with_reference (place_kind place) s)
          (second_stays old.view.core 0 (note.Valid (place_kind place) s) note.Idle
          ∙ written_back old.view.core 0 note.Idle rest.first)))
          refl
          (λ x has. subst (λ (v : CoreView). HasSlot (show_seat v) x) (sym first.by.core)
          (has_still (place_kind place) s (with_snapshot 0 place s old.view.core)
          (mid.view.core.trail
          ++ move (counting (place_kind place) s) (counted_as (place_kind place)) ∷ [])
          x (has_bare x has)))
          (λ w x it. release_keeps (note_of late.view.core 0) x it)
        where
          has_bare : (x : SlotId) → HasSlot (show_seat mid.view.core) x
              → HasSlot (show_seat (with_snapshot 0 place s old.view.core)) x
          has_bare x = subst (λ (v : CoreView). HasSlot (show_seat v) x) protects.core

      both : Comes fits d (kept_by (place_kind place) s)
          (with_reference (place_kind place) s old.view.core) mid.view.core mid new
      both =
          comes_more d
          (move (counting (place_kind place) s) (counted_as (place_kind place)) ∷ [])
          (move (act.Release 0) outcome.Plain ∷ [])
          (with_reference (place_kind place) s (with_snapshot 0 place s old.view.core))
          (with_reference (place_kind place) s old.view.core) mid.view.core mid late new first
          second

      refers : Refers fits d place next allows s old new
      refers = record {
        mid = mid;
        protects = protects;
        keeps = both.by;
        client = both.client;
        core =
            both.by.core
            ∙ ap (λ (t : List Move).
            record (with_reference (place_kind place) s old.view.core) { trail = t })
            (ap (λ (v : CoreView). v.trail ++ kept_by (place_kind place) s) protects.core
            ∙ append_assoc old.view.core.trail (protected_by 0 place s)
            (kept_by (place_kind place) s));
        cleared = both.by.cleared ∙ protects.cleared;
        object =
            both.knows s (holds_has mid.view.core s
            (holds_snapshot place 0 s old.view.core there rest.first mid
            (old.view.core.trail ++ protected_by 0 place s) protects.core))
            ∙ protects.object;
      }

      -- all that a load leaves that found s
      pub loaded : KnowsStill old.view.core old mid
          → Refers fits d place next allows s old new × KnowsStill old.view.core old new
          × IsAtRest d new
      loaded knows = (
        refers,
        (λ x has. both.knows x (has_protected x has) ∙ knows x has),
        rests_still d old new rest (release.table ∙ count.table ∙ table_protected)
            (ap calling refers.core ∙ calls_still (place_kind place) s old.view.core),
      )
