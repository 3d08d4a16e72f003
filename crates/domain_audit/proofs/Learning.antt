-- What a seat that is alone knows once it has announced a slot and taken that back.
use Rattle.std.proofs.Common.{◌≡◌, ℕ, ◌+◌, ◌<◌, List, [], ◌∷◌, ◌++◌, length, refl, ap, sym, ◌∙◌, subst, arith}
use Rattle.std.specs.Prelude.{IsSome, Some}
use Rattle.std.specs.Option.{option_map}
use Rattle.plain_audit.specs.plain_state.declared.act.PlainAct.{PlainAct}
use Rattle.plain_audit.specs.plain_state.declared.slot.Kind.TheVariants.{Strong}
use Rattle.plain_audit.specs.plain_state.declared.slot.SlotId.{SlotId}
use Rattle.plain_audit.specs.plain_state.Fits.{AllFit}
use Rattle.plain_audit.specs.plain_state.Lists.{Entry}
use Rattle.plain_audit.specs.plain_state.State.{Plain}
use Rattle.plain_audit.specs.plain_state.Steps.{Row}
use Rattle.plain_audit.specs.plain_protocol.Owns.{HasSlot, OwnPart}
use Rattle.protected_loads.specs.core_events.declared.act.Act.{Act}
use Rattle.protected_loads.specs.core_events.declared.act.Act.TheVariants as act
use Rattle.protected_loads.specs.core_events.declared.outcome.Outcome.{Outcome}
use Rattle.protected_loads.specs.core_events.declared.outcome.Outcome.TheVariants as outcome
use Rattle.protected_loads.specs.core_events.declared.shape.Shape.{Shape}
use Rattle.protected_loads.specs.core_events.declared.view.CoreView.{CoreView}
use Rattle.protected_loads.specs.core_events.declared.view.Move.{Move}
use Rattle.protected_loads.specs.core_events.declared.view.Note.{Note}
use Rattle.protected_loads.specs.core_events.declared.view.Note.TheVariants as note
use Rattle.protected_loads.specs.core_events.Runs.{Core, after, view_at}
use Rattle.protected_loads.specs.core_events.Shows.{show_seat, shows}
use Rattle.protected_loads.specs.core_events.ShownSteps.{releases}
use Rattle.protected_loads.specs.core_events.Steps.{May, with_note}
use Rattle.protected_loads.specs.core_events.Views.{note_of}
use Rattle.protected_loads.specs.core_law.Sound.{Sound}
use Rattle.protected_loads.proofs.Below.core_law_Events.{event_shows}
use Rattle.protected_loads.specs.domain_rule.declared.view.SeatView.{SeatView}
use Rattle.protected_loads.specs.domain_rule.declared.view.Whole.{Whole}
use Rattle.protected_loads.specs.domain_rule.Rule.{OthersLeft}
use Rattle.protected_loads.specs.domain_rule.Views.{IsAlone, core_in, own_of}
use Rattle.protected_loads.specs.acquire_retire.Calls.{IsSameView, Steps, same_view}
use Rattle.protected_loads.specs.acquire_retire.Collecting.{move}
use Rattle.protected_loads.specs.acquire_retire.Domains.{DomainState}
use Rattle.protected_loads.specs.acquire_retire.Seats.{SeatState}
use Rattle.protected_loads.specs.acquire_retire.Wholes.{core_known, known_core}
use Rattle.protected_loads.specs.control_word.Moves.{KnowsStill}
use Rattle.protected_loads.specs.control_word.Resting.{IsAtRest}
use Rattle.protected_loads.proofs.Below.control_word_Becoming.{Comes, bare, comes_more, comes_one, rest_after}
use Rattle.protected_loads.proofs.Below.control_word_Finding.{sound_before}
use Rattle.protected_loads.proofs.Noting.{announced_not_valid, announced_same, release_keeps, second_stays, written, written_back}
use Rattle.protected_loads.proofs.Telling.{four_notes}
use Rattle.slot_store.proofs.Objects.{known_after, known_before, known_still, some_value, sound_later}
use Rattle.domain_audit.specs.Audits.{KnowsLone, Stays, there_and_back}

-- what a seat knows of the whole state is what the core shows that it knows
pub knows_shown : {V : Type 0} (z : Shape) (v : SeatView V) → v.core.shape ≡ z → IsSome v.whole
    → (own_of v).whole ≡ Some (shows z (known_core v))
knows_shown z v shape known =
    let all = some_value v.whole known in
    ap (option_map (λ (w : Whole). shows v.core.shape (core_in w))) all.1
    ∙ (λ i. Some (shows (shape i) (core_known (sym all.1 i))))

-- a release of what was announced and not checked shows nothing
still_shown : (n : Note) (s : SlotId) (p q : Plain) (m number : ℕ) → n ≡ note.Announced Strong s
    → Row p m (releases n) number q → q ≡ p
still_shown n s p q m number is row =
    (subst (λ (x : Note). Row p m (releases x) number q) is row).1

pub may_announce : {P V : Type 0} (d : DomainState P) (s : SlotId) (old : SeatState V)
    → IsAtRest d old → s.0 < d.shape.slots → May d.shape (act.Announce 0 Strong s) old.view.core
may_announce d s old rest there = (rest.idle, omega arith, rest.first, there)

module _ {P V : Type 0} {fits : List ℕ → Type 0} (d : DomainState P) (s : SlotId)
    (old mid new : SeatState V) (rest : IsAtRest d old) where
  module _ (o : Outcome)
      (announce : Steps fits d same_view IsSameView (act.Announce 0 Strong s) old mid o) where
    abbrev announced : CoreView
    announced = with_note 0 (note.Announced Strong s) old.view.core

    goes : Comes fits d (move (act.Announce 0 Strong s) outcome.Plain ∷ []) announced old.view.core
        old mid
    goes =
        comes_one d (act.Announce 0 Strong s) old mid outcome.Plain 0 announced old.view.core
        (subst (Steps fits d same_view IsSameView (act.Announce 0 Strong s) old mid)
        announce.answers announce)
        refl refl refl (λ x has. has) (λ w x it. refl)

    four : 0 < length old.view.core.notes
    four = let notes = four_notes announce.told in omega arith

    noted : note_of mid.view.core 0 ≡ note.Announced Strong s
    noted =
        ap (λ (v : CoreView). note_of v 0) goes.by.core
        ∙ written old.view.core 0 four (note.Announced Strong s)

    has_still : (x : SlotId) → HasSlot (show_seat old.view.core) x
        → HasSlot (show_seat mid.view.core) x
    has_still x has =
        subst (λ (v : CoreView). HasSlot (show_seat v) x) (sym goes.by.core)
        (subst (λ (es : List Entry). HasSlot (record (show_seat old.view.core) { snapshots = es }) x)
        (sym (announced_same old.view.core 0 four (note.Announced Strong s)
        (announced_not_valid Strong s) rest.first)) has)

    pub may_release : May d.shape (act.Release 0) mid.view.core
    may_release = (
      (
        ap (λ (v : CoreView). v.phase) goes.by.core ∙ rest.idle.0,
        ap (λ (v : CoreView). v.left) goes.by.core ∙ rest.idle.1,
      ),
      omega arith,
      (λ free. absurd (cc (free, noted))),
    )

    module _ (answer : Outcome)
        (release : Steps fits d same_view IsSameView (act.Release 0) mid new answer) where
      comes : Comes fits d (move (act.Release 0) outcome.Plain ∷ []) old.view.core old.view.core
          mid new
      comes =
          comes_one d (act.Release 0) mid new outcome.Plain 0 old.view.core old.view.core
          (subst (Steps fits d same_view IsSameView (act.Release 0) mid new) release.answers release)
          refl
          (ap (λ (v : CoreView). bare (with_note 0 note.Idle v)) goes.by.core
          ∙ ap bare (second_stays old.view.core 0 (note.Announced Strong s) note.Idle
          ∙ written_back old.view.core 0 note.Idle rest.first))
          refl has_still (λ w x it. release_keeps (note_of mid.view.core 0) x it)

      there_and_back_again : Comes fits d (there_and_back s) old.view.core old.view.core old new
      there_and_back_again =
          comes_more d (move (act.Announce 0 Strong s) outcome.Plain ∷ [])
          (move (act.Release 0) outcome.Plain ∷ []) announced old.view.core old.view.core old mid new
          goes comes

      pub stays : Stays fits d old new
      stays = (s, there_and_back_again.by)

      pub knows_on : (new.view.client ≡ old.view.client) × KnowsStill old.view.core old new
      knows_on = (there_and_back_again.client, there_and_back_again.knows)

      pub rests : IsAtRest d new
      rests =
          rest_after d (there_and_back s) old.view.core old new there_and_back_again.by refl rest

      module _ (alone : IsAlone old.view) (known : IsSome old.view.whole) where
        pub stays_alone : IsAlone new.view
        stays_alone =
            subst (λ (v : CoreView). (v.seat ≡ 0) × (length v.left_seats + 1 ≡ v.shape.seats))
            (sym there_and_back_again.by.core) alone

        knows_mid : IsSome mid.view.whole
        knows_mid = known_still announce.told known

        knows_new : IsSome new.view.whole
        knows_new = known_still release.told knows_mid

        abbrev first : Core
        first = announce.told.happened.before

        abbrev second : Core
        second = release.told.happened.before

        abbrev last : Core
        last = after d.shape second mid.view.core.seat (act.Release 0)

        -- neither step shows one of the plain state
        first_still : shows d.shape second ≡ shows d.shape first
        first_still =
            let h = announce.told.happened in
            let same : second ≡ after d.shape first old.view.core.seat (act.Announce 0 Strong s) =
            sym (known_before release.told knows_mid) ∙ known_after announce.told known in
            ap (shows d.shape) same
            ∙ (event_shows d.shape first old.view.core.seat (act.Announce 0 Strong s)
            (sound_before announce.told) h.enabled).1.1

        second_still : shows d.shape last ≡ shows d.shape second
        second_still =
            let h = release.told.happened in
            let n = mid.view.core.seat in
            still_shown (note_of (view_at second n) 0) s (shows d.shape second) (shows d.shape last) n 0
            (ap (λ (v : CoreView). note_of v 0) (sym h.view) ∙ noted)
            (event_shows d.shape second n (act.Release 0) (sound_before release.told) h.enabled).1

        state_stays : shows d.shape (known_core new.view) ≡ shows d.shape (known_core old.view)
        state_stays =
            ap (shows d.shape) (known_after release.told knows_mid)
            ∙ second_still ∙ first_still
            ∙ sym (ap (shows d.shape) (known_before announce.told known))

        root : mid.view.core.seat ≡ 0
        root = ap (λ (v : CoreView). v.seat) goes.by.core ∙ alone.0

        now : known_core new.view ≡ last
        now = known_after release.told knows_mid

        left : OthersLeft last
        left =
            let all = some_value new.view.whole knows_new in
            (release.told.says.whole all.0 all.1).2

        pub learns : KnowsLone fits d new
        learns = record {
          known = knows_new;
          sound = subst (Sound d.shape) (sym now) (sound_later release.told);
          half = release.told.says.core
              ∙ (λ i. view_at (sym now i) (root i));
          others = subst OthersLeft (sym now) left;
          fit = subst (λ (c : Core). AllFit fits (shows d.shape c)) (sym now)
              release.told.happened.fact.1;
        }

        pub whole_stays : (own_of new.view).whole ≡ (own_of old.view).whole
        whole_stays =
            knows_shown d.shape new.view rests.of_domain.1 knows_new
            ∙ ap Some state_stays
            ∙ sym (knows_shown d.shape old.view rest.of_domain.1 known)
