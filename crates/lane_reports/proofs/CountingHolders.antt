-- What a count of the references to a slot tells, of which a seat that is alone owns one.
use Rattle.std.proofs.Common.{◌≡◌, ℕ, ◌+◌, ◌++◌, ◌<◌, Bool, true, false, List, length, ap, sym, ◌∙◌, subst, refl, arith}
use Rattle.std.specs.Prelude.{◌==◌, IsSome, Some, if◌then◌else◌}
use Rattle.law_lesson.specs.plain_state.Fits.{AllFit}
use Rattle.law_lesson.specs.plain_state.declared.slot.SlotId.{SlotId}
use Rattle.law_lesson.specs.plain_state.Lists.{times}
use Rattle.law_lesson.specs.plain_state.References.{strong_refs}
use Rattle.law_lesson.specs.plain_state.State.{Plain, seat_at}
use Rattle.law_lesson.specs.counter_word.Words.{value}
use Rattle.domain_audit.specs.core_events.declared.act.Act.TheVariants as act
use Rattle.domain_audit.specs.core_events.declared.outcome.Outcome.TheVariants as outcome
use Rattle.domain_audit.specs.core_events.declared.view.CoreView.{CoreView}
use Rattle.domain_audit.specs.core_events.Runs.{Core, after, view_at}
use Rattle.domain_audit.specs.core_events.Shows.{show_seat, shows}
use Rattle.domain_audit.specs.core_events.Steps.{HasRoom}
use Rattle.domain_audit.specs.core_law.Sound.{Sound}
use Rattle.domain_audit.proofs.Below.core_law_Bridge.{shown_seat}
use Rattle.domain_audit.proofs.Below.core_law_Events.{event_shows}
use Rattle.domain_audit.specs.acquire_retire.Calls.{Steps, same_view}
use Rattle.domain_audit.specs.acquire_retire.Domains.{DomainState}
use Rattle.domain_audit.specs.acquire_retire.Seats.{SeatState}
use Rattle.domain_audit.specs.acquire_retire.Wholes.{KnowsState, core_known, known_core}
use Rattle.domain_audit.proofs.Below.acquire_retire_Wholes.{knows_state}
use Rattle.domain_audit.specs.control_word.Calls.{CountsStrong, counted_by}
use Rattle.domain_audit.specs.control_word.Moves.{Becomes, KnowsStill, last_core}
use Rattle.domain_audit.specs.control_word.Resting.{IsAtRest}
use Rattle.domain_audit.proofs.Below.control_word_Finding.{sound_before, strong_some, strong_word}
use Rattle.lane_domain.specs.directory_calls.Directories.{HasQuota}
use Rattle.lane_domain.specs.directory_calls.Steps.{Leaves}
use Rattle.lane_domain.proofs.Below.directory_calls_Going.{leaves_core}
use Rattle.law_lesson.specs.Lessons.{HoldsOf}
use Rattle.domain_audit.proofs.Learning.{knows_shown}
use Rattle.domain_audit.specs.domain_rule.Views.{own_of}
use Rattle.domain_audit.proofs.Below.slot_store_Objects.{known_after, known_before, known_still, some_value, sound_later}
use Rattle.lane_domain.specs.text_reading.Reading.{HasTwoFree}
use Rattle.lane_domain.specs.lane_files.declared.shared.Shared.{Shared}
use Rattle.words_rest.specs.words_law.Views.{View, gone}
use Rattle.lane_domain.specs.words_protocol.declared.law.WordsLaw.{WordsLaw}
use Rattle.lane_reports.specs.Holders.{IsCount, IsRoot, law_of}

-- a root is one after a call that left what it has beside
pub root_still : {d : DomainState WordsLaw} {on : Shared} {os ws : List SlotId}
    (a b : SeatState View) → IsRoot d on a → Leaves os ws a b → HasRoom b.view.core
    → IsAtRest d b → HasQuota b.view.client.1 → IsRoot d on b
root_still a b root left room rest quota = record {
  rest = rest;
  room = room;
  over = root.over;
  quota = quota;
  free = subst HasTwoFree (sym left.same) root.free;
  alone = subst (λ (v : CoreView). (v.seat ≡ 0) × (length v.left_seats + 1 ≡ v.shape.seats))
      (sym left.same) root.alone;
}

same_state : (x y : Plain) → Some x ≡ Some y → x ≡ y
same_state x y e = cc (e)

-- what the deed tells of a step
abbrev pub Lesson : DomainState WordsLaw → Plain → Plain → ℕ → View → View → Type 0
Lesson d p q n v w = (w ≡ v) × HoldsOf (law_of d) gone p n v

again_zero : (w n : ℕ) → outcome.Again ≡ (if w == 0 then outcome.Again else outcome.Number n)
    → w ≡ 0
again_zero w n is = grind arith

module _ (fits : List ℕ → Type 0) (d : DomainState WordsLaw) (on : Shared) (s : SlotId) (n : ℕ)
    (old : SeatState View) (root : IsRoot d on old) (known : IsSome old.view.whole)
    (own : 0 < times s old.view.core.owned) where
  -- the word isn't 0, since the seat's own reference is counted
  never_again : (mid : SeatState View)
      → Steps fits d same_view (Lesson d) (act.Count s) old mid outcome.Again → ⊥
  never_again mid step =
      let told = step.told in
      let zero = again_zero step.word _ step.answers in
      let count = strong_word told s (omega (arith, own)) told.happened.found in
      let some = strong_some told s (omega (arith, own)) in
      let none = ap value zero in
      absurd (omega (arith, count, some, none))

  module _ (new : SeatState View) (rest : IsAtRest d new)
      (step : Steps fits d same_view (Lesson d) (act.Count s) old new (outcome.Number n)) where
    abbrev before : Core
    before = step.told.happened.before

    abbrev later : Core
    later = after d.shape before old.view.core.seat (act.Count s)

    now : known_core new.view ≡ later
    now = known_after step.told known

    -- the step changes nothing
    same : shows d.shape (known_core new.view) ≡ shows d.shape before
    same =
        let h = step.told.happened in
        ap (shows d.shape) now
        ∙ (event_shows d.shape before old.view.core.seat (act.Count s) (sound_before step.told)
        h.enabled).1.2

    knows : KnowsState fits new.view (shows d.shape (known_core new.view))
    knows =
        let all = some_value new.view.whole (known_still step.told known) in
        knows_state fits d.shape (known_core new.view) new.view all.0 rest.of_domain.1
        (subst (Sound d.shape) (sym now) (sound_later step.told))
        (subst (λ (c : Core). AllFit fits (shows d.shape c)) (sym now) step.told.happened.fact.1)
        all.1 (sym (ap core_known all.1))

    mine : seat_at (shows d.shape (known_core new.view)) 0 ≡ show_seat new.view.core
    mine =
        let sound = sound_later step.told in
        let views = sound.views in
        let some = sound.shape.0 in
        ap (λ (c : Core). seat_at (shows d.shape c) 0) now
        ∙ shown_seat d.shape later 0 (omega arith)
        ∙ sym (ap show_seat (step.told.says.core ∙ ap (λ (m : ℕ). view_at later m) root.alone.0))

    client : new.view.client ≡ old.view.client
    client = step.told.client

    law : HoldsOf (law_of d) gone (shows d.shape (known_core new.view)) 0 new.view.client
    law = subst (λ (x : Plain × ℕ × View). HoldsOf (law_of d) gone x.0 x.1 x.2)
        (λ i. (sym same i, root.alone.0 i, sym client i)) step.told.happened.fact.2.1

    -- the state that the seat knew before
    was : (own_of old.view).whole ≡ Some (shows d.shape before)
    was =
        knows_shown d.shape old.view root.rest.of_domain.1 known
        ∙ ap (λ (c : Core). Some (shows d.shape c)) (known_before step.told known)

    whole_same : (own_of new.view).whole ≡ (own_of old.view).whole
    whole_same = knows.whole ∙ ap Some same ∙ sym was

  module _ (new : SeatState View) (rest : IsAtRest d new)
      (counts : CountsStrong fits d same_view (Lesson d) s n old new) where
    pub is_count : IsCount s n old
    is_count = of counts.again counts.becomes counts.count
      where
        of : (again : Bool)
            → (by : Becomes fits d same_view (Lesson d) (counted_by s n again) old.view.core old new)
            → strong_refs (shows d.shape (last_core by)) s ≡ n
            → IsCount s n old
        of false by count p whole =
            let mid = by.walks.0 in
            let at = subst (IsAtRest d) by.walks.2 rest in
            sym count
            ∙ ap (λ (q : Plain). strong_refs q s)
            (same_state (shows d.shape (last_core by)) p (sym (was mid at by.walks.1) ∙ whole))
        of true by count p whole = absurd (never_again by.walks.0 by.walks.1)

    pub whole_stays : (own_of new.view).whole ≡ (own_of old.view).whole
    whole_stays = of counts.again counts.becomes
      where
        of : (again : Bool)
            → Becomes fits d same_view (Lesson d) (counted_by s n again) old.view.core old new
            → (own_of new.view).whole ≡ (own_of old.view).whole
        of false by =
            ap (λ (x : SeatState View). (own_of x.view).whole) by.walks.2
            ∙ whole_same by.walks.0 (subst (IsAtRest d) by.walks.2 rest) by.walks.1
        of true by = absurd (never_again by.walks.0 by.walks.1)

    -- it was one step
    pub count_trail : new.view.core.trail ≡ old.view.core.trail ++ counted_by s n false
    count_trail = of counts.again counts.becomes
      where
        of : (again : Bool)
            → Becomes fits d same_view (Lesson d) (counted_by s n again) old.view.core old new
            → new.view.core.trail ≡ old.view.core.trail ++ counted_by s n false
        of false by = ap (λ (v : CoreView). v.trail) by.core
        of true by = absurd (never_again by.walks.0 by.walks.1)

    pub count_client : new.view.client ≡ old.view.client
    count_client = of counts.again counts.becomes
      where
        of : (again : Bool)
            → Becomes fits d same_view (Lesson d) (counted_by s n again) old.view.core old new
            → new.view.client ≡ old.view.client
        of false by =
            ap (λ (x : SeatState View). x.view.client) by.walks.2 ∙ by.walks.1.told.client
        of true by = absurd (never_again by.walks.0 by.walks.1)

    pub count_leaves : KnowsStill old.view.core old new
        → Leaves old.view.core.owned old.view.core.weaks old new
    count_leaves knows =
        leaves_core old new old.view.core (counted_by s n counts.again) counts.becomes.core refl knows

    pub count_root : HasRoom new.view.core → KnowsStill old.view.core old new → IsRoot d on new
    count_root room knows =
        root_still old new root (count_leaves knows) room rest
        (subst (λ (v : View). HasQuota v.1) (sym count_client) root.quota)
