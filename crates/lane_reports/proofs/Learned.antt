-- What a look tells with the lesson of the law.
use Rattle.std.proofs.Common.{length, ◌+◌, ◌≡◌, ℕ, List, [], ◌∷◌, ap, sym, ◌∙◌, subst, refl}
use Rattle.std.specs.Prelude.{IsSome, None, Some, map}
use Rattle.law_lesson.specs.plain_state.Fits.{AllFit}
use Rattle.law_lesson.specs.plain_state.Places.{content}
use Rattle.law_lesson.specs.plain_state.State.{Plain, slot_at}
use Rattle.law_lesson.specs.plain_state.declared.act.EventPlace.TheVariants.{Cell}
use Rattle.domain_audit.specs.core_events.declared.act.Act.{Act}
use Rattle.domain_audit.specs.core_events.declared.act.Act.TheVariants as act
use Rattle.domain_audit.specs.core_events.declared.outcome.Outcome.{Outcome}
use Rattle.domain_audit.specs.core_events.declared.view.CoreView.{CoreView}
use Rattle.domain_audit.specs.core_events.Runs.{Core, after, view_at}
use Rattle.domain_audit.specs.core_events.Shows.{shows}
use Rattle.domain_audit.specs.core_events.Words.{slot_in}
use Rattle.domain_audit.specs.core_events.declared.outcome.Outcome.TheVariants as outcome
use Rattle.domain_audit.specs.core_law.Sound.{Sound}
use Rattle.domain_audit.proofs.Below.core_law_Events.{event_shows}
use Rattle.domain_audit.proofs.Learning.{knows_shown}
use Rattle.domain_audit.specs.domain_rule.Rule.{OthersLeft}
use Rattle.domain_audit.specs.domain_rule.Views.{IsAlone, own_of}
use Rattle.domain_audit.specs.acquire_retire.Calls.{Steps, same_view}
use Rattle.domain_audit.specs.acquire_retire.Collecting.{move}
use Rattle.domain_audit.specs.acquire_retire.Domains.{DomainState}
use Rattle.domain_audit.specs.acquire_retire.Seats.{SeatState}
use Rattle.domain_audit.specs.acquire_retire.Wholes.{known_core}
use Rattle.domain_audit.specs.control_word.Moves.{Becomes}
use Rattle.domain_audit.specs.control_word.Resting.{IsAtRest}
use Rattle.domain_audit.proofs.Below.control_word_Becoming.{knows_after, one_step, rest_after}
use Rattle.domain_audit.proofs.Below.control_word_Finding.{sound_before}
use Rattle.domain_audit.proofs.Below.protected_loads_Telling.{content_found}
use Rattle.domain_audit.proofs.Below.acquire_retire_Contents.{look_on}
use Rattle.law_lesson.specs.Lessons.{HoldsOf}
use Rattle.domain_audit.proofs.Below.slot_store_Objects.{known_after, known_before, known_still, some_value, sound_later}
use Rattle.words_rest.specs.words_law.Views.{View, gone}
use Rattle.lane_domain.specs.words_protocol.declared.law.WordsLaw.{WordsLaw}
use Rattle.lane_reports.specs.Holders.{law_of}
use Rattle.lane_reports.specs.Learning.{DrewAll, HoldsNothing, LearnsLaw}
use Rattle.lane_reports.proofs.CountingHolders.{Lesson}
use Rattle.lane_reports.proofs.GoneTickets.{OthersHaveNone, drew_once, history_none, step_none}
use Rattle.ticket_shares.specs.Tickets.{DrewOnce}
use Rattle.law_lesson.specs.plain_protocol.Owns.{object_of}
use Rattle.domain_audit.specs.Audits.{KnowsLone}
use Rattle.domain_audit.specs.core_events.declared.view.LeftSeat.{LeftSeat}
use Rattle.domain_audit.specs.core_events.Counts.{tickets_drawn}

module _ (fits : List ℕ → Type 0) (d : DomainState WordsLaw) (cell : ℕ) (old new : SeatState View)
    (o : Outcome) (step : Steps fits d same_view (Lesson d) (act.Look (Cell cell)) old new o)
    (rest : IsAtRest d old) (alone : IsAlone old.view) (known : IsSome old.view.whole) where
  abbrev looks : Act
  looks = act.Look (Cell cell)

  by : Becomes fits d same_view (Lesson d) (move looks o ∷ []) old.view.core old new
  by = one_step d looks old new o step.word old.view.core step (sym step.answers) refl refl

  pub learn_rest : IsAtRest d new
  learn_rest = rest_after d (move looks o ∷ []) old.view.core old new by refl rest

  pub learn_alone : IsAlone new.view
  learn_alone =
      subst (λ (v : CoreView). (v.seat ≡ 0) × (length v.left_seats + 1 ≡ v.shape.seats))
      (sym by.core) alone

  abbrev before : Core
  before = step.told.happened.before

  abbrev later : Core
  later = after d.shape before old.view.core.seat looks

  now : known_core new.view ≡ later
  now = known_after step.told known

  still : shows d.shape (known_core new.view) ≡ shows d.shape before
  still =
      let h = step.told.happened in
      ap (shows d.shape) now
      ∙ (event_shows d.shape before old.view.core.seat looks (sound_before step.told)
      h.enabled).1.2

  knows_new : IsSome new.view.whole
  knows_new = known_still step.told known

  shown_new : (own_of new.view).whole ≡ Some (shows d.shape (known_core new.view))
  shown_new = knows_shown d.shape new.view learn_rest.of_domain.1 knows_new

  -- where it found nothing, nothing is there
  pub learns_nothing : o ≡ outcome.Found None → HoldsNothing new cell
  learns_nothing none p whole =
      let is : outcome.Found (slot_in step.word) ≡ outcome.Found None = sym step.answers ∙ none in
      let same : p ≡ shows d.shape before =
      some_same p (shows d.shape (known_core new.view)) (sym whole ∙ shown_new) ∙ still in
      ap (λ (q : Plain). content q (Cell cell)) same
      ∙ content_found step.told (Cell cell) (look_on d.shape (Cell cell)) ∙ cc (is)
    where
      some_same : (x y : Plain) → Some x ≡ Some y → x ≡ y
      some_same x y e = cc (e)

  lone_new : KnowsLone fits d new
  lone_new = record {
    known = knows_new;
    sound = subst (Sound d.shape) (sym now) (sound_later step.told);
    half = step.told.says.core ∙ (λ i. view_at (sym now i) (alone.0 i));
    others = let all = some_value new.view.whole knows_new in
        subst OthersLeft (sym now) (step.told.says.whole all.0 all.1).2;
    fit = subst (λ (c : Core). AllFit fits (shows d.shape c)) (sym now)
        step.told.happened.fact.1;
  }

  none_gone : OthersHaveNone (known_core new.view)
  none_gone =
      let h = step.told.happened in
      subst OthersHaveNone (sym now)
      (step_none d.shape before old.view.core.seat looks (sound_before step.told) h.enabled
      (history_none d.shape d.terms h.events before h.shape h.terms h.history))

  all_drawn : new.view.core.tickets ≡ [] → DrewAll new.view.core
  all_drawn drew =
      let c = known_core new.view in (
        tickets_drawn d.shape c,
        subst (λ (v : CoreView).
            DrewOnce (map (λ (l : LeftSeat). l.tickets) v.left_seats) (tickets_drawn d.shape c))
            (sym lone_new.half)
            (drew_once d.shape c lone_new.sound none_gone lone_new.others
            (ap (λ (v : CoreView). v.tickets) (sym lone_new.half) ∙ drew)),
      )

  pub learns_law : LearnsLaw fits d old new
  learns_law = record {
    cell = cell;
    saw = o;
    table = step.table;
    core = by.core;
    client = step.told.client;
    whole = shown_new
        ∙ ap Some (still ∙ sym (ap (shows d.shape) (known_before step.told known)))
        ∙ sym (knows_shown d.shape old.view rest.of_domain.1 known);
    objects = knows_after d looks old new o old.view.core step (λ s has. has)
        (λ w s x. refl);
    lone = lone_new;
    law = subst (λ (x : Plain × ℕ × View). HoldsOf (law_of d) gone x.0 x.1 x.2)
        (λ i. (sym still i, alone.0 i, sym step.told.client i)) step.told.happened.fact.2.1;
    so = λ s has. step.told.says.objects s has
        ∙ ap (λ (c : Core). object_of (slot_at (shows d.shape c) s)) (sym now);
    drew = all_drawn;
  }
