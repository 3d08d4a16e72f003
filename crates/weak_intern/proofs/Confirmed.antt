-- The step that answers a head whose whole text was read.
use Rattle.std.proofs.Common.{◌≡◌, ℕ, ◌+◌, ◌<◌, List, ◌∷◌, refl, sym, ap, subst, ◌∙◌, arith, Some, None}
use Rattle.std.specs.Prelude.{Bool, if◌then◌else◌}
use Rattle.atomic_weak.specs.plain_state.declared.act.EventPlace.{EventPlace}
use Rattle.atomic_weak.specs.plain_state.declared.act.PlainAct.{PlainAct}
use Rattle.atomic_weak.specs.plain_state.declared.act.PlainAct.TheVariants as plain
use Rattle.atomic_weak.specs.plain_state.declared.slot.SlotId.{SlotId}
use Rattle.atomic_weak.specs.plain_state.Lists.{times}
use Rattle.atomic_weak.specs.plain_state.State.{Plain}
use Rattle.atomic_weak.specs.plain_protocol.Acts.{Owned}
use Rattle.atomic_weak.specs.plain_protocol.Owns.{HasSlot, Object, OwnPart}
use Rattle.record_making.specs.protocol_pairs.Parts.{Accepts, Frees}
use Rattle.atomic_weak.specs.core_events.declared.act.Act.TheVariants as act
use Rattle.atomic_weak.specs.core_events.declared.outcome.Outcome.{Outcome}
use Rattle.atomic_weak.specs.core_events.declared.view.CoreView.{CoreView}
use Rattle.atomic_weak.specs.core_events.Shows.{show_seat, shows}
use Rattle.atomic_weak.specs.domain_rule.Views.{object_in, own_of}
use Rattle.atomic_weak.specs.acquire_retire.Calls.{IsReady, Steps}
use Rattle.atomic_weak.specs.acquire_retire.Domains.{DomainState}
use Rattle.atomic_weak.specs.acquire_retire.Seats.{SeatState}
use Rattle.atomic_weak.specs.control_word.Resting.{IsAtRest}
use Rattle.atomic_weak.proofs.Below.control_word_Becoming.{knows_after, one_step, rest_after}
use Rattle.atomic_weak.proofs.Below.protected_loads_Telling.{holds_has}
use Rattle.record_making.specs.directory_law.declared.view.Ran.{Ran}
use Rattle.record_making.specs.directory_law.declared.view.View.{View}
use Rattle.record_making.specs.directory_law.Views.{In}
use Rattle.record_making.specs.directory_law.Cells.{Area}
use Rattle.record_making.specs.directory_law.Law.{IsBound}
use Rattle.record_making.specs.directory_law.Lessons.{AnswerReady, AnswerTells, HasSeen, answer_next, first_ran, spent}
use Rattle.record_making.specs.directory_law.Payloads.{IsText, Text}
use Rattle.record_making.specs.directory_law.Steps.{life_in, life_of, payload_in, payload_of}
use Rattle.record_making.specs.directory_protocol.Keeping.{MindsNone}
use Rattle.record_making.specs.directory_calls.Directories.{CanCount}
use Rattle.record_making.specs.directory_calls.Steps.{AtStep, Leaves}
use Rattle.record_making.proofs.Below.directory_calls_Going.{at_step, leaves_core}
use Rattle.record_making.proofs.Below.directory_calls_Parts.{LearnsBy, Place, lift_learns, lift_ready, lifts, tells}
use Rattle.text_reading.specs.Reading.{HasRead}
use Rattle.weak_intern.specs.Seeing.{HasSeenIn}

-- A LOOK at a place, with whatever deed
module _ {P V : Type 0} (fits : List ℕ → Type 0) (d : DomainState P) (place : EventPlace)
    (next : OwnPart → OwnPart → V → PlainAct → ℕ → V)
    (allows : Plain → Plain → ℕ → V → V → Type 0) (old new : SeatState V) (o : Outcome)
    (step : Steps fits d next allows (act.Look place) old new o) where
  pub look_leaves : Leaves old.view.core.owned old.view.core.weaks old new
  look_leaves =
      leaves_core old new old.view.core _
      (one_step d (act.Look place) old new o
      step.word old.view.core step (sym step.answers) refl refl).core
      refl
      (knows_after d (act.Look place) old new o old.view.core step (λ s has. has)
      (λ w s x. refl))

  pub look_makes : new.view.core.makes ≡ old.view.core.makes
  look_makes =
      ap (λ (v : CoreView). v.makes) (one_step d (act.Look place) old new o
      step.word old.view.core step (sym step.answers) refl refl).core

  pub look_adds : new.view.core.adds ≡ old.view.core.adds
  look_adds =
      ap (λ (v : CoreView). v.adds) (one_step d (act.Look place) old new o
      step.word old.view.core step (sym step.answers) refl refl).core

  pub look_rest : IsAtRest d old → IsAtRest d new
  look_rest rest =
      rest_after d _ old.view.core old new
      (one_step d (act.Look place) old new o
      step.word old.view.core step (sym step.answers) refl refl)
      refl rest

-- what the deed asks of a view whose last text is that of s
ready_by : (intern : Bool) (own : OwnPart) (v : View) (place : EventPlace) (s : SlotId) (r : Ran)
    (earlier : List Ran) → v.ran ≡ r ∷ earlier → r.slot ≡ s → 0 < times s own.seat.owned
    → HasSeen own v s → r.life ≡ life_in own s → IsText r.before → CanCount intern v
    → AnswerReady intern own v (plain.Look place)
ready_by intern own v place s r earlier ran slot owned seen life whole spare =
    let is : first_ran v.ran ≡ r = ap first_ran ran in
    let at : (first_ran v.ran).slot ≡ s = ap (λ (e : Ran). e.slot) is ∙ slot in record {
      calm = tt;
      earlier = earlier;
      ran = ran ∙ ap (λ (e : Ran). e ∷ earlier) (sym is);
      owned = subst (λ (x : SlotId). 0 < times x own.seat.owned) (sym at) owned;
      seen = subst (λ (x : SlotId). HasSeen own v x) (sym at) seen;
      life = ap (λ (e : Ran). e.life) is ∙ life ∙ ap (life_in own) (sym at);
      whole = subst IsText (sym (ap (λ (e : Ran). e.before) is)) whole;
      spare = spare;
    }

module _ {P V : Type 0} (fits : List ℕ → Type 0) (d : DomainState P) (l : Place V) (z : Area)
    (place : EventPlace) (intern : Bool) (s : SlotId) (old : SeatState V)
    (owns : 0 < times s old.view.core.owned) where
  has : HasSlot (show_seat old.view.core) s
  has = holds_has old.view.core s (omega (arith, owns))

  life : life_in (own_of old.view) s ≡ (object_in old.view s).life
  life = ap (λ b. life_of (if b then Some (object_in old.view s) else None)) has

  payload : payload_in (own_of old.view) s ≡ (object_in old.view s).payload
  payload = ap (λ b. payload_of (if b then Some (object_in old.view s) else None)) has

  -- what the seat has of s, as the deed asks it
  has_seen : HasSeenIn l.seen s old → HasSeen (own_of old.view) (l.seen old.view.client) s
  has_seen saw = (
    saw.0,
    subst (λ (o : Object). In (record {
      cell = saw.0;
      slot = s;
      life = o.life;
      head = o.payload;
    }) (l.seen old.view.client).seen)
        (λ i. record { life = sym life i; payload = sym payload i }) saw.1,
  )

  -- THE DEED is ready
  pub answer_ready : (owned : Owned) (free : OwnPart → PlainAct → Type 0)
      (suits : V → View → Type 0)
      → Frees owned free → MindsNone suits l.seen
      → HasSeenIn l.seen s old → CanCount intern (l.seen old.view.client)
      → (text : Text) × HasRead l.seen s text old
      → IsReady (λ own v a. AnswerReady intern own (l.seen v) a × free own a
      × Accepts suits (answer_next intern) l.seen own v a) d.shape (act.Look place) old.view
  answer_ready owned free suits frees minds saw quota read w =
      let r = read.1 in
      lift_ready l owned free suits frees minds (AnswerReady intern) (answer_next intern)
      (own_of old.view) old.view.client (plain.Look place)
      (ready_by intern (own_of old.view) (l.seen old.view.client) place s r.ran r.earlier r.last
      r.slot owns (has_seen saw) (r.life ∙ sym life) (subst IsText (sym r.whole) r.is) quota)
      tt
      (λ after n e in'. in')

  module _ (new : SeatState V) (o : Outcome)
      (step : Steps fits d (lifts l (answer_next intern)) (tells l (AnswerTells z))
      (act.Look place) old new o) where
    -- s is the live record of the text
    pub answer_live : (text : Text) → HasRead l.seen s text old
        → AtStep d (λ p. IsBound z p text s) old new
    answer_live text read =
        let is : first_ran (l.seen old.view.client).ran ≡ read.ran = ap first_ran read.last in
        at_step d (λ p. IsBound z p text s) step
        (subst (λ t. IsBound z (shows_before step) t s)
        (ap (λ (e : Ran). e.before) is ∙ read.whole)
        (subst (λ (x : SlotId). IsBound z (shows_before step)
        (first_ran (l.seen old.view.client).ran).before x)
        (ap (λ (e : Ran). e.slot) is ∙ read.slot)
        step.told.happened.fact.2))
      where
        shows_before : Steps fits d (lifts l (answer_next intern)) (tells l (AnswerTells z))
            (act.Look place) old new o → Plain
        shows_before made = shows d.shape made.told.happened.before

    abbrev answered : View
    answered = record (l.seen old.view.client) {
      used = (l.seen old.view.client).used + spent intern;
    }

    pub answer_learns : LearnsBy l (spent intern) old.view.client new.view.client
    answer_learns =
        subst (λ v. LearnsBy l (spent intern) old.view.client v) (sym step.told.client)
        (lift_learns l (spent intern) old.view.client answered (record {
          seen = λ e in'. in';
          ended = λ e in'. in';
          ran = λ e in'. in';
          led = λ e in'. in';
          quota = refl;
          used = refl;
          notes = (refl, refl);
        }))
