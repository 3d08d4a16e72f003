-- A look at a place, with a deed that waits for null, and the announcement of what it found.
use Rattle.std.proofs.Common.{◌≡◌, ◌≢◌, ℕ, false, List, [], ◌∷◌, ◌<◌, ◌+◌, length, refl, ap, sym, ◌∙◌, subst, arith}
use Rattle.std.specs.Prelude.{◌==◌, Option, Some, None}
use Rattle.std.proofs.lemmas.Bool.Decides.{nat_tests}
use Rattle.control_word.specs.plain_state.declared.act.EventPlace.{EventPlace}
use Rattle.control_word.specs.plain_state.declared.act.PlainAct.{PlainAct}
use Rattle.control_word.specs.plain_state.declared.slot.Kind.{Kind}
use Rattle.control_word.specs.plain_state.declared.slot.SlotId.{SlotId}
use Rattle.control_word.specs.plain_state.Places.{content, place_kind}
use Rattle.control_word.specs.plain_state.State.{Plain}
use Rattle.control_word.specs.plain_state.Steps.{word_of}
use Rattle.control_word.specs.plain_protocol.Owns.{HasSlot, OwnPart}
use Rattle.control_word.specs.core_events.declared.act.Act.TheVariants as act
use Rattle.control_word.specs.core_events.declared.outcome.Outcome.{Outcome}
use Rattle.control_word.specs.core_events.declared.outcome.Outcome.TheVariants as outcome
use Rattle.control_word.specs.core_events.declared.view.CoreView.{CoreView}
use Rattle.control_word.specs.core_events.declared.view.Note.TheVariants as note
use Rattle.control_word.specs.core_events.Shows.{show_seat, shows}
use Rattle.control_word.specs.core_events.Steps.{IsIdle}
use Rattle.control_word.specs.core_events.Views.{note_of}
use Rattle.control_word.specs.core_events.Words.{slot_in}
use Rattle.control_word.proofs.Below.core_law_ShownPlaces.{slot_word, word_slot}
use Rattle.control_word.specs.acquire_retire.Calls.{IsOf, IsSameView, Steps, same_view}
use Rattle.control_word.specs.acquire_retire.Collecting.{move}
use Rattle.control_word.specs.acquire_retire.Domains.{DomainState}
use Rattle.control_word.specs.acquire_retire.Seats.{SeatState}
use Rattle.control_word.proofs.Below.acquire_retire_Contents.{look_on}
use Rattle.control_word.specs.Moves.{Becomes, KnowsStill}
use Rattle.control_word.specs.Resting.{IsAtRest}
use Rattle.control_word.proofs.Becoming.{Comes, bare, comes_more, comes_one, knows_after, one_step, rest_after}
use Rattle.protected_loads.specs.Loads.{Announces, FindsNull, announced_by, with_announced}
use Rattle.protected_loads.specs.Nulls.{AllowsWhereNull, next_where_null}
use Rattle.protected_loads.proofs.Telling.{another_deed, content_found, four_notes, slot_found}

-- a word that holds no slot is 0, and one that holds s is s.0 + 1
pub null_found : (w : ℕ) → slot_in w ≡ None → w ≡ 0
null_found w is = sym (word_slot w) ∙ ap word_of is

-- the step of a look with a deed that waits for null
abbrev pub Looks : {P V : Type 0} → (List ℕ → Type 0) → DomainState P → EventPlace
    → (OwnPart → OwnPart → V → PlainAct → ℕ → V) → (Plain → Plain → ℕ → V → V → Type 0)
    → SeatState V → SeatState V → Outcome → Type 0
Looks fits d place next allows old new o =
    Steps fits d (next_where_null place next) (AllowsWhereNull place allows) (act.Look place)
    old new o

module _ {P V : Type 0} {fits : List ℕ → Type 0} (d : DomainState P) (place : EventPlace)
    (next : OwnPart → OwnPart → V → PlainAct → ℕ → V)
    (allows : Plain → Plain → ℕ → V → V → Type 0) (old new : SeatState V) where
  module _ (s : Option SlotId) (look : Looks fits d place next allows old new (outcome.Found s))
    where
      found_word : slot_in look.word ≡ s
      found_word = sym (cc (look.answers))

      looked : content (shows d.shape look.told.happened.before) place ≡ s
      looked = content_found look.told place (look_on d.shape place) ∙ found_word

  -- where it found null it is a look with the deed
  with_deed : Looks fits d place next allows old new (outcome.Found None)
      → Steps fits d next allows (act.Look place) old new (outcome.Found None)
  with_deed look = record {
    table = look.table;
    word = look.word;
    told =
        another_deed look.told next allows
        (look.told.client ∙ rw (null_found look.word (found_word None look)) refl)
        (look.told.happened.fact.2.null (looked None look));
    answers = look.answers;
  }

  -- where it found a slot it is one without a deed
  pub without_deed : (s : SlotId)
      → Looks fits d place next allows old new (outcome.Found (Some s))
      → Steps fits d same_view IsSameView (act.Look place) old new (outcome.Found (Some s))
  without_deed s look =
      let some' = found_word (Some s) look in
      let not : look.word ≢ 0 = λ zero. absurd (cc (some', ap slot_in zero)) in
      let other : (look.word == 0) ≡ false = grind (arith, nat_tests) in record {
        table = look.table;
        word = look.word;
        told =
            another_deed look.told same_view IsSameView (look.told.client ∙ rw other refl)
            (look.told.happened.fact.2.other (λ null. absurd (cc (null, looked (Some s) look))));
        answers = look.answers;
      }

  finds : Becomes fits d next allows (move (act.Look place) (outcome.Found None) ∷ [])
      old.view.core old new
      → FindsNull fits d place next allows old new
  finds by = record {
    becomes = by;
    null =
        content_found by.walks.1.told place (look_on d.shape place)
        ∙ sym (cc (by.walks.1.answers));
  }

  pub finds_null : (o : Outcome) → Looks fits d place next allows old new o
      → o ≡ outcome.Found None → IsAtRest d old
      → FindsNull fits d place next allows old new × KnowsStill old.view.core old new
      × IsAtRest d new
  finds_null o look is rest =
      let step = with_deed (subst (Looks fits d place next allows old new) is look) in
      let by = one_step d (act.Look place) old new (outcome.Found None) 0 old.view.core step refl
      refl refl in (
        finds by,
        knows_after d (act.Look place) old new (outcome.Found None) old.view.core step
            (λ x has. has) (λ w x it. refl),
        rest_after d (move (act.Look place) (outcome.Found None) ∷ []) old.view.core old new by
            refl rest,
      )

-- a note that is free may announce a slot
module _ {P V : Type 0} {fits : List ℕ → Type 0} (d : DomainState P) (place : EventPlace) (j : ℕ)
    (small : j < 4) (s : SlotId) (k : Kind) (same : k ≡ place_kind place)
    (old mid new : SeatState V)
    (rest : IsAtRest d old) (idle : note_of old.view.core j ≡ note.Idle)
    (next : OwnPart → OwnPart → V → PlainAct → ℕ → V)
    (allows : Plain → Plain → ℕ → V → V → Type 0)
    (found : Outcome) (looks : Looks fits d place next allows old mid found)
    (is : found ≡ outcome.Found (Some s)) where
  look : Steps fits d same_view IsSameView (act.Look place) old mid (outcome.Found (Some s))
  look =
      without_deed d place next allows old mid s
      (subst (Looks fits d place next allows old mid) is looks)

  there : j < length old.view.core.notes
  there = let four = four_notes look.told in omega arith

  first : Comes fits d (move (act.Look place) (outcome.Found (Some s)) ∷ []) old.view.core
      old.view.core old mid
  first =
      comes_one d (act.Look place) old mid (outcome.Found (Some s)) (s.0 + 1) old.view.core
      old.view.core look (ap outcome.Found (slot_word (Some s))) refl refl (λ x has. has)
      (λ w x it. refl)

  pub is_of_looked : IsOf d mid
  is_of_looked = (
    look.table ∙ rest.of_domain.0,
    ap (λ (v : CoreView). v.shape) first.by.core ∙ rest.of_domain.1,
  )

  pub may_announce : IsIdle mid.view.core × (j < 4) × (note_of mid.view.core j ≡ note.Idle)
      × (s.0 < d.shape.slots)
  may_announce = (
    (
      ap (λ (v : CoreView). v.phase) first.by.core ∙ rest.idle.0,
      ap (λ (v : CoreView). v.left) first.by.core ∙ rest.idle.1,
    ),
    small,
    ap (λ (v : CoreView). note_of v j) first.by.core ∙ idle,
    slot_found look.told place (look_on d.shape place) s (sym (cc (look.answers))),
  )

  module _ (o : Outcome)
      (step : Steps fits d same_view IsSameView (act.Announce j k s) mid new o) where
    announce : Steps fits d same_view IsSameView (act.Announce j (place_kind place) s) mid new
        outcome.Plain
    announce =
        subst (λ (y : Kind × Outcome). Steps fits d same_view IsSameView (act.Announce j y.0 s)
        mid new y.1) (λ i. (same i, step.answers i)) step

    second : Comes fits d (move (act.Announce j (place_kind place) s) outcome.Plain ∷ [])
        (with_announced j place s old.view.core) old.view.core mid new
    second =
        comes_one d (act.Announce j (place_kind place) s) mid new outcome.Plain 0
        (with_announced j place s old.view.core) old.view.core announce refl
        (ap (λ (v : CoreView). bare (with_announced j place s v)) first.by.core) refl
        (λ x has. subst (λ (v : CoreView). HasSlot (show_seat v) x) (sym first.by.core) has)
        (λ w x it. refl)

    announced : (comes : Comes fits d (announced_by j place s)
        (with_announced j place s old.view.core) old.view.core old new)
        → content (shows d.shape comes.by.walks.1.told.happened.before) place ≡ Some s
        → Announces fits d j place s old new
    announced comes seen = record {
      becomes = comes.by;
      client = comes.client;
      knows = comes.knows;
      seen = seen;
    }

    pub announces : Announces fits d j place s old new
    announces =
        let comes = comes_more d (move (act.Look place) (outcome.Found (Some s)) ∷ [])
        (move (act.Announce j (place_kind place) s) outcome.Plain ∷ []) old.view.core
        (with_announced j place s old.view.core) old.view.core old mid new first second in
        announced comes
        (content_found comes.by.walks.1.told place (look_on d.shape place)
        ∙ sym (cc (comes.by.walks.1.answers)))
