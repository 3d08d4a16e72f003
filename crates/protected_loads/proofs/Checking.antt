-- The check of what a seat has announced: the place holds it still, or another content.
use Rattle.std.proofs.Common.{◌≡◌, ◌≢◌, ℕ, ◌+◌, ◌<◌, Bool, true, false, List, [], ◌∷◌, ◌++◌, length, refl, ap, sym, ◌∙◌, subst, arith}
use Rattle.std.specs.Prelude.{◌==◌, Option, Some, if◌then◌else◌, slice_set}
use Rattle.std.proofs.lemmas.Bool.Decides.{nat_tests}
use Rattle.control_word.specs.plain_state.declared.act.EventPlace.{EventPlace}
use Rattle.control_word.specs.plain_state.declared.act.PlainAct.{PlainAct}
use Rattle.control_word.specs.plain_state.declared.slot.SlotId.{SlotId}
use Rattle.control_word.specs.plain_state.Places.{place_kind}
use Rattle.control_word.specs.plain_state.State.{Plain}
use Rattle.control_word.specs.plain_state.Steps.{word_of}
use Rattle.control_word.specs.plain_protocol.Owns.{HasSlot, OwnPart}
use Rattle.control_word.specs.core_events.declared.act.Act.TheVariants as act
use Rattle.control_word.specs.core_events.declared.outcome.Outcome.{Outcome}
use Rattle.control_word.specs.core_events.declared.outcome.Outcome.TheVariants as outcome
use Rattle.control_word.specs.core_events.declared.view.CoreView.{CoreView}
use Rattle.control_word.specs.core_events.declared.view.Move.{Move}
use Rattle.control_word.specs.core_events.declared.view.Note.{Note}
use Rattle.control_word.specs.core_events.declared.view.Note.TheVariants as note
use Rattle.control_word.specs.core_events.Shows.{show_seat}
use Rattle.control_word.specs.core_events.Steps.{IsIdle, is_valid, validated, with_note}
use Rattle.control_word.specs.core_events.Views.{IsReadable, note_of}
use Rattle.control_word.specs.core_events.Words.{slot_in}
use Rattle.control_word.proofs.Below.core_law_ShownPlaces.{slot_word, word_slot}
use Rattle.control_word.specs.acquire_retire.Calls.{IsOf, IsSameView, Steps, same_view}
use Rattle.control_word.specs.acquire_retire.Collecting.{move}
use Rattle.control_word.specs.acquire_retire.Domains.{DomainState}
use Rattle.control_word.specs.acquire_retire.Seats.{SeatState}
use Rattle.control_word.specs.Moves.{Becomes, KnowsStill}
use Rattle.control_word.specs.Resting.{IsAtRest}
use Rattle.control_word.proofs.Becoming.{bare, knows_after, one_step, walks_table}
use Rattle.protected_loads.specs.Loads.{Announces, announced_by, with_announced, with_snapshot}
use Rattle.protected_loads.proofs.Noting.{announced_not_valid, announced_same, same_has, same_readable, second_stays, written}
use Rattle.protected_loads.proofs.Telling.{four_notes}

-- what a check of s answers, by whether the word is its own
abbrev checked : Bool → Option SlotId → Outcome
checked b s = if b then outcome.Valid else outcome.Moved s

if_valid : (b : Bool) (x : Option SlotId) → outcome.Valid ≡ checked b x → b ≡ true
if_valid true x is = refl
if_valid false x is = absurd (cc (is))

if_moved : (b : Bool) (x now : Option SlotId) → outcome.Moved now ≡ checked b x
    → (b ≡ false) × (now ≡ x)
if_moved true x now is = absurd (cc (is))
if_moved false x now is = (refl, cc (is))

or_valid : (b : Bool) (x : Option SlotId) (o : Outcome) → o ≡ checked b x
    → ((now : Option SlotId) → o ≡ outcome.Moved now → ⊥) → o ≡ outcome.Valid
or_valid true x o is not = is
or_valid false x o is not = absurd (not x is)

module _ {P V : Type 0} {fits : List ℕ → Type 0} (d : DomainState P) (place : EventPlace) (j : ℕ)
    (small : j < 4) (s : SlotId) (old mid : SeatState V) (rest : IsAtRest d old)
    (idle : note_of old.view.core j ≡ note.Idle) (announces : Announces fits d j place s old mid)
  where
    there : j < length old.view.core.notes
    there = let four = four_notes announces.becomes.walks.1.told in omega arith

    noted_as : note_of mid.view.core j ≡ note.Announced (place_kind place) s
    noted_as =
        ap (λ (v : CoreView). note_of v j) announces.becomes.core
        ∙ written old.view.core j there (note.Announced (place_kind place) s)

    -- what the seat has it has also while it announces s
    pub has_announced : (x : SlotId) → HasSlot (show_seat old.view.core) x → (ms : List Move)
        → HasSlot (show_seat (record (with_announced j place s old.view.core) { trail = ms })) x
    has_announced x has ms =
        same_has old.view.core
        (slice_set old.view.core.notes j (note.Announced (place_kind place) s)) ms
        (announced_same old.view.core j there (note.Announced (place_kind place) s)
        (announced_not_valid (place_kind place) s) idle) x has

    has_at_mid : (x : SlotId) → HasSlot (show_seat old.view.core) x
        → HasSlot (show_seat mid.view.core) x
    has_at_mid x has =
        subst (λ (v : CoreView). HasSlot (show_seat v) x) (sym announces.becomes.core)
        (has_announced x has (old.view.core.trail ++ announced_by j place s))

    pub is_of_announced : IsOf d mid
    is_of_announced = (
      walks_table fits d same_view IsSameView (announced_by j place s) old mid
          announces.becomes.walks
          ∙ rest.of_domain.0,
      ap (λ (v : CoreView). v.shape) announces.becomes.core ∙ rest.of_domain.1,
    )

    pub may_check : IsReadable d.shape old.view.core place
        → IsIdle mid.view.core × (j < 4)
        × ((x : SlotId) × (note_of mid.view.core j ≡ note.Announced (place_kind place) x))
        × IsReadable d.shape mid.view.core place
    may_check readable = (
      (
        ap (λ (v : CoreView). v.phase) announces.becomes.core ∙ rest.idle.0,
        ap (λ (v : CoreView). v.left) announces.becomes.core ∙ rest.idle.1,
      ),
      small,
      (s, noted_as),
      subst (λ (v : CoreView). IsReadable d.shape v place) (sym announces.becomes.core)
          (same_readable old.view.core
          (slice_set old.view.core.notes j (note.Announced (place_kind place) s))
          (old.view.core.trail ++ announced_by j place s)
          (announced_same old.view.core j there (note.Announced (place_kind place) s)
          (announced_not_valid (place_kind place) s) idle) d.shape place readable),
    )

    module _ {next : OwnPart → OwnPart → V → PlainAct → ℕ → V}
        {allows : Plain → Plain → ℕ → V → V → Type 0} (new : SeatState V) where
      answered : (o : Outcome) (step : Steps fits d next allows (act.Check j place) mid new o)
          → o ≡ checked (step.word == s.0 + 1) (slot_in step.word)
      answered o step =
          step.answers
          ∙ ap (λ (n : Note). checked (is_valid step.word n) (slot_in step.word)) noted_as

      pub valid_answer : (o : Outcome) → Steps fits d next allows (act.Check j place) mid new o
          → ((now : Option SlotId) → o ≡ outcome.Moved now → ⊥) → o ≡ outcome.Valid
      valid_answer o step not =
          or_valid (step.word == s.0 + 1) (slot_in step.word) o (answered o step) not

      pub valid_word : (step : Steps fits d next allows (act.Check j place) mid new outcome.Valid)
          → slot_in step.word ≡ Some s
      valid_word step =
          let test = if_valid (step.word == s.0 + 1) (slot_in step.word)
          (answered outcome.Valid step) in
          let word : step.word ≡ s.0 + 1 = grind (arith, nat_tests) in
          ap slot_in word ∙ slot_word (Some s)

      pub moved_word : (now : Option SlotId)
          (step : Steps fits d next allows (act.Check j place) mid new (outcome.Moved now))
          → (now ≡ slot_in step.word) × (now ≢ Some s)
          × (is_valid step.word (note_of mid.view.core j) ≡ false)
      moved_word now step =
          let test = if_moved (step.word == s.0 + 1) (slot_in step.word) now
          (answered (outcome.Moved now) step) in
          let word : step.word ≢ s.0 + 1 = grind (arith, nat_tests) in (
            test.1,
            (λ same.
                absurd (word (sym (word_slot step.word) ∙ ap word_of (sym test.1 ∙ same)))),
            ap (is_valid step.word) noted_as ∙ test.0,
          )

      pub knows_checked : (o : Outcome) → Steps fits d next allows (act.Check j place) mid new o
          → KnowsStill old.view.core old new
      knows_checked o step x has =
          knows_after d (act.Check j place) mid new o old.view.core step has_at_mid
          (λ w y it. refl) x has
          ∙ announces.knows x has

      -- it found s there still
      pub becomes_valid : Steps fits d next allows (act.Check j place) mid new outcome.Valid
          → Becomes fits d next allows (move (act.Check j place) outcome.Valid ∷ [])
          (with_snapshot j place s old.view.core) mid new
      becomes_valid step =
          let itself : (s.0 + 1 == s.0 + 1) ≡ true = grind (arith, nat_tests) in
          let valid = ap (is_valid (s.0 + 1)) noted_as ∙ itself in
          one_step d (act.Check j place) mid new outcome.Valid (s.0 + 1)
          (with_snapshot j place s old.view.core) step (rw valid refl)
          (rw valid (ap (λ (n : Note). bare (with_note j (validated n) mid.view.core)) noted_as
          ∙ ap (λ (v : CoreView). bare (with_note j (note.Valid (place_kind place) s) v))
          announces.becomes.core
          ∙ ap bare (second_stays old.view.core j (note.Announced (place_kind place) s)
          (note.Valid (place_kind place) s))))
          refl

      -- it found something else
      pub becomes_moved : (now : Option SlotId)
          → Steps fits d next allows (act.Check j place) mid new (outcome.Moved now)
          → Becomes fits d next allows (move (act.Check j place) (outcome.Moved now) ∷ [])
          (with_announced j place s old.view.core) mid new
      becomes_moved now step =
          let other = (moved_word now step).2 in
          one_step d (act.Check j place) mid new (outcome.Moved now) step.word
          (with_announced j place s old.view.core) step (sym step.answers)
          (rw other (ap bare announces.becomes.core)) refl
