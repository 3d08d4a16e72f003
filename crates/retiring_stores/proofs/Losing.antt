-- A compare and exchange that found something else.
use Rattle.std.proofs.Common.{◌≡◌, ◌≢◌, ℕ, Bool, true, false, List, [], ◌∷◌, length, refl, ap, sym, ◌∙◌, subst, arith}
use Rattle.std.specs.Prelude.{Option, ◌==◌, if◌then◌else◌}
use Rattle.std.proofs.lemmas.Bool.Decides.{nat_tests}
use Rattle.control_word.specs.plain_state.declared.act.EventPlace.{EventPlace}
use Rattle.control_word.specs.plain_state.declared.act.PlainAct.{PlainAct}
use Rattle.control_word.specs.plain_state.declared.slot.SlotId.{SlotId}
use Rattle.control_word.specs.plain_state.Places.{place_kind}
use Rattle.control_word.specs.plain_state.State.{Plain}
use Rattle.control_word.specs.plain_state.Steps.{word_of}
use Rattle.control_word.specs.plain_protocol.Owns.{OwnPart}
use Rattle.control_word.specs.core_events.declared.act.Act.TheVariants as act
use Rattle.control_word.specs.core_events.declared.outcome.Outcome.{Outcome}
use Rattle.control_word.specs.core_events.declared.outcome.Outcome.TheVariants as outcome
use Rattle.control_word.specs.core_events.declared.view.CoreView.{CoreView}
use Rattle.control_word.specs.core_events.Steps.{CanGive, HasRoom, without_given}
use Rattle.control_word.specs.core_events.Words.{slot_in}
use Rattle.control_word.proofs.Below.core_law_ShownPlaces.{word_slot}
use Rattle.control_word.specs.acquire_retire.Calls.{Steps}
use Rattle.control_word.specs.acquire_retire.Collecting.{move}
use Rattle.control_word.specs.acquire_retire.Domains.{DomainState}
use Rattle.control_word.specs.acquire_retire.Seats.{SeatState}
use Rattle.control_word.specs.Moves.{Becomes, KnowsStill}
use Rattle.control_word.specs.Resting.{IsAtRest}
use Rattle.control_word.proofs.Becoming.{knows_after, one_step, rest_after}
use Rattle.retiring_stores.specs.Exchanging.{Loses}
use Rattle.retiring_stores.proofs.Afterwards.{given_has}
use Rattle.retiring_stores.proofs.Putting.{cas_there, shows_slot}

is_lost : (w : ℕ) (expected x : Option SlotId)
    → (if w == word_of expected then outcome.Done else outcome.LostTo (slot_in w))
    ≡ outcome.LostTo x
    → ((w == word_of expected) ≡ false) × (x ≡ slot_in w) × (slot_in w ≢ expected)
is_lost w expected x = go (w == word_of expected) refl
  where
    go : (b : Bool) → (w == word_of expected) ≡ b
        → (if b then outcome.Done else outcome.LostTo (slot_in w)) ≡ outcome.LostTo x
        → (b ≡ false) × (x ≡ slot_in w) × (slot_in w ≢ expected)
    go true test lost = absurd (cc (lost))
    go false test lost = (
      refl,
      cc (lost),
      λ same.
          let is : w ≡ word_of expected = sym (word_slot w) ∙ ap word_of same in
          absurd (grind (arith, nat_tests)),
    )

module _ {P V : Type 0} {fits : List ℕ → Type 0} (d : DomainState P)
    {next : OwnPart → OwnPart → V → PlainAct → ℕ → V}
    {allows : Plain → Plain → ℕ → V → V → Type 0} (p : EventPlace)
    (expected given x : Option SlotId) (old new : SeatState V) (o : Outcome)
    (step : Steps fits d next allows (act.Cas p expected given) old new o)
    (lost : o ≡ outcome.LostTo x) where
  loses_by : Becomes fits d next allows (move (act.Cas p expected given) (outcome.LostTo x) ∷ [])
      old.view.core old new → Loses fits d next allows p given expected x old new
  loses_by by =
      let a = act.Cas p expected given in
      let cas = by.walks.1 in
      let is = is_lost cas.word expected x (sym cas.answers) in
      record {
        becomes = by;
        shows_found =
            shows_slot d p old by.walks.0 a (outcome.LostTo x) cas (λ v. refl)
            (cas_there d p old by.walks.0 (outcome.LostTo x) expected given cas)
            ∙ sym is.1;
        other = λ same. is.2 (sym (is.1) ∙ same);
      }

  pub cas_loses : Loses fits d next allows p given expected x old new
  cas_loses =
      let a = act.Cas p expected given in
      let test = is_lost step.word expected x (sym step.answers ∙ lost) in
      loses_by
      (one_step d a old new (outcome.LostTo x) step.word old.view.core
      (subst (λ (y : Outcome). Steps fits d next allows a old new y) lost step)
      (sym step.answers ∙ lost) (rw test.0 refl) refl)

  pub rests_lost : IsAtRest d old → IsAtRest d new
  rests_lost rest =
      rest_after d (move (act.Cas p expected given) (outcome.LostTo x) ∷ []) old.view.core old new
      cas_loses.becomes refl rest

  pub room_lost : HasRoom old.view.core → HasRoom new.view.core
  room_lost room =
      let is = cas_loses.becomes.core in
      let retired = ap (λ (v : CoreView). length v.retired) is in
      let owed = ap (λ (v : CoreView). length v.owed) is in
      let whole = ap (λ (v : CoreView). v.room) is in omega arith

  pub knows_lost : CanGive (place_kind p) given old.view.core
      → KnowsStill (without_given (place_kind p) given old.view.core) old new
  knows_lost can =
      knows_after d (act.Cas p expected given) old new o
      (without_given (place_kind p) given old.view.core) step
      (λ s has. given_has (place_kind p) given old.view.core s can has) (λ w s it. refl)
