-- What a look at a place leaves, and what it tells.
use Rattle.std.proofs.Common.{◌≡◌, ℕ, List, [], ◌∷◌, refl, ap, sym, ◌∙◌, subst}
use Rattle.std.specs.Prelude.{Option}
use Rattle.queue_protocol.specs.plain_state.declared.act.EventPlace.{EventPlace}
use Rattle.queue_protocol.specs.plain_state.declared.act.PlainAct.{PlainAct}
use Rattle.queue_protocol.specs.plain_state.declared.slot.SlotId.{SlotId}
use Rattle.queue_protocol.specs.plain_state.Places.{content}
use Rattle.queue_protocol.specs.plain_state.State.{Plain}
use Rattle.queue_protocol.specs.plain_state.Steps.{word_of}
use Rattle.queue_protocol.specs.plain_protocol.Owns.{OwnPart}
use Rattle.slot_store.specs.core_events.declared.act.Act.TheVariants as act
use Rattle.slot_store.specs.core_events.declared.outcome.Outcome.{Outcome}
use Rattle.slot_store.specs.core_events.declared.outcome.Outcome.TheVariants as outcome
use Rattle.slot_store.specs.core_events.Shows.{shows}
use Rattle.slot_store.specs.core_events.Words.{slot_in}
use Rattle.slot_store.proofs.Below.core_law_ShownPlaces.{slot_word}
use Rattle.slot_store.specs.acquire_retire.Calls.{Steps}
use Rattle.slot_store.specs.acquire_retire.Collecting.{move}
use Rattle.slot_store.specs.acquire_retire.Domains.{DomainState}
use Rattle.slot_store.specs.acquire_retire.Seats.{SeatState}
use Rattle.slot_store.proofs.Below.acquire_retire_Contents.{look_on}
use Rattle.slot_store.specs.control_word.Moves.{Becomes, last_core}
use Rattle.slot_store.proofs.Below.control_word_Becoming.{one_step}
use Rattle.part_calls.proofs.Below.protected_loads_Telling.{content_found}

module _ {P V : Type 0} {fits : List ℕ → Type 0} (d : DomainState P)
    {next : OwnPart → OwnPart → V → PlainAct → ℕ → V}
    {allows : Plain → Plain → ℕ → V → V → Type 0} (place : EventPlace) (found : Option SlotId)
    (old new : SeatState V) where
  pub looked : Steps fits d next allows (act.Look place) old new (outcome.Found found)
      → Becomes fits d next allows (move (act.Look place) (outcome.Found found) ∷ [])
      old.view.core old new
  looked step = one_step d (act.Look place) old new (outcome.Found found) step.word old.view.core
      step (sym step.answers) refl refl

  pub looked_there :
      (by : Becomes fits d next allows (move (act.Look place) (outcome.Found found) ∷ [])
      old.view.core old new)
      → content (shows d.shape (last_core by)) place ≡ found
  looked_there by =
      let step = by.walks.1 in
      let is : outcome.Found found ≡ outcome.Found (slot_in step.word) = step.answers in
      content_found step.told place (look_on d.shape place) ∙ sym (cc (is))

-- the same step, of the same place and answer by other names
pub step_as : {P V : Type 0} {fits : List ℕ → Type 0} (d : DomainState P)
    {next : OwnPart → OwnPart → V → PlainAct → ℕ → V}
    {allows : Plain → Plain → ℕ → V → V → Type 0} (place other : EventPlace) (o p : Outcome)
    (old new : SeatState V) → place ≡ other → o ≡ p
    → Steps fits d next allows (act.Look place) old new o
    → Steps fits d next allows (act.Look other) old new p
step_as {fits = fits} d {next = next} {allows = allows} place other o p old new same is step =
    subst (λ (x : EventPlace). Steps fits d next allows (act.Look x) old new p) same
    (subst (λ (x : Outcome). Steps fits d next allows (act.Look place) old new x) is step)

pub word_slot_of : (found : Option SlotId) (now : ℕ) → now ≡ word_of found
    → outcome.Found found ≡ outcome.Found (slot_in now)
word_slot_of found now is = ap outcome.Found (sym (ap slot_in is ∙ slot_word found))
