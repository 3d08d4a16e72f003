-- What a load tells the client's view: the deed's next view, by the number of what was found; and what it leaves of
-- the batch.
use Rattle.std.proofs.Common.{◌≡◌, ℕ, suc, ◌+◌, ◌<◌, List, length, refl, ap, sym, ◌∙◌, subst, arith}
use Rattle.std.specs.Prelude.{Option, Some, None}
use Rattle.control_word.specs.plain_state.declared.act.EventPlace.{EventPlace}
use Rattle.control_word.specs.plain_state.declared.act.PlainAct.{PlainAct}
use Rattle.control_word.specs.plain_state.declared.act.PlainAct.TheVariants as plain
use Rattle.control_word.specs.plain_state.declared.slot.Kind.{Kind}
use Rattle.control_word.specs.plain_state.declared.slot.Kind.TheVariants.{Strong, Weak, Disposal}
use Rattle.control_word.specs.plain_state.declared.slot.SlotId.{SlotId}
use Rattle.control_word.specs.plain_state.Lists.{Entry}
use Rattle.control_word.specs.plain_state.Places.{place_kind}
use Rattle.control_word.specs.plain_state.State.{Plain}
use Rattle.control_word.specs.plain_state.Steps.{word_of}
use Rattle.control_word.specs.plain_protocol.Owns.{HasSlot, OwnPart}
use Rattle.control_word.specs.core_events.declared.act.Act.TheVariants as act
use Rattle.control_word.specs.core_events.declared.outcome.Outcome.TheVariants as outcome
use Rattle.control_word.specs.core_events.declared.view.CoreView.{CoreView}
use Rattle.control_word.specs.core_events.Shows.{show_seat, shows}
use Rattle.control_word.specs.core_events.Steps.{HasRoom}
use Rattle.control_word.specs.core_events.Words.{slot_in}
use Rattle.control_word.specs.core_events.Runs.{after}
use Rattle.control_word.proofs.Below.core_law_ShownPlaces.{word_slot}
use Rattle.control_word.specs.domain_rule.Views.{object_in, own_of}
use Rattle.control_word.specs.acquire_retire.Calls.{Steps}
use Rattle.control_word.specs.acquire_retire.Domains.{DomainState}
use Rattle.control_word.specs.acquire_retire.Seats.{SeatState}
use Rattle.control_word.proofs.Below.acquire_retire_Contents.{check_on}
use Rattle.control_word.specs.Resting.{IsAtRest}
use Rattle.protected_loads.specs.Loads.{FindsNull, Misses}
use Rattle.protected_loads.specs.References.{Loads, Refers, with_reference}
use Rattle.protected_loads.proofs.Checking.{valid_word}
use Rattle.protected_loads.proofs.Looking.{null_found}
use Rattle.protected_loads.proofs.Protecting.{holds_snapshot}
use Rattle.protected_loads.proofs.Telling.{four_notes, holds_has, slot_found}

-- the room depends on the batch alone
abbrev pub batch : CoreView → List Entry × List Entry × ℕ
batch v = (v.retired, v.owed, v.room)

pub room_as : (v w : CoreView) → batch w ≡ batch v → HasRoom v → HasRoom w
room_as v w same room =
    subst (λ (b : List Entry × List Entry × ℕ). length b.0 + length b.1 < b.2) (sym same) room

with_batch : (k : Kind) (s : SlotId) (v : CoreView) → batch (with_reference k s v) ≡ batch v
with_batch Strong s v = refl
with_batch Weak s v = refl
with_batch Disposal s v = refl

module _ {P V : Type 0} {fits : List ℕ → Type 0} (d : DomainState P) (place : EventPlace)
    {next : OwnPart → OwnPart → V → PlainAct → ℕ → V}
    {allows : Plain → Plain → ℕ → V → V → Type 0} (old new : SeatState V) where
  -- NULL was found
  pub client_null : (null : FindsNull fits d place next allows old new)
      → new.view.client
      ≡ next (own_of old.view) (own_of null.becomes.walks.0.view) old.view.client
      (plain.Look place) 0
  client_null null =
      let step = null.becomes.walks.1 in
      let found : outcome.Found None ≡ outcome.Found (slot_in step.word) = step.answers in
      let none : slot_in step.word ≡ None = sym (cc (found)) in
      ap (λ (z : SeatState V). z.view.client) null.becomes.walks.2 ∙ step.told.client
      ∙ ap (next (own_of old.view) (own_of null.becomes.walks.0.view) old.view.client
      (plain.Look place)) (null_found step.word none)

  -- A REFERENCE was gained to s
  module _ (s : SlotId) (rest : IsAtRest d old) (r : Refers fits d place next allows s old new) where
    -- the seat after the check
    abbrev pub checked : SeatState V
    checked = r.protects.checks.walks.0

    step : Steps fits d next allows (act.Check 0 place) r.protects.mid checked outcome.Valid
    step = r.protects.checks.walks.1

    there : 0 < length old.view.core.notes
    there = let four = four_notes r.protects.announces.becomes.walks.1.told in omega arith

    word : slot_in step.word ≡ Some s
    word = valid_word d place 0 (omega arith) s old r.protects.mid rest rest.first
        r.protects.announces checked step

    number : step.word ≡ suc s.0
    number = let e : s.0 + 1 ≡ step.word = ap word_of (sym word) ∙ word_slot step.word in
        omega arith

    pub client_found :
        new.view.client
        ≡ next (own_of r.protects.mid.view) (own_of checked.view) r.protects.mid.view.client
        (plain.Check 0 place) (suc s.0)
    client_found = r.client
        ∙ (ap (λ (z : SeatState V). z.view.client) r.protects.checks.walks.2
        ∙ (step.told.client
        ∙ ap (next (own_of r.protects.mid.view) (own_of checked.view) r.protects.mid.view.client
        (plain.Check 0 place)) number))

    pub client_checked : new.view.client ≡ checked.view.client
    client_checked =
        r.client ∙ ap (λ (z : SeatState V). z.view.client) r.protects.checks.walks.2

    -- it had the slot, and knew of the object what it knows
    pub has_found : HasSlot (show_seat checked.view.core) s
    has_found = subst (λ (z : SeatState V). HasSlot (show_seat z.view.core) s)
        r.protects.checks.walks.2
        (holds_has r.mid.view.core s
        (holds_snapshot place 0 s old.view.core there rest.first r.mid _ r.protects.core))

    pub known_found : object_in new.view s ≡ object_in checked.view s
    known_found = r.object ∙ sym r.protects.object
        ∙ ap (λ (z : SeatState V). object_in z.view s) r.protects.checks.walks.2

    pub slot_there : s.0 < d.shape.slots
    slot_there = slot_found step.told place (check_on d.shape 0 place) s word

    -- what the deed tells of the check
    pub allowed : (p : Plain) × (q : Plain)
        × allows p q r.protects.mid.view.core.seat r.protects.mid.view.client new.view.client
    allowed = (
      shows d.shape step.told.happened.before,
      shows d.shape
          (after d.shape step.told.happened.before r.protects.mid.view.core.seat (act.Check 0 place)),
      subst (λ (v : V). allows (shows d.shape step.told.happened.before)
          (shows d.shape (after d.shape step.told.happened.before r.protects.mid.view.core.seat
          (act.Check 0 place)))
          r.protects.mid.view.core.seat r.protects.mid.view.client v) (sym client_checked)
          step.told.happened.fact.2,
    )

  -- ANOTHER CONTENT was found at the check
  pub client_moved : (seen now : Option SlotId)
      → (m : Misses fits d 0 place next allows seen now old new)
      → new.view.client
      ≡ next (own_of m.mid.view) (own_of m.checks.walks.0.view) m.mid.view.client
      (plain.Check 0 place) m.checks.walks.1.word
  client_moved seen now m = m.client
      ∙ (ap (λ (z : SeatState V). z.view.client) m.checks.walks.2 ∙ m.checks.walks.1.told.client)

-- THE BATCH is as it was
module _ {P V : Type 0} (fits : List ℕ → Type 0) (d : DomainState P) (place : EventPlace)
    (next : OwnPart → OwnPart → V → PlainAct → ℕ → V)
    (allows : Plain → Plain → ℕ → V → V → Type 0) (old new : SeatState V) where
  pub batch_loaded : (found : Option SlotId) → Loads fits d place next allows found old new
      → batch new.view.core ≡ batch old.view.core
  batch_loaded None null = ap batch null.becomes.core
  batch_loaded (Some s) r = ap batch r.core ∙ with_batch (place_kind place) s old.view.core

  pub batch_moved : (seen now : Option SlotId) → Misses fits d 0 place next allows seen now old new
      → batch new.view.core ≡ batch old.view.core
  batch_moved seen now m = ap batch m.core
