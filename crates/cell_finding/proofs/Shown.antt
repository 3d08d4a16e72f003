-- What a look tells of the plain state that the domain showed before it.
use Rattle.std.proofs.Common.{◌≡◌, ◌≢◌, ℕ, suc, ◌+◌, ◌-◌, ◌<◌, List, length, refl, sym, ap, subst, ◌∙◌, arith}
use Rattle.std.specs.Prelude.{Bool, true, false, Option, Some, None, if◌then◌else◌, slice_index, ◌==◌}
use Rattle.std.proofs.lemmas.Bool.Decides.{nat_tests}
use Rattle.cell_calls.specs.Keeping.{GoesOn}
use Rattle.cell_calls.proofs.Keeping.{goes_nowhere}
use Rattle.epoch_domain.specs.plain_protocol.plain_state.declared.act.EventPlace.{EventPlace}
use Rattle.epoch_domain.specs.plain_protocol.plain_state.declared.act.EventPlace.TheVariants.{Cell}
use Rattle.epoch_domain.specs.plain_protocol.plain_state.declared.act.PlainAct.{PlainAct}
use Rattle.epoch_domain.specs.plain_protocol.plain_state.declared.slot.PlainSlot.{PlainSlot}
use Rattle.epoch_domain.specs.plain_protocol.plain_state.declared.slot.SlotId.{SlotId}
use Rattle.epoch_domain.specs.plain_protocol.plain_state.Places.{content}
use Rattle.epoch_domain.specs.plain_protocol.plain_state.State.{Plain, seat_at, slot_at}
use Rattle.epoch_domain.specs.plain_protocol.Owns.{HasSlot, OwnPart, has_slot, object_of, own_part}
use Rattle.epoch_domain.specs.epoch_core.core_events.Words.{slot_in}
use Rattle.epoch_domain.specs.epoch_core.declared.act.EpochAct.TheVariants as act
use Rattle.epoch_domain.specs.epoch_core.declared.outcome.EpochOutcome.TheVariants as outcome
use Rattle.epoch_domain.specs.epoch_core.declared.shape.EpochShape.{EpochShape}
use Rattle.epoch_domain.specs.epoch_core.declared.view.EpochView.{EpochView}
use Rattle.epoch_domain.specs.epoch_core.Runs.{Core}
use Rattle.epoch_domain.specs.epoch_core.Shows.{show_seat, shows}
use Rattle.epoch_domain.specs.epoch_core.Sound.{Sound}
use Rattle.epoch_domain.specs.epoch_core.Steps.{moved}
use Rattle.epoch_domain.specs.epoch_core.Words.{cell_at, field_at, place_at}
use Rattle.epoch_domain.specs.epoch_rule.Views.{object_in, own_of}
use Rattle.epoch_domain.specs.Calls.{Steps}
use Rattle.epoch_domain.specs.Domains.{DomainState}
use Rattle.epoch_domain.specs.Seats.{SeatState}
use Rattle.epoch_domain.proofs.Below.core_law_Each.{get_each}
use Rattle.epoch_domain.proofs.Below.epoch_core_Bridge.{shown_seat, shown_slot}
use Rattle.epoch_domain.proofs.Below.epoch_core_Keeps.{history_sound}
use Rattle.epoch_domain.proofs.Below.epoch_rule_Others.{has_there}
use Rattle.directory_law.proofs.Kit.{none_some, some_same}
use Rattle.cell_finding.specs.Looking.{AtStep}

-- WORDS. The word of a slot that was found, and that of null
abbrev before_word : ℕ → SlotId
before_word w = record { 0 = w - 1 }

pub word_null : (w : ℕ) → slot_in w ≡ None → w ≡ 0
word_null w is = go (w == 0) refl is
  where
    go : (b : Bool) → (w == 0) ≡ b → (if b then None else Some (before_word w)) ≡ None
        → w ≡ 0
    go true zero' null = grind (arith, nat_tests)
    go false some null = absurd (none_some _ (sym null))

pub word_some : (w : ℕ) (s : SlotId) → slot_in w ≡ Some s → w ≡ suc s.0
word_some w s is = go (w == 0) refl is
  where
    go : (b : Bool) → (w == 0) ≡ b → (if b then None else Some (before_word w)) ≡ Some s
        → w ≡ suc s.0
    go true zero' some = absurd (none_some s some)
    go false pos some =
        let same : w - 1 ≡ s.0 = ap (λ (x : SlotId). x.0) (some_same (before_word w) s some) in
        let ne : w ≢ 0 = grind (arith, nat_tests) in
        omega (arith, same, ne)

-- PLACES
pub cell_shows : (z : EpochShape) (c : Core) (i : ℕ) → i < z.cells
    → content (shows z c) (Cell i) ≡ slot_in (slice_index c.words (cell_at z i))
cell_shows z c i h =
    let e : 0 + i ≡ i = omega arith in
    get_each 0 z.cells i (λ k. slot_in (slice_index c.words (cell_at z k))) None h
    ∙ ap (λ (k : ℕ). slot_in (slice_index c.words (cell_at z k))) e

pub second_shows : (z : EpochShape) (c : Core) (s : SlotId) → s.0 < z.slots
    → (slot_at (shows z c) s).second ≡ slot_in (slice_index c.words (field_at z s 1))
second_shows z c s h = ap (λ (x : PlainSlot). x.second) (shown_slot z c s h)

found_same : (x y : Option SlotId) → outcome.Found x ≡ outcome.Found y → x ≡ y
found_same x y is = cc (is)

-- A LOOK
module _ {P V : Type 0} (fits : List ℕ → Type 0) (d : DomainState P)
    (next : OwnPart → OwnPart → V → PlainAct → ℕ → V)
    (allows : Plain → Plain → ℕ → V → V → Type 0) (q : EventPlace) (x : Option SlotId)
    (old new : SeatState V)
    (step : Steps fits d next allows (act.Look q) old new (outcome.Found x)) where
  abbrev before : Core
  before = step.told.happened.before

  -- the state that the domain showed
  abbrev pub state : Plain
  state = shows d.shape before

  so : Sound d.shape before
  so =
      let h = step.told.happened in
      history_sound d.shape d.quotas h.events h.before h.shape h.quotas h.history

  inside : old.view.core.seat < length before.views
  inside = step.told.happened.enabled.0

  pub slot_is : slot_in step.word ≡ x
  slot_is = sym (found_same x (slot_in step.word) step.answers)

  pub word_is : step.word ≡ slice_index before.words (place_at d.shape q)
  word_is = step.told.happened.found

  pub there : (s : SlotId) → HasSlot (show_seat old.view.core) s → s.0 < d.shape.slots
  there s has =
      has_there d.shape before so old.view.core.seat s inside
      (subst (λ (v : EpochView). HasSlot (show_seat v) s) step.told.said.core has)

  seat_told : seat_at state old.view.core.seat ≡ show_seat old.view.core
  seat_told =
      shown_seat d.shape before old.view.core.seat inside ∙ ap show_seat (sym step.told.said.core)

  -- what the seat has by its view is its own part of that state
  pub objects_told : (s : SlotId)
      → (own_part state old.view.core.seat).objects s ≡ (own_of old.view).objects s
  objects_told s = rw seat_told (go (has_slot (show_seat old.view.core) s) refl)
    where
      go : (b : Bool) → has_slot (show_seat old.view.core) s ≡ b
          → (if b then Some (object_of (slot_at state s)) else None)
          ≡ (if b then Some (object_in old.view s) else None)
      go true has = ap Some (sym (step.told.said.objects s has))
      go false has = refl

  pub at_step : (fact : Plain → Type 0) → fact state → AtStep d fact old new
  at_step fact holds =
      let h = step.told.happened in
      record {
        view = old.view.core;
        act = act.Look q;
        word = step.word;
        happened = record {
          shape = h.shape;
          quotas = h.quotas;
          events = h.events;
          before = h.before;
          history = h.history;
          view = h.view;
          enabled = h.enabled;
          found = h.found;
          fact = holds;
        };
        since = goes_nowhere old.view.core;
        till = subst (GoesOn (moved d.shape (act.Look q) step.word old.view.core))
            (sym step.told.core)
            (goes_nowhere (moved d.shape (act.Look q) step.word old.view.core));
      }
