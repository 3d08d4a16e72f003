-- What a step on a place tells of the place, as the domain showed it then.
use Rattle.std.proofs.Common.{◌≡◌, ⊎_elim, ℕ, ◌<◌, ◌+◌, List, length, ap, sym, ◌∙◌, subst, arith}
use Rattle.std.specs.Prelude.{slice_index, Some}
use Rattle.std.proofs.lemmas.Bool.Decides.{nat_tests}
use Rattle.control_word.specs.plain_state.declared.act.EventPlace.{EventPlace}
use Rattle.control_word.specs.plain_state.declared.act.PlainAct.{PlainAct}
use Rattle.control_word.specs.plain_state.declared.slot.SlotId.{SlotId}
use Rattle.control_word.specs.plain_state.Places.{content}
use Rattle.control_word.specs.plain_state.State.{Plain, slot_at}
use Rattle.control_word.specs.plain_state.Steps.{word_of}
use Rattle.control_word.specs.plain_protocol.Owns.{HasSlot, OwnPart}
use Rattle.control_word.specs.core_events.declared.act.Act.{Act}
use Rattle.control_word.specs.core_events.declared.act.Act.TheVariants as act
use Rattle.control_word.specs.core_events.declared.shape.Shape.{Shape}
use Rattle.control_word.specs.core_events.declared.view.CoreView.{CoreView}
use Rattle.control_word.specs.core_events.Good.{SeatLaw}
use Rattle.control_word.specs.core_events.Runs.{Enabled, after, view_at}
use Rattle.control_word.specs.core_events.Shows.{show_seat, shows}
use Rattle.control_word.specs.core_events.ShownSteps.{shown_act, shown_number}
use Rattle.control_word.specs.core_events.Views.{Holds, Terms}
use Rattle.control_word.specs.core_events.Words.{place_at, slot_in}
use Rattle.control_word.proofs.Below.core_law_InRange.{content_in}
use Rattle.control_word.proofs.Below.core_law_Writes.{IsPlace}
use Rattle.control_word.proofs.Below.core_law_Events.{event_shows}
use Rattle.control_word.proofs.Below.core_law_ShownPlaces.{shown_content, word_slot}
use Rattle.control_word.specs.domain_rule.declared.view.SeatView.{SeatView}
use Rattle.control_word.specs.domain_rule.Told.{Told}
use Rattle.control_word.specs.domain_rule.Views.{own_of}
use Rattle.control_word.proofs.Below.acquire_retire_Contents.{IsOn}
use Rattle.control_word.proofs.Finding.{sound_before}

module _ {V : Type 0} {fits : List ℕ → Type 0} {z : Shape} {ts : Terms}
    {next : OwnPart → OwnPart → V → PlainAct → ℕ → V}
    {allows : Plain → Plain → ℕ → V → V → Type 0} {a : Act} {v v' : SeatView V} {w : ℕ}
    (told : Told fits z ts next allows a v w v') where
  pub law_before : SeatLaw z v.core.seat v.core
  law_before =
      let views = (sound_before told).views in
      let there = told.happened.enabled.0 in
      subst (λ (u : CoreView). SeatLaw z v.core.seat u) (sym told.happened.view)
      ((sound_before told).seats v.core.seat (omega arith))

  pub four_notes : length v.core.notes ≡ 4
  four_notes = law_before.four

  module _ (place : EventPlace) (on : IsOn z a place) where
    there : IsPlace z place
    there =
        let views = (sound_before told).views in
        let here = told.happened.enabled.0 in
        on.there v.core.seat (view_at told.happened.before v.core.seat)
        ((sound_before told).seats v.core.seat (omega arith)) told.happened.enabled.1

    -- the word found is the place's
    found_there : w ≡ slice_index told.happened.before.words (place_at z place)
    found_there =
        told.happened.found
        ∙ ap (slice_index told.happened.before.words)
        (on.word (view_at told.happened.before v.core.seat))

    pub content_found : content (shows z told.happened.before) place ≡ slot_in w
    content_found =
        shown_content z told.happened.before place there ∙ ap slot_in (sym found_there)

    -- and what it holds is a slot of the domain
    pub slot_found : (s : SlotId) → slot_in w ≡ Some s → s.0 < z.slots
    slot_found s is =
        let most = content_in z told.happened.before (sound_before told) place there in
        let word : s.0 + 1 ≡ w = ap word_of (sym is) ∙ word_slot w in
        let at = found_there in omega arith

  -- a step with one deed is one with another, where that one's next view and its relation are so too
  pub another_deed : (next' : OwnPart → OwnPart → V → PlainAct → ℕ → V)
      (allows' : Plain → Plain → ℕ → V → V → Type 0)
      → v'.client
      ≡ next' (own_of v) (own_of v') v.client (shown_act z a w v.core) (shown_number a w)
      → allows' (shows z told.happened.before)
      (shows z (after z told.happened.before v.core.seat a)) v.core.seat v.client v'.client
      → Told fits z ts next' allows' a v w v'
  another_deed next' allows' client allowed =
      let h = told.happened in record {
        core = told.core;
        client = client;
        objects = told.objects;
        payloads = told.payloads;
        cleared = told.cleared;
        whole = told.whole;
        opened = told.opened;
        left_adds = told.left_adds;
        left_makes = told.left_makes;
        here = told.here;
        law = told.law;
        happened = record {
          shape = h.shape;
          terms = h.terms;
          events = h.events;
          before = h.before;
          history = h.history;
          view = h.view;
          enabled = h.enabled;
          found = h.found;
          fact = (h.fact.0, h.fact.1, allowed);
        };
        since = told.since;
        past = told.past;
        said = told.said;
        says = told.says;
      }

  -- a check leaves every slot as it was shown
  pub checked_slot : (j : ℕ) (place : EventPlace) → a ≡ act.Check j place → (s : SlotId)
      → slot_at (shows z (after z told.happened.before v.core.seat a)) s
      ≡ slot_at (shows z told.happened.before) s
  checked_slot j place is s =
      let h = told.happened in
      let enabled = subst (λ (x : Act). Enabled z h.before v.core.seat x) is h.enabled in
      let shown = event_shows z h.before v.core.seat (act.Check j place) (sound_before told) enabled in
      ap (λ (x : Act). slot_at (shows z (after z h.before v.core.seat x)) s) is
      ∙ ⊎_elim (λ same. ap (λ (p : Plain). slot_at p s) same)
      (λ more. ap (λ (p : Plain). slot_at p s) more.2.2) shown.1.2

-- what a seat holds is a slot of its own part
pub holds_has : (v : CoreView) (s : SlotId) → Holds v s → HasSlot (show_seat v) s
holds_has v s held = grind (arith, nat_tests)
