-- A look with a deed as one without, and what a seat has as the domain shows it.
use Rattle.std.proofs.Common.{◌≡◌, ℕ, suc, ◌+◌, Bool, true, false, List, refl, sym, ap, subst, ◌∙◌, arith, Some, None}
use Rattle.std.specs.Prelude.{◌==◌, if◌then◌else◌}
use Rattle.map_law.specs.plain_state.declared.act.EventPlace.{EventPlace}
use Rattle.map_law.specs.plain_state.declared.act.PlainAct.{PlainAct}
use Rattle.map_law.specs.plain_state.declared.slot.SlotId.{SlotId}
use Rattle.map_law.specs.plain_state.Places.{HoldsStrongly}
use Rattle.map_law.specs.plain_state.State.{Plain, PlainSeat, seat_at, slot_at}
use Rattle.map_law.specs.plain_state.Steps.{word_of}
use Rattle.map_law.specs.plain_protocol.Owns.{HasSlot, Object, OwnPart, has_slot, object_of, own_part}
use Rattle.map_law.specs.Patterns.{HasObject}
use Rattle.slot_store.specs.core_events.declared.act.Act.{Act}
use Rattle.slot_store.specs.core_events.declared.act.Act.TheVariants as act
use Rattle.slot_store.specs.core_events.declared.outcome.Outcome.{Outcome}
use Rattle.slot_store.specs.core_events.declared.shape.Shape.{Shape}
use Rattle.slot_store.specs.core_events.Shows.{show_seat, shows}
use Rattle.slot_store.specs.core_events.Views.{Terms}
use Rattle.slot_store.specs.core_events.Words.{slot_in}
use Rattle.slot_store.specs.domain_rule.declared.view.SeatView.{SeatView}
use Rattle.slot_store.specs.domain_rule.Told.{Told}
use Rattle.slot_store.specs.domain_rule.Views.{object_in}
use Rattle.slot_store.specs.acquire_retire.Calls.{IsSameView, Steps, same_view}
use Rattle.slot_store.specs.acquire_retire.Domains.{DomainState}
use Rattle.slot_store.specs.acquire_retire.Seats.{SeatState}
use Rattle.slot_store.specs.control_word.Resting.{IsAtRest}
use Rattle.protected_loads.proofs.Below.core_law_Bridge.{shown_seat}
use Rattle.protected_loads.proofs.Below.core_law_ShownPlaces.{word_slot}
use Rattle.protected_loads.proofs.Below.control_word_Finding.{sound_before}
use Rattle.protected_loads.proofs.Looking.{Looks}

-- A LOOK with a deed is one without, of a seat whose view was before what it is after
abbrev pub as_seen : {V : Type 0} → SeatState V → SeatState V → SeatState V
as_seen old mid = record old { view = record old.view { client = mid.view.client } }

same_if : {V : Type 0} (b : Bool) (v : V) → v ≡ (if b then v else v)
same_if true v = refl
same_if false v = refl

pub rest_as_seen : {P V : Type 0} (d : DomainState P) (old mid : SeatState V) → IsAtRest d old
    → IsAtRest d (as_seen old mid)
rest_as_seen d old mid rest = record {
  of_domain = rest.of_domain;
  idle = rest.idle;
  owes_nothing = rest.owes_nothing;
  first = rest.first;
  others = rest.others;
}

pub calm_look : {P V : Type 0} {fits : List ℕ → Type 0} (d : DomainState P) (place : EventPlace)
    {next : OwnPart → OwnPart → V → PlainAct → ℕ → V}
    {allows : Plain → Plain → ℕ → V → V → Type 0} (old mid : SeatState V) (o : Outcome)
    → Steps fits d next allows (act.Look place) old mid o
    → Looks fits d place same_view IsSameView (as_seen old mid) mid o
calm_look d place old mid o step =
    let t = step.told in
    let h = t.happened in record {
      table = step.table;
      word = step.word;
      told = record {
        core = t.core;
        client = same_if (step.word == 0) mid.view.client;
        objects = t.objects;
        payloads = t.payloads;
        cleared = t.cleared;
        whole = t.whole;
        opened = t.opened;
        left_adds = t.left_adds;
        left_makes = t.left_makes;
        here = t.here;
        law = t.law;
        happened = record {
          shape = h.shape;
          terms = h.terms;
          events = h.events;
          before = h.before;
          history = h.history;
          view = h.view;
          enabled = h.enabled;
          found = h.found;
          fact = (h.fact.0, h.fact.1, record { null = λ is. refl; other = λ is. refl });
        };
        since = t.since;
        past = t.past;
        said = record {
          core = t.said.core;
          objects = t.said.objects;
          cleared = t.said.cleared;
          whole = t.said.whole;
        };
        says = t.says;
      };
      answers = step.answers;
    }

-- the word of a slot, and of null
pub word_is : (w : ℕ) (s : SlotId) → slot_in w ≡ Some s → w ≡ suc s.0
word_is w s is = let e : s.0 + 1 ≡ w = ap word_of (sym is) ∙ word_slot w in omega (arith, e)

-- WHAT IT HAS before a step it has in the state that the domain showed
module _ {V : Type 0} {fits : List ℕ → Type 0} {z : Shape} {ts : Terms}
    {next : OwnPart → OwnPart → V → PlainAct → ℕ → V}
    {allows : Plain → Plain → ℕ → V → V → Type 0} {a : Act} {v v' : SeatView V} {w : ℕ}
    (told : Told fits z ts next allows a v w v') where
  abbrev pub state : Plain
  state = shows z told.happened.before

  seat_told : seat_at state v.core.seat ≡ show_seat v.core
  seat_told =
      let views = (sound_before told).views in
      let there = told.happened.enabled.0 in
      shown_seat z told.happened.before v.core.seat (omega arith)
      ∙ ap show_seat (sym told.happened.view)

  pub shown_object : (s : SlotId) → HasSlot (show_seat v.core) s
      → HasObject (own_part state v.core.seat) s (object_in v s)
  shown_object s has =
      ap (λ (u : PlainSeat). if has_slot u s then Some (object_of (slot_at state s)) else None) seat_told
      ∙ ap (λ (b : Bool). if b then Some (object_of (slot_at state s)) else None) has
      ∙ ap (λ (o : Object). Some o) (sym (told.said.objects s has))

  pub shown_held : (s : SlotId) → HoldsStrongly (show_seat v.core) s
      → HoldsStrongly (seat_at state v.core.seat) s
  shown_held s held = subst (λ (u : PlainSeat). HoldsStrongly u s) (sym seat_told) held
