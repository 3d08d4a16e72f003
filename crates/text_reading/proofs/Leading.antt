-- A look with a deed as one without; the views and the readiness of the deeds by which a part is
-- read.
use Rattle.std.proofs.Common.{◌≡◌, inr, ℕ, zero, suc, ◌+◌, ◌<◌, Bool, true, false, List, ◌∷◌, refl, sym, ap, subst, ◌∙◌, arith, Some, None}
use Rattle.std.specs.Prelude.{◌==◌, Option, if◌then◌else◌}
use Rattle.snapshot_ptr.specs.plain_state.declared.act.EventPlace.{EventPlace}
use Rattle.snapshot_ptr.specs.plain_state.declared.act.EventPlace.TheVariants.{Field}
use Rattle.snapshot_ptr.specs.plain_state.declared.act.PlainAct.{PlainAct}
use Rattle.snapshot_ptr.specs.plain_state.declared.slot.Kind.TheVariants.{Strong}
use Rattle.snapshot_ptr.specs.plain_state.declared.slot.SlotId.{SlotId}
use Rattle.snapshot_ptr.specs.plain_state.Lists.{entry_times, times}
use Rattle.snapshot_ptr.specs.plain_state.State.{Plain}
use Rattle.snapshot_ptr.specs.plain_state.Steps.{word_of}
use Rattle.snapshot_ptr.specs.plain_protocol.Owns.{Object, OwnPart}
use Rattle.slot_store.specs.core_events.declared.act.Act.TheVariants as act
use Rattle.slot_store.specs.core_events.declared.outcome.Outcome.{Outcome}
use Rattle.slot_store.specs.core_events.Runs.{after}
use Rattle.slot_store.specs.core_events.Words.{slot_in}
use Rattle.slot_store.proofs.Below.core_law_ShownPlaces.{word_slot}
use Rattle.slot_store.specs.acquire_retire.Calls.{IsSameView, Steps, same_view}
use Rattle.slot_store.specs.acquire_retire.Domains.{DomainState}
use Rattle.slot_store.specs.acquire_retire.Seats.{SeatState}
use Rattle.slot_store.specs.control_word.Resting.{IsAtRest}
use Rattle.snapshot_ptr.proofs.Below.protected_loads_Looking.{Looks}
use Rattle.directory_calls.specs.directory_law.declared.view.Ran.{Ran}
use Rattle.directory_calls.specs.directory_law.declared.view.View.{View}
use Rattle.directory_calls.specs.directory_law.Lessons.{ReadReady, first_ran, lead_next, read_next, reads_part}
use Rattle.directory_calls.specs.directory_law.Steps.{LooksAt, id, life_in}
use Rattle.directory_calls.specs.Learning.{Learns}
use Rattle.directory_calls.proofs.Learnt.{learns_none}

-- A LOOK with a deed is one without, of a seat whose view was before what it is after
abbrev pub as_seen : {V : Type 0} → SeatState V → SeatState V → SeatState V
as_seen old mid = record old { view = record old.view { client = mid.view.client } }

same_if : {V : Type 0} (b : Bool) (v : V) → v ≡ (if b then v else v)
same_if true v = refl
same_if false v = refl

pub rest_as_seen : {P V : Type 0} (d : DomainState P) (old mid : SeatState V) → IsAtRest d old
    → IsAtRest d (as_seen old mid)
rest_as_seen d old mid rest = record {
  of_domain = rest.of_domain;
  idle = rest.idle;
  owes_nothing = rest.owes_nothing;
  first = rest.first;
  others = rest.others;
}

module _ {P V : Type 0} {fits : List ℕ → Type 0} (d : DomainState P) (place : EventPlace)
    {next : OwnPart → OwnPart → V → PlainAct → ℕ → V}
    {allows : Plain → Plain → ℕ → V → V → Type 0} (old mid : SeatState V) where
  pub calm_look : (o : Outcome) → Steps fits d next allows (act.Look place) old mid o
      → Looks fits d place same_view IsSameView (as_seen old mid) mid o
  calm_look o step =
      let t = step.told in
      let h = t.happened in record {
        table = step.table;
        word = step.word;
        told = record {
          core = t.core;
          client = same_if (step.word == 0) mid.view.client;
          objects = t.objects;
          payloads = t.payloads;
          cleared = t.cleared;
          whole = t.whole;
          opened = t.opened;
          left_adds = t.left_adds;
          left_makes = t.left_makes;
          here = t.here;
          law = t.law;
          happened = record {
            shape = h.shape;
            terms = h.terms;
            events = h.events;
            before = h.before;
            history = h.history;
            view = h.view;
            enabled = h.enabled;
            found = h.found;
            fact = (h.fact.0, h.fact.1, record { null = λ is. refl; other = λ is. refl });
          };
          since = t.since;
          past = t.past;
          said = record {
            core = t.said.core;
            objects = t.said.objects;
            cleared = t.said.cleared;
            whole = t.said.whole;
          };
          says = t.says;
        };
        answers = step.answers;
      }

-- the next view of the deed ReadPart
part_learns : (o : Option Object) (s : SlotId) (v : View) → Learns 0 v (reads_part s o v)
part_learns None s v = learns_none v
part_learns (Some o) s v = record {
  seen = λ e in'. in';
  ended = λ e in'. in';
  ran = λ e in'. inr in';
  led = λ e in'. in';
  quota = refl;
  used = omega arith;
  notes = (refl, refl);
}

pub read_learns : (own after : OwnPart) (v : View) (a : PlainAct) (w : ℕ)
    → Learns 0 v (read_next own after v a w)
read_learns own after v a zero = learns_none v
read_learns own after v a (suc s) = part_learns (after.objects (id s)) (id s) v

pub lead_learns : (own after : OwnPart) (v : View) (a : PlainAct) (w : ℕ)
    → Learns 0 v (lead_next own after v a w)
lead_learns own after v a w = record {
  seen = λ e in'. in';
  ended = λ e in'. in';
  ran = λ e in'. in';
  led = λ e in'. inr in';
  quota = refl;
  used = omega arith;
  notes = (refl, refl);
}

-- the word of a slot
pub word_is : (w : ℕ) (s : SlotId) → slot_in w ≡ Some s → w ≡ suc s.0
word_is w s is = let e : s.0 + 1 ≡ w = ap word_of (sym is) ∙ word_slot w in omega (arith, e)

-- a deed is ready that reads on
pub read_ready : (own : OwnPart) (v : View) (a : PlainAct) (s : SlotId) (earlier : List Ran)
    → v.ran ≡ first_ran v.ran ∷ earlier → (first_ran v.ran).now ≡ s → LooksAt (Field s 1) a
    → 0 < times s own.seat.owned + entry_times Strong s own.seat.snapshots
    → life_in own s ≡ (first_ran v.ran).now_life → ReadReady own v a
read_ready own v a s earlier ran now looks held life =
    let e = sym now in record {
      earlier = earlier;
      ran = ran;
      looks = subst (λ (x : SlotId). LooksAt (Field x 1) a) e looks;
      held = subst (λ (x : SlotId).
          0 < times x own.seat.owned + entry_times Strong x own.seat.snapshots) e held;
      life = subst (λ (x : SlotId). life_in own x ≡ (first_ran v.ran).now_life) e life;
    }
