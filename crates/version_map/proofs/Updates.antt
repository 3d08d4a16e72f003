-- What the steps of an update are of the whole call.
use Rattle.std.proofs.Common.{◌≡◌, inl, inr, ℕ, List, [], ◌∷◌, ◌++◌, refl, ap, sym, ◌∙◌, arith, append_assoc}
use Rattle.std.specs.Prelude.{Option, Some, None}
use Rattle.version_making.specs.map_law.plain_state.declared.act.EventPlace.TheVariants.{Cell}
use Rattle.version_making.specs.map_law.plain_state.declared.act.PlainAct.{PlainAct}
use Rattle.version_making.specs.map_law.plain_state.declared.slot.SlotId.{SlotId}
use Rattle.version_making.specs.map_law.plain_state.declared.slot.Kind.TheVariants.{Strong}
use Rattle.version_making.specs.map_law.plain_state.Steps.{word_of}
use Rattle.version_making.specs.map_law.plain_state.State.{Plain}
use Rattle.version_making.specs.map_law.plain_protocol.Owns.{OwnPart}
use Rattle.version_making.specs.map_law.declared.view.View.{View}
use Rattle.version_making.specs.map_law.Lessons.{see_next}
use Rattle.version_making.specs.map_law.Nodes.{IsNode}
use Rattle.version_making.specs.map_protocol.declared.law.MapLaw.{MapLaw}
use Rattle.version_making.specs.slot_store.core_events.declared.act.Act.{Act}
use Rattle.version_making.specs.slot_store.core_events.declared.act.Act.TheVariants as act
use Rattle.version_making.specs.slot_store.core_events.declared.outcome.Outcome.{Outcome}
use Rattle.version_making.specs.slot_store.core_events.declared.outcome.Outcome.TheVariants as outcome
use Rattle.version_making.specs.slot_store.core_events.declared.view.CoreView.{CoreView}
use Rattle.version_making.specs.slot_store.core_events.declared.view.Move.{Move}
use Rattle.version_making.specs.slot_store.core_events.Counts.{one}
use Rattle.version_making.specs.slot_store.core_events.Runs.{after as after_act}
use Rattle.version_making.specs.slot_store.core_events.Shows.{shows}
use Rattle.version_making.specs.slot_store.core_events.Steps.{changed}
use Rattle.version_making.specs.slot_store.core_events.Words.{slot_in}
use Rattle.version_making.proofs.Below.core_law_Kit.{times_push}
use Rattle.version_making.proofs.Below.core_law_ShownPlaces.{word_slot}
use Rattle.version_making.proofs.Below.control_word_Becoming.{one_step}
use Rattle.version_making.specs.slot_store.acquire_retire.Calls.{IsSameView, same_view}
use Rattle.version_making.specs.slot_store.acquire_retire.Collecting.{move}
use Rattle.version_making.specs.slot_store.acquire_retire.Domains.{DomainState}
use Rattle.version_making.specs.slot_store.acquire_retire.Seats.{SeatState}
use Rattle.version_making.specs.slot_store.control_word.Calls.{GainsStrong, with_strong}
use Rattle.version_making.specs.slot_store.control_word.Moves.{KnowsStill}
use Rattle.version_making.specs.slot_store.counted_handles.Handles.{Handle}
use Rattle.version_making.specs.atomic_shared.protected_loads.Loads.{Misses}
use Rattle.version_making.specs.atomic_shared.protected_loads.References.{Loads}
use Rattle.version_making.specs.atomic_shared.Places.{named}
use Rattle.version_making.specs.Keeping.{GoesOn, Keeps, none}
use Rattle.version_making.proofs.Keeping.{goes_then, grows_same, keeps_core}
use Rattle.version_updates.specs.Steps.{AtAStep}
use Rattle.version_map.specs.Updating.{IsAgain, Saw, Showed}

-- ONE MORE REFERENCE
pub keeps_copied : {P : Type 0} (d : DomainState P) (s : SlotId) (a b : SeatState View)
    → GainsStrong IsNode d same_view IsSameView s a b → KnowsStill a.view.core a b
    → b.view.client ≡ a.view.client → Keeps 0 1 none (λ x. one x s) a b
keeps_copied d s a b gains knows client =
    keeps_core 0 1 none (λ x. one x s) a b (with_strong s a.view.core) a.view.core _ gains.core refl
    (λ x. let t = times_push x s a.view.core.owned in omega (arith, t))
    (omega arith, omega arith) (omega arith, omega arith) knows (λ x less. less)
    (grows_same a.view.client b.view.client client)

-- A STEP of a part of a call is one of the call
module _ {P : Type 0} (d : DomainState P) (next : OwnPart → OwnPart → View → PlainAct → ℕ → View)
    (allows : Plain → Plain → ℕ → View → View → Type 0) (a : Act) (o : Outcome)
    (fact : Plain → Plain → Type 0) (s t : SeatState View)
    (at : AtAStep d next allows a o fact s t) where
  pub step_within : (more : Plain → Plain → Type 0) (q r : SeatState View)
      → GoesOn q.view.core s.view.core → GoesOn t.view.core r.view.core
      → ((x y : Plain) → fact x y → more x y) → AtAStep d next allows a o more q r
  step_within more q r first last follows = record {
    before = at.before;
    after = at.after;
    step = at.step;
    since = goes_then q.view.core s.view.core at.before.view.core first at.since;
    till = goes_then at.after.view.core t.view.core r.view.core at.till last;
    holds = follows (shows d.shape at.step.told.happened.before)
        (shows d.shape (after_act d.shape at.step.told.happened.before at.before.view.core.seat a))
        at.holds;
  }

-- THE CELL
pub saw_within : (c word : ℕ) (u v w x : CoreView) → GoesOn u v → Saw c word v.trail w.trail
    → GoesOn w x → Saw c word u.trail x.trail
saw_within c word u v w x first saw last = record {
  before = first.0 ++ saw.before;
  event = saw.event;
  after = saw.after ++ last.0;
  trail = last.1
      ∙ (ap (λ (t : List Move). t ++ last.0)
      (saw.trail ∙ ap (λ (t : List Move). t ++ (saw.before ++ saw.event ∷ saw.after)) first.1)
      ∙ (append_assoc (u.trail ++ first.0) (saw.before ++ saw.event ∷ saw.after) last.0
      ∙ (append_assoc u.trail first.0 ((saw.before ++ saw.event ∷ saw.after) ++ last.0)
      ∙ ap (λ (t : List Move). u.trail ++ t)
      (ap (λ (t : List Move). first.0 ++ t) (append_assoc saw.before (saw.event ∷ saw.after) last.0)
      ∙ sym (append_assoc first.0 saw.before (saw.event ∷ saw.after ++ last.0))))));
  showed = saw.showed;
}

pub saw_one : (c word : ℕ) (u v : CoreView) (m : Move) → v.trail ≡ u.trail ++ m ∷ [] → Showed c word m
    → Saw c word u.trail v.trail
saw_one c word u v m trail showed = record {
  before = [];
  event = m;
  after = [];
  trail = trail;
  showed = showed;
}

module _ (d : DomainState MapLaw) (next : OwnPart → OwnPart → View → PlainAct → ℕ → View)
    (allows : Plain → Plain → ℕ → View → View → Type 0) (c : ℕ) (found : Option SlotId)
    (fact : Plain → Plain → Type 0) (s t : SeatState View) where
  pub saw_look : AtAStep d next allows (act.Look (Cell c)) (outcome.Found found) fact s t
      → Saw c (word_of found) s.view.core.trail t.view.core.trail
  saw_look at =
      let by = one_step d (act.Look (Cell c)) at.before at.after (outcome.Found found) at.step.word
      (changed d.shape (act.Look (Cell c)) at.step.word at.before.view.core) at.step
      (sym at.step.answers) refl refl in
      saw_within c (word_of found) s.view.core at.before.view.core at.after.view.core t.view.core
      at.since
      (saw_one c (word_of found) at.before.view.core at.after.view.core
      (move (act.Look (Cell c)) (outcome.Found found)) (ap (λ (v : CoreView). v.trail) by.core)
      (found, refl, inl refl)) at.till

  pub saw_lost : (old new : Option SlotId)
      → AtAStep d next allows (act.Cas (Cell c) old new) (outcome.LostTo found) fact s t
      → Saw c (word_of found) s.view.core.trail t.view.core.trail
  saw_lost old new at =
      let by = one_step d (act.Cas (Cell c) old new) at.before at.after (outcome.LostTo found)
      at.step.word
      (changed d.shape (act.Cas (Cell c) old new) at.step.word at.before.view.core) at.step
      (sym at.step.answers) refl refl in
      saw_within c (word_of found) s.view.core at.before.view.core at.after.view.core t.view.core
      at.since
      (saw_one c (word_of found) at.before.view.core at.after.view.core
      (move (act.Cas (Cell c) old new) (outcome.LostTo found))
      (ap (λ (v : CoreView). v.trail) by.core) (found, refl, inr (inr (old, new, refl)))) at.till

-- what a load shows
module _ (d : DomainState MapLaw) (c : ℕ) (allows : Plain → Plain → ℕ → View → View → Type 0)
    (a b : SeatState View) where
  pub saw_load : (h : Option Handle) → Loads IsNode d (Cell c) see_next allows (named h) a b
      → Saw c (word_of (named h)) a.view.core.trail b.view.core.trail
  saw_load None null =
      saw_one c 0 a.view.core b.view.core (move (act.Look (Cell c)) (outcome.Found None))
      (ap (λ (v : CoreView). v.trail) null.becomes.core) (None, refl, inl refl)
  saw_load (Some h) r = record {
    before = [];
    event = move (act.Look (Cell c)) (outcome.Found (Some h.slot));
    after = _;
    trail = ap (λ (v : CoreView). v.trail) r.core;
    showed = (Some h.slot, refl, inl refl);
  }

  word_back : (w : ℕ) → w ≡ word_of (slot_in w)
  word_back w = sym (word_slot w)

  pub again_missed : (seen now : ℕ)
      → Misses IsNode d 0 (Cell c) see_next allows (slot_in seen) (slot_in now) a b
      → b.view.client.entries ≡ a.view.client.entries → IsAgain c seen now a b
  again_missed seen now m entries = record {
    differ = λ same. m.differ (ap slot_in (sym same));
    middle = a.view.core.trail ++ move (act.Look (Cell c)) (outcome.Found (Some m.slot)) ∷ [];
    saw = record {
      before = [];
      event = move (act.Look (Cell c)) (outcome.Found (Some m.slot));
      after = [];
      trail = refl;
      showed = (Some m.slot, word_back seen ∙ ap word_of m.found, inl refl);
    };
    sees = record {
      before = move (act.Announce 0 Strong m.slot) outcome.Plain ∷ [];
      event = move (act.Check 0 (Cell c)) (outcome.Moved (slot_in now));
      after = _;
      trail = ap (λ (v : CoreView). v.trail) m.core
          ∙ sym (append_assoc a.view.core.trail
          (move (act.Look (Cell c)) (outcome.Found (Some m.slot)) ∷ []) _);
      showed = (slot_in now, word_back now, inr (inl (0, refl)));
    };
    entries = entries;
  }
