-- What is told of a step is told of it as a part sees it.
use Rattle.std.proofs.Common.{◌≡◌, ℕ, List, [], ◌∷◌, refl, ap, ◌∙◌}
use Rattle.control_word.specs.plain_state.declared.act.PlainAct.{PlainAct}
use Rattle.control_word.specs.plain_state.State.{Plain}
use Rattle.control_word.specs.plain_protocol.Owns.{OwnPart}
use Rattle.control_word.specs.core_events.declared.act.Act.{Act}
use Rattle.control_word.specs.core_events.declared.outcome.Outcome.{Outcome}
use Rattle.control_word.specs.core_events.declared.shape.Shape.{Shape}
use Rattle.control_word.specs.core_events.declared.view.CoreView.{CoreView}
use Rattle.control_word.specs.core_events.declared.view.Move.{Move}
use Rattle.control_word.specs.core_events.Runs.{Core, after}
use Rattle.control_word.specs.core_events.Shows.{shows}
use Rattle.control_word.specs.core_events.ShownSteps.{shown_act, shown_number}
use Rattle.control_word.specs.core_events.Views.{Terms}
use Rattle.control_word.specs.domain_rule.declared.view.SeatView.{SeatView}
use Rattle.control_word.specs.domain_rule.Rule.{IsTrueOf}
use Rattle.control_word.specs.domain_rule.Told.{Told}
use Rattle.control_word.specs.domain_rule.Views.{own_of}
use Rattle.control_word.specs.acquire_retire.Calls.{IsSameView, Steps, same_view}
use Rattle.control_word.specs.acquire_retire.Collecting.{WalksBy}
use Rattle.control_word.specs.acquire_retire.Domains.{DomainState}
use Rattle.control_word.specs.acquire_retire.Seats.{SeatState}
use Rattle.control_word.specs.Moves.{Becomes}
use Rattle.control_word.specs.Resting.{IsAtRest}
use Rattle.slot_store.specs.protocol_pairs.Parts.{Reads}
use Rattle.part_calls.specs.Parts.{as_part, seen_by, view_seen}

-- a deed of the whole is, as the part sees it, this one
pub record IsSeen {V W : Type 0} (seen : V → W) (next : OwnPart → OwnPart → V → PlainAct → ℕ → V)
    (allows : Plain → Plain → ℕ → V → V → Type 0)
    (next_in : OwnPart → OwnPart → W → PlainAct → ℕ → W)
    (allows_in : Plain → Plain → ℕ → W → W → Type 0) : Type 0 where
  pub leads :
      (own after : OwnPart) (v : V) (a : PlainAct) (w : ℕ)
      → seen (next own after v a w) ≡ next_in own after (seen v) a w
  pub tells :
      (p q : Plain) (n : ℕ) (v w : V) → allows p q n v w → allows_in p q n (seen v) (seen w)

pub same_seen : {V W : Type 0} (seen : V → W)
    → IsSeen seen same_view IsSameView same_view IsSameView
same_seen seen = record {
  leads = λ own after v a w. refl;
  tells = λ p q n v w is. ap seen is;
}

-- what a deed of a part is in the whole
abbrev pub lifted_next : {V W : Type 0} → (V → W) → (V → W → V)
    → (OwnPart → OwnPart → W → PlainAct → ℕ → W) → OwnPart → OwnPart → V → PlainAct → ℕ → V
lifted_next seen with_seen next own after v a w = with_seen v (next own after (seen v) a w)

abbrev pub lifted_allows : {V W : Type 0} → (V → W) → (Plain → Plain → ℕ → W → W → Type 0)
    → Plain → Plain → ℕ → V → V → Type 0
lifted_allows seen allows p q n v w = allows p q n (seen v) (seen w)

pub part_seen : {V W : Type 0} (seen : V → W) (with_seen : V → W → V) → Reads seen with_seen
    → (next : OwnPart → OwnPart → W → PlainAct → ℕ → W)
    (allows : Plain → Plain → ℕ → W → W → Type 0)
    → IsSeen seen (lifted_next seen with_seen next) (lifted_allows seen allows) next allows
part_seen seen with_seen reads next allows = record {
  leads = λ own after v a w. reads v (next own after (seen v) a w);
  tells = λ p q n v w is. is;
}

abbrev pub true_seen : {V W : Type 0} (seen : V → W) (z : Shape) (c : Core) (n : ℕ) (v : SeatView V)
    → IsTrueOf z c n v → IsTrueOf z c n (view_seen seen v)
true_seen seen z c n v is = record {
  core = is.core;
  objects = is.objects;
  cleared = is.cleared;
  whole = is.whole;
}

abbrev pub rest_seen : {P Q V W : Type 0} (part : P → Q) (seen : V → W) (d : DomainState P)
    (s : SeatState V) → IsAtRest d s → IsAtRest (as_part part d) (seen_by seen s)
rest_seen part seen d s rest = record {
  of_domain = rest.of_domain;
  idle = rest.idle;
  owes_nothing = rest.owes_nothing;
  first = rest.first;
  others = rest.others;
}

module _ {P Q V W : Type 0} (fits : List ℕ → Type 0) (part : P → Q) (seen : V → W)
    (d : DomainState P) {next : OwnPart → OwnPart → V → PlainAct → ℕ → V}
    {allows : Plain → Plain → ℕ → V → V → Type 0}
    {next_in : OwnPart → OwnPart → W → PlainAct → ℕ → W}
    {allows_in : Plain → Plain → ℕ → W → W → Type 0}
    (is : IsSeen seen next allows next_in allows_in) where
  abbrev pub told_seen : (z : Shape) (ts : Terms) (a : Act) (v : SeatView V) (w : ℕ)
      (v' : SeatView V) → Told fits z ts next allows a v w v'
      → Told fits z ts next_in allows_in a (view_seen seen v) w (view_seen seen v')
  told_seen z ts a v w v' t = record {
    core = t.core;
    client = ap seen t.client
        ∙ is.leads (own_of v) (own_of v') v.client (shown_act z a w v.core) (shown_number a w);
    objects = t.objects;
    payloads = t.payloads;
    cleared = t.cleared;
    whole = t.whole;
    opened = t.opened;
    left_adds = t.left_adds;
    left_makes = t.left_makes;
    here = t.here;
    law = t.law;
    happened = record {
      shape = t.happened.shape;
      terms = t.happened.terms;
      events = t.happened.events;
      before = t.happened.before;
      history = t.happened.history;
      view = t.happened.view;
      enabled = t.happened.enabled;
      found = t.happened.found;
      fact = (
        t.happened.fact.0,
        t.happened.fact.1,
        is.tells (shows z t.happened.before)
            (shows z (after z t.happened.before v.core.seat a)) v.core.seat v.client v'.client
            t.happened.fact.2,
      );
    };
    since = t.since;
    past = t.past;
    said = true_seen seen z t.happened.before v.core.seat v t.said;
    says = true_seen seen z (after z t.happened.before v.core.seat a) v.core.seat v' t.says;
  }

  abbrev pub steps_seen : (a : Act) (old new : SeatState V) (o : Outcome)
      → Steps fits d next allows a old new o
      → Steps fits (as_part part d) next_in allows_in a (seen_by seen old) (seen_by seen new) o
  steps_seen a old new o s = record {
    table = s.table;
    word = s.word;
    told = told_seen d.shape d.terms a old.view s.word new.view s.told;
    answers = s.answers;
  }

  abbrev pub walks_seen : (ms : List Move) (old new : SeatState V)
      → WalksBy fits d next allows ms old new
      → WalksBy fits (as_part part d) next_in allows_in ms (seen_by seen old) (seen_by seen new)
  walks_seen [] old new same = ap (seen_by seen) same
  walks_seen (m ∷ ms) old new w = (
    seen_by seen w.0,
    steps_seen m.act old w.0 m.outcome w.1,
    walks_seen ms w.0 new w.2,
  )

  abbrev pub becomes_seen : (ms : List Move) (v : CoreView) (old new : SeatState V)
      → Becomes fits d next allows ms v old new
      → Becomes fits (as_part part d) next_in allows_in ms v (seen_by seen old) (seen_by seen new)
  becomes_seen ms v old new by = record {
    walks = walks_seen ms old new by.walks;
    core = by.core;
    cleared = by.cleared;
  }
