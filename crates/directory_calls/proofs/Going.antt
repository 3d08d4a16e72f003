-- Trails that go on, steps of a call, and what several calls leave.
use Rattle.std.proofs.Common.{◌≡◌, ℕ, ◌+◌, ◌≤◌, List, [], ◌∷◌, ◌++◌, refl, ap, sym, ◌∙◌, subst, arith, append_assoc}
use Rattle.std.proofs.lemmas.List.{append-nil}
use Rattle.protected_loads.specs.plain_state.declared.act.PlainAct.{PlainAct}
use Rattle.protected_loads.specs.plain_state.declared.slot.SlotId.{SlotId}
use Rattle.protected_loads.specs.plain_state.Lists.{times}
use Rattle.protected_loads.specs.plain_state.State.{Plain}
use Rattle.protected_loads.specs.plain_protocol.Owns.{OwnPart}
use Rattle.protected_loads.specs.core_events.declared.act.Act.{Act}
use Rattle.protected_loads.specs.core_events.declared.outcome.Outcome.{Outcome}
use Rattle.protected_loads.specs.core_events.declared.view.CoreView.{CoreView}
use Rattle.protected_loads.specs.core_events.declared.view.Move.{Move}
use Rattle.protected_loads.specs.core_events.Runs.{after}
use Rattle.protected_loads.specs.core_events.Shows.{shows}
use Rattle.protected_loads.specs.core_events.Steps.{answer, moved}
use Rattle.protected_loads.proofs.Below.core_law_Trails.{changed_trail}
use Rattle.protected_loads.specs.acquire_retire.Collecting.{WalksBy, move}
use Rattle.protected_loads.specs.core_events.Views.{Holds, held_times}
use Rattle.protected_loads.proofs.Below.core_law_Kit.{times_none}
use Rattle.protected_loads.specs.control_word.Moves.{KnowsStill}
use Rattle.protected_loads.proofs.Telling.{holds_has}
use Rattle.protected_loads.specs.domain_rule.Told.{Happened}
use Rattle.protected_loads.specs.domain_rule.Views.{object_in}
use Rattle.protected_loads.specs.acquire_retire.Calls.{Steps}
use Rattle.protected_loads.specs.acquire_retire.Domains.{DomainState}
use Rattle.protected_loads.specs.acquire_retire.Seats.{SeatState}
use Rattle.directory_calls.specs.Steps.{AtSome, AtStep, GoesOn, Leaves, aside}

-- TRAILS
pub goes_none : (v w : CoreView) → w.trail ≡ v.trail → GoesOn v w
goes_none v w is = ([], is ∙ sym (append-nil v.trail))

pub goes_then : (u v w : CoreView) → GoesOn u v → GoesOn v w → GoesOn u w
goes_then u v w first second = (
  first.0 ++ second.0,
  second.1
      ∙ (ap (λ (t : List Move). t ++ second.0) first.1
      ∙ append_assoc u.trail first.0 second.0),
)

module _ {P V : Type 0} (d : DomainState P) (Fact : Plain → Plain → Type 0) where
  -- A STEP that the seat makes is one between its states
  pub some_step : {fits : List ℕ → Type 0} {next : OwnPart → OwnPart → V → PlainAct → ℕ → V}
      {allows : Plain → Plain → ℕ → V → V → Type 0} {a : Act} {old new : SeatState V} {o : Outcome}
      → (s : Steps fits d next allows a old new o)
      → Fact (shows d.shape s.told.happened.before)
      (shows d.shape (after d.shape s.told.happened.before old.view.core.seat a))
      → AtSome d Fact old new
  some_step {a = a} {old = old} {new = new} s holds =
      let h = s.told.happened in record {
        view = old.view.core;
        act = a;
        word = s.word;
        happened = record {
          shape = h.shape;
          terms = h.terms;
          events = h.events;
          before = h.before;
          history = h.history;
          view = h.view;
          enabled = h.enabled;
          found = h.found;
          fact = holds;
        };
        since = goes_none old.view.core old.view.core refl;
        till = goes_none (moved d.shape a s.word old.view.core) new.view.core
            (ap (λ (v : CoreView). v.trail) s.told.core);
      }

  -- and so it is one between earlier and later states
  pub some_earlier : (a b c : SeatState V) → b.view.core.seat ≡ a.view.core.seat
      → GoesOn a.view.core b.view.core → AtSome d Fact b c → AtSome d Fact a c
  some_earlier a b c seat goes s = record {
    view = s.view;
    act = s.act;
    word = s.word;
    happened =
        subst (λ n. Happened d.shape d.terms n s.view s.act s.word Fact) seat s.happened;
    since = goes_then a.view.core b.view.core s.view goes s.since;
    till = s.till;
  }

  pub some_later : (a b c : SeatState V) → AtSome d Fact a b → GoesOn b.view.core c.view.core
      → AtSome d Fact a c
  some_later a b c s goes = record {
    view = s.view;
    act = s.act;
    word = s.word;
    happened = s.happened;
    since = s.since;
    till = goes_then (moved d.shape s.act s.word s.view) b.view.core c.view.core s.till goes;
  }

-- by a step, and by several, the trail goes on
module _ {P V : Type 0} {fits : List ℕ → Type 0} (d : DomainState P)
    {next : OwnPart → OwnPart → V → PlainAct → ℕ → V}
    {allows : Plain → Plain → ℕ → V → V → Type 0} where
  pub step_goes : (a : Act) (old new : SeatState V) (o : Outcome)
      → Steps fits d next allows a old new o → GoesOn old.view.core new.view.core
  step_goes a old new o step = (
    move a (answer d.shape a step.word old.view.core) ∷ [],
    ap (λ (v : CoreView). v.trail) step.told.core
        ∙ ap (λ (t : List Move). t ++ move a (answer d.shape a step.word old.view.core) ∷ [])
        (changed_trail d.shape a step.word old.view.core).trail,
  )

module _ {P V : Type 0} (fits : List ℕ → Type 0) (d : DomainState P)
    (next : OwnPart → OwnPart → V → PlainAct → ℕ → V)
    (allows : Plain → Plain → ℕ → V → V → Type 0) where
  pub walks_go : (ms : List Move) (a b : SeatState V) → WalksBy fits d next allows ms a b
      → GoesOn a.view.core b.view.core
  walks_go [] a b walks =
      goes_none a.view.core b.view.core (ap (λ (x : SeatState V). x.view.core.trail) walks)
  walks_go (m ∷ ms) a b walks =
      goes_then a.view.core walks.0.view.core b.view.core
      (step_goes d m.act a walks.0 m.outcome walks.1) (walks_go ms walks.0 b walks.2)

-- the same step shows another fact that follows
pub also_some : {P V : Type 0} (d : DomainState P) (Fact More : Plain → Plain → Type 0)
    (a b : SeatState V) → ((p q : Plain) → Fact p q → More p q) → AtSome d Fact a b
    → AtSome d More a b
also_some d Fact More a b follows s =
    let h = s.happened in record {
      view = s.view;
      act = s.act;
      word = s.word;
      happened = record {
        shape = h.shape;
        terms = h.terms;
        events = h.events;
        before = h.before;
        history = h.history;
        view = h.view;
        enabled = h.enabled;
        found = h.found;
        fact = follows (shows d.shape h.before)
            (shows d.shape (after d.shape h.before a.view.core.seat s.act)) h.fact;
      };
      since = s.since;
      till = s.till;
    }

module _ {P V : Type 0} (d : DomainState P) (fact : Plain → Type 0) where
  pub at_step : {fits : List ℕ → Type 0} {next : OwnPart → OwnPart → V → PlainAct → ℕ → V}
      {allows : Plain → Plain → ℕ → V → V → Type 0} {a : Act} {old new : SeatState V} {o : Outcome}
      → (s : Steps fits d next allows a old new o)
      → fact (shows d.shape s.told.happened.before) → AtStep d fact old new
  at_step s holds = some_step d (λ p q. fact p) s holds

  pub from_earlier : (a b c : SeatState V) → b.view.core.seat ≡ a.view.core.seat
      → GoesOn a.view.core b.view.core → AtStep d fact b c → AtStep d fact a c
  from_earlier a b c seat goes s = some_earlier d (λ p q. fact p) a b c seat goes s

  pub to_later : (a b c : SeatState V) → AtStep d fact a b → GoesOn b.view.core c.view.core
      → AtStep d fact a c
  to_later a b c s goes = some_later d (λ p q. fact p) a b c s goes

pub also : {P V : Type 0} (d : DomainState P) (fact more : Plain → Type 0) (a b : SeatState V)
    → ((p : Plain) → fact p → more p) → AtStep d fact a b → AtStep d more a b
also d fact more a b follows s =
    also_some d (λ p q. fact p) (λ p q. more p) a b (λ p q. follows p) s

-- WHAT IS LEFT. What a seat holds is told by its lists and what it has beside
pub holds_by : (x : SlotId) (v w : CoreView) → aside v ≡ aside w
    → times x v.owned + times x v.weaks ≤ times x w.owned + times x w.weaks
    → Holds v x → Holds w x
holds_by x v w same is held =
    let e = ap (λ (u : CoreView). held_times x u) same in
    let none = times_none x in omega arith

module _ {V : Type 0} where
  pub seat_same : (a b : SeatState V) → aside b.view.core ≡ aside a.view.core
      → b.view.core.seat ≡ a.view.core.seat
  seat_same a b same = ap (λ (u : CoreView). u.seat) same

  pub leaves_none : (a : SeatState V) → Leaves a.view.core.owned a.view.core.weaks a a
  leaves_none a = record {
    owns = λ x. refl;
    weakly = λ x. refl;
    same = refl;
    goes = goes_none a.view.core a.view.core refl;
    knows = λ x was is. refl;
  }

  -- one call after another, between which the seat holds all that it holds before and after both
  pub leaves_then : {os ws xs ys : List SlotId} (a b c : SeatState V) → Leaves os ws a b
      → Leaves xs ys b c
      → ((x : SlotId) → Holds a.view.core x → Holds c.view.core x → Holds b.view.core x)
      → Leaves xs ys a c
  leaves_then a b c first second mid = record {
    owns = second.owns;
    weakly = second.weakly;
    same = second.same ∙ first.same;
    goes = goes_then a.view.core b.view.core c.view.core first.goes second.goes;
    knows = λ x was is.
        let at = mid x was is in second.knows x at is ∙ first.knows x was at;
  }

  -- the same references by other lists
  pub leaves_as : {os ws : List SlotId} (xs ys : List SlotId) (a b : SeatState V)
      → Leaves os ws a b → ((x : SlotId) → times x os ≡ times x xs)
      → ((x : SlotId) → times x ws ≡ times x ys) → Leaves xs ys a b
  leaves_as xs ys a b left o w = record {
    owns = λ x. left.owns x ∙ o x;
    weakly = λ x. left.weakly x ∙ w x;
    same = left.same;
    goes = left.goes;
    knows = left.knows;
  }

  -- the seat has come to have v, but for its trail
  pub leaves_core : (a b : SeatState V) (v : CoreView) (ms : List Move)
      → b.view.core ≡ record v { trail = a.view.core.trail ++ ms }
      → aside v ≡ aside a.view.core → KnowsStill a.view.core a b
      → Leaves v.owned v.weaks a b
  leaves_core a b v ms core same knows = record {
    owns = λ x. ap (λ (u : CoreView). times x u.owned) core;
    weakly = λ x. ap (λ (u : CoreView). times x u.weaks) core;
    same = ap aside core ∙ same;
    goes = (ms, ap (λ (u : CoreView). u.trail) core);
    knows = λ x was is. knows x (holds_has a.view.core x was);
  }

  -- the seat has come to have v, but for its trail, and knows what it knew of what v holds
  pub leaves_less : (a b : SeatState V) (v : CoreView) (ms : List Move)
      → b.view.core ≡ record v { trail = a.view.core.trail ++ ms }
      → aside v ≡ aside a.view.core
      → ((x : SlotId) → Holds v x → object_in b.view x ≡ object_in a.view x)
      → Leaves v.owned v.weaks a b
  leaves_less a b v ms core same knows = record {
    owns = λ x. ap (λ (u : CoreView). times x u.owned) core;
    weakly = λ x. ap (λ (u : CoreView). times x u.weaks) core;
    same = ap aside core ∙ same;
    goes = (ms, ap (λ (u : CoreView). u.trail) core);
    knows = λ x was is. knows x (subst (λ (u : CoreView). Holds u x) core is);
  }
