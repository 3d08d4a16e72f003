-- A list of events, one more at a time.
use Rattle.std.proofs.Common.{◌≡◌, ◌∙◌, ℕ, zero, suc, ◌+◌, ◌<◌, ◌≤◌, List, [], ◌∷◌, ◌++◌, length, get_or, take, refl, ap, sym, subst, add-one, arith}
use Rattle.std.proofs.lemmas.List.{get_or_default, take_all}
use Rattle.core_law.specs.core_events.declared.act.Event.{Event}
use Rattle.core_law.specs.core_events.declared.outcome.Outcome.{Outcome}
use Rattle.core_law.specs.core_events.declared.shape.Shape.{Shape}
use Rattle.core_law.specs.core_events.Runs.{AreEnabled, Core, Enabled, after, outcome_of, outcomes, run}
use Rattle.cdrc_core.specs.Replays.{IsFirstRefused}
use Rattle.cdrc_core.specs.State.{State}

abbrev state : Shape → Core → State
state z c = record { shape = z; core = c }

abbrev after_in : State → Event → State
after_in s e = record s { core = after s.shape s.core e.seat e.act }

run_next : (z : Shape) (c : Core) (es : List Event) (i : ℕ) (d : Event) → i < length es
    → run z c (take (suc i) es)
    ≡ after z (run z c (take i es)) (get_or es i d).seat (get_or es i d).act
run_next z c [] i d h = absurd (omega arith)
run_next z c (e ∷ es) zero d h = refl
run_next z c (e ∷ es) (suc i) d h = run_next z (after z c e.seat e.act) es i d (omega arith)

enabled_next : (z : Shape) (c : Core) (es : List Event) (i : ℕ) (d : Event) → i < length es
    → AreEnabled z c (take i es)
    → Enabled z (run z c (take i es)) (get_or es i d).seat (get_or es i d).act
    → AreEnabled z c (take (suc i) es)
enabled_next z c [] i d h before on = absurd (omega arith)
enabled_next z c (e ∷ es) zero d h before on = (on, tt)
enabled_next z c (e ∷ es) (suc i) d h before on =
    (before.0, enabled_next z (after z c e.seat e.act) es i d (omega arith) before.1 on)

outcomes_next : (z : Shape) (c : Core) (es : List Event) (i : ℕ) (d : Event) → i < length es
    → outcomes z c (take (suc i) es)
    ≡ outcomes z c (take i es) ++ outcome_of z (run z c (take i es)) (get_or es i d) ∷ []
outcomes_next z c [] i d h = absurd (omega arith)
outcomes_next z c (e ∷ es) zero d h = refl
outcomes_next z c (e ∷ es) (suc i) d h =
    ap (λ os. outcome_of z c e ∷ os)
    (outcomes_next z (after z c e.seat e.act) es i d (omega arith))

-- after the first i events from c on: each was enabled, the state is theirs, and so are the answers
pub record Replayed (z : Shape) (c : Core) (es : List Event) (i : ℕ) (s : State)
    (os : List Outcome) : Type 0 where
  pub on : AreEnabled z c (take i es)
  pub is : s ≡ record { shape = z; core = run z c (take i es) }
  pub told : os ≡ outcomes z c (take i es)

pub replayed_none : (z : Shape) (c : Core) (es : List Event) (s : State) (os : List Outcome)
    → s ≡ record { shape = z; core = c } → os ≡ [] → Replayed z c es 0 s os
replayed_none z c es s os is none = record { on = tt; is = is; told = none }

pub replayed_more : (z : Shape) (c : Core) (es : List Event) (i : ℕ) (d : Event) (s t : State)
    (os us : List Outcome) (o : Outcome) → i < length es → Replayed z c es i s os
    → Enabled s.shape s.core (get_or es i d).seat (get_or es i d).act
    → t ≡ record s { core = after s.shape s.core (get_or es i d).seat (get_or es i d).act }
    → o ≡ outcome_of s.shape s.core (get_or es i d) → us ≡ os ++ o ∷ []
    → Replayed z c es (i + 1) t us
replayed_more z c es i d s t os us o h before on is says all =
    let e = get_or es i d in
    let same = before.is in
    rw (add-one i) (record {
      on = enabled_next z c es i d h before.on
          (subst (λ (r : State). Enabled r.shape r.core e.seat e.act) same on);
      is = is
          ∙ (ap (λ (r : State). after_in r e) same
          ∙ ap (λ (k : Core). state z k) (sym (run_next z c es i d h)));
      told = all
          ∙ (ap (λ xs. xs ++ o ∷ []) before.told
          ∙ (ap (λ x. outcomes z c (take i es) ++ x ∷ [])
          (says ∙ ap (λ (r : State). outcome_of r.shape r.core e) same)
          ∙ sym (outcomes_next z c es i d h)));
    })

-- after all of them
pub replayed_all : (z : Shape) (c : Core) (es : List Event) (i : ℕ) (s : State) (os : List Outcome)
    → length es ≤ i → Replayed z c es i s os
    → AreEnabled z c es × (s ≡ record { shape = z; core = run z c es }) × (os ≡ outcomes z c es)
replayed_all z c es i s os h all =
    let whole : take i es ≡ es = take_all i es h in
    (rw whole at all.on, rw whole at all.is, rw whole at all.told)

-- an event that was refused as not enabled is the first such
pub replay_refused : (z : Shape) (c : Core) (es : List Event) (i : ℕ) (d : Event) (s : State)
    (os : List Outcome) → i < length es → Replayed z c es i s os
    → (Enabled s.shape s.core (get_or es i d).seat (get_or es i d).act → ⊥)
    → IsFirstRefused z c es i
replay_refused z c es i d s os h before off = (
  h,
  before.on,
  λ e on. let P : State → Event → Type 0 = λ r x. Enabled r.shape r.core x.seat x.act in
      off (subst (λ (x : Event). P s x) (get_or_default es i e d h)
      (subst (λ (r : State). P r (get_or es i e)) (sym before.is) on)),
)

-- one that was refused for memory was enabled
pub replay_on : (z : Shape) (c : Core) (es : List Event) (i : ℕ) (d : Event) (s : State)
    (os : List Outcome) → i < length es → Replayed z c es i s os
    → Enabled s.shape s.core (get_or es i d).seat (get_or es i d).act
    → AreEnabled z c (take (i + 1) es)
replay_on z c es i d s os h before on =
    let e = get_or es i d in
    rw (add-one i) (enabled_next z c es i d h before.on
    (subst (λ (r : State). Enabled r.shape r.core e.seat e.act) before.is on))
