-- Trails that go on, and the moves that stand in them.
use Rattle.std.proofs.Common.{◌≡◌, ℕ, List, [], ◌∷◌, ◌++◌, refl, ap, sym, ◌∙◌, subst, append_assoc}
use Rattle.std.specs.Prelude.{Result, Ok, Err, IfOk, OnErr}
use Rattle.std.proofs.lemmas.List.{append-nil}
use Rattle.protected_loads.specs.plain_state.declared.act.PlainAct.{PlainAct}
use Rattle.protected_loads.specs.plain_state.State.{Plain}
use Rattle.protected_loads.specs.plain_protocol.Owns.{OwnPart}
use Rattle.protected_loads.specs.core_events.declared.act.Act.{Act}
use Rattle.protected_loads.specs.core_events.declared.outcome.Outcome.{Outcome}
use Rattle.protected_loads.specs.core_events.declared.view.CoreView.{CoreView}
use Rattle.protected_loads.specs.core_events.declared.view.Move.{Move}
use Rattle.protected_loads.specs.core_events.Steps.{answer}
use Rattle.protected_loads.proofs.Below.core_law_Trails.{changed_trail}
use Rattle.protected_loads.specs.acquire_retire.Calls.{Steps}
use Rattle.protected_loads.specs.acquire_retire.Collecting.{move}
use Rattle.protected_loads.specs.acquire_retire.Domains.{DomainState}
use Rattle.protected_loads.specs.acquire_retire.Seats.{SeatState}
use Rattle.protected_loads.specs.control_word.Moves.{Becomes}
use Rattle.lone_heap.specs.Trails.{Shows, StandIn}

-- all of them stand among themselves
pub stand_all : (ms : List Move) → StandIn ms ms
stand_all [] = tt
stand_all (m ∷ ms) = ([], ms, refl, stand_all ms)

-- and behind others
pub stand_behind : (marks before ms : List Move) → StandIn marks ms → StandIn marks (before ++ ms)
stand_behind [] before ms is = tt
stand_behind (m ∷ marks) before ms is = (
  before ++ is.0,
  is.1,
  ap (λ (xs : List Move). before ++ xs) is.2 ∙ sym (append_assoc before is.0 (m ∷ is.1)),
  is.3,
)

-- what stands in the one, and then what stands in the other
pub stand_both : (marks more xs ys : List Move) → StandIn marks xs → StandIn more ys
    → StandIn (marks ++ more) (xs ++ ys)
stand_both [] more xs ys first second = stand_behind more xs ys second
stand_both (m ∷ marks) more xs ys first second = (
  first.0,
  first.1 ++ ys,
  ap (λ (zs : List Move). zs ++ ys) first.2 ∙ append_assoc first.0 (m ∷ first.1) ys,
  stand_both marks more first.1 ys first.3 second,
)

pub shows_none : (v w : CoreView) → w.trail ≡ v.trail → Shows [] v w
shows_none v w is = ([], is ∙ sym (append-nil v.trail), tt)

pub shows_all : (ms : List Move) (v w : CoreView) → w.trail ≡ v.trail ++ ms → Shows ms v w
shows_all ms v w is = (ms, is, stand_all ms)

-- the last moves of those by which the trail went on
pub shows_end : (before ms : List Move) (v w : CoreView) → w.trail ≡ v.trail ++ (before ++ ms)
    → Shows ms v w
shows_end before ms v w is = (before ++ ms, is, stand_behind ms before ms (stand_all ms))

pub shows_then : (marks more : List Move) (u v w : CoreView) → Shows marks u v → Shows more v w
    → Shows (marks ++ more) u w
shows_then marks more u v w first second = (
  first.0 ++ second.0,
  second.1
      ∙ ap (λ (t : List Move). t ++ second.0) first.1
      ∙ append_assoc u.trail first.0 second.0,
  stand_both marks more first.0 second.0 first.2 second.2,
)

-- the same where the second shows nothing more
pub shows_first : (marks : List Move) (u v w : CoreView) → Shows marks u v → Shows [] v w
    → Shows marks u w
shows_first marks u v w first second =
    subst (λ (ms : List Move). Shows ms u w) (append-nil marks)
    (shows_then marks [] u v w first second)

pub shows_less : (marks : List Move) (v w : CoreView) → Shows marks v w → Shows [] v w
shows_less marks v w (ms, is, stands) = (ms, is, tt)

module _ {P V : Type 0} {fits : List ℕ → Type 0} (d : DomainState P)
    {next : OwnPart → OwnPart → V → PlainAct → ℕ → V}
    {allows : Plain → Plain → ℕ → V → V → Type 0} (old new : SeatState V) where
  pub step_shows : (a : Act) (o : Outcome) → Steps fits d next allows a old new o
      → Shows (move a o ∷ []) old.view.core new.view.core
  step_shows a o step =
      shows_all (move a o ∷ []) old.view.core new.view.core
      (ap (λ (v : CoreView). v.trail) step.told.core
      ∙ ap (λ (t : List Move). t ++ move a (answer d.shape a step.word old.view.core) ∷ [])
      (changed_trail d.shape a step.word old.view.core).trail
      ∙ ap (λ (x : Outcome). old.view.core.trail ++ move a x ∷ []) (sym step.answers))

  pub step_goes : (a : Act) (o : Outcome) → Steps fits d next allows a old new o
      → Shows [] old.view.core new.view.core
  step_goes a o step =
      shows_less (move a o ∷ []) old.view.core new.view.core (step_shows a o step)

  pub becomes_shows : {ms : List Move} {v : CoreView} → Becomes fits d next allows ms v old new
      → Shows ms old.view.core new.view.core
  becomes_shows {ms = ms} by =
      shows_all ms old.view.core new.view.core (ap (λ (u : CoreView). u.trail) by.core)

  pub becomes_goes : {ms : List Move} {v : CoreView} → Becomes fits d next allows ms v old new
      → Shows [] old.view.core new.view.core
  becomes_goes {ms = ms} by = shows_less ms old.view.core new.view.core (becomes_shows by)

-- a seat that is as it was
pub same_goes : {V : Type 0} (old new : SeatState V) → new ≡ old
    → Shows [] old.view.core new.view.core
same_goes {V = V} old new same =
    shows_none old.view.core new.view.core (ap (λ (s : SeatState V). s.view.core.trail) same)

-- where a refusal changed nothing, the trail goes on whatever the answer
pub result_goes : {V A E : Type 0} (ok : A → Type 0) (r : Result A E) (old new : SeatState V)
    → IfOk r ok → OnErr r (new ≡ old)
    → ((x : A) → ok x → Shows [] old.view.core new.view.core)
    → Shows [] old.view.core new.view.core
result_goes ok (Ok x) old new is refused so = so x is
result_goes ok (Err e) old new is refused so = same_goes old new refused
