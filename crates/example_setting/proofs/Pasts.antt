-- The history of a step goes on from the past of its seat, over one step and over several.
use Rattle.std.proofs.Common.{ℕ, List, [], ◌∷◌, ◌++◌, ap, sym, ◌∙◌, append_assoc}
use Rattle.cdrc.specs.plain_state.declared.act.PlainAct.{PlainAct}
use Rattle.cdrc.specs.plain_state.State.{Plain}
use Rattle.cdrc.specs.plain_protocol.Owns.{OwnPart}
use Rattle.cdrc.specs.core_events.declared.act.Act.{Act}
use Rattle.cdrc.specs.core_events.declared.act.Event.{Event}
use Rattle.cdrc.specs.core_events.declared.outcome.Outcome.{Outcome}
use Rattle.cdrc.specs.core_events.declared.view.Move.{Move}
use Rattle.cdrc.specs.acquire_retire.Calls.{Steps}
use Rattle.cdrc.specs.acquire_retire.Collecting.{WalksBy}
use Rattle.cdrc.specs.acquire_retire.Domains.{DomainState}
use Rattle.cdrc.specs.acquire_retire.Seats.{SeatState}
use Rattle.cdrc.specs.domain_rule.Past.{GoesOnFrom}

pub past_then : (a b c : List Event) → GoesOnFrom a b → GoesOnFrom b c → GoesOnFrom a c
past_then a b c first more = (
  more.0 ++ first.0,
  more.1 ∙ ap (λ (es : List Event). more.0 ++ es) first.1 ∙ sym (append_assoc more.0 first.0 a),
)

module _ {P V : Type 0} (fits : List ℕ → Type 0) (d : DomainState P)
    (next : OwnPart → OwnPart → V → PlainAct → ℕ → V)
    (allows : Plain → Plain → ℕ → V → V → Type 0) where
  step_past : (a : Act) (o : Outcome) (old new : SeatState V) → Steps fits d next allows a old new o
      → GoesOnFrom old.view.past new.view.past
  step_past a o old new step =
      past_then old.view.past step.told.happened.events new.view.past step.told.since
      (record { seat = old.view.core.seat; act = a } ∷ [], step.told.past)

  pub walk_past : (ms : List Move) (old new : SeatState V) → WalksBy fits d next allows ms old new
      → GoesOnFrom old.view.past new.view.past
  walk_past [] old new walks = ([], ap (λ (s : SeatState V). s.view.past) walks)
  walk_past (m ∷ ms) old new walks =
      past_then old.view.past walks.0.view.past new.view.past
      (step_past m.act m.outcome old walks.0 walks.1) (walk_past ms walks.0 new walks.2)
