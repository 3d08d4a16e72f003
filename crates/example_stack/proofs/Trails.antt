-- The trail of a seat goes on, by a step, by several, and through an exchange.
use Rattle.std.proofs.Common.{◌≡◌, ⊎_elim, ℕ, List, [], ◌∷◌, ◌++◌, ap, sym, ◌∙◌, append_assoc, arith}
use Rattle.std.proofs.lemmas.List.{append-nil}
use Rattle.std.specs.Prelude.{Option}
use Rattle.cdrc.specs.plain_state.declared.act.EventPlace.{EventPlace}
use Rattle.cdrc.specs.plain_state.declared.act.PlainAct.{PlainAct}
use Rattle.cdrc.specs.plain_state.declared.slot.SlotId.{SlotId}
use Rattle.cdrc.specs.plain_state.State.{Plain}
use Rattle.cdrc.specs.plain_protocol.Owns.{OwnPart}
use Rattle.cdrc.specs.core_events.declared.act.Act.{Act}
use Rattle.cdrc.specs.core_events.declared.outcome.Outcome.{Outcome}
use Rattle.cdrc.specs.core_events.declared.shape.Shape.{Shape}
use Rattle.cdrc.specs.core_events.declared.view.CoreView.{CoreView}
use Rattle.cdrc.specs.core_events.declared.view.Move.{Move}
use Rattle.cdrc.specs.core_events.Steps.{answer, changed}
use Rattle.cdrc.specs.acquire_retire.Calls.{IsSameView, Steps, same_view}
use Rattle.cdrc.specs.acquire_retire.Collecting.{WalksBy, move}
use Rattle.cdrc.specs.acquire_retire.Domains.{DomainState}
use Rattle.cdrc.specs.acquire_retire.Seats.{SeatState}
use Rattle.cdrc.specs.retiring_stores.Exchanging.{Exchanges}
use Rattle.cdrc.specs.retiring_stores.Scanning.{ScansWhereDue}
use Rattle.example_stack.specs.Views.{View}
use Rattle.example_stack.specs.Leaving.{TrailGoesOn}

pub trail_same : (a b : SeatState View) → b ≡ a → TrailGoesOn a b
trail_same a b is =
    ([], ap (λ (z : SeatState View). z.view.core.trail) is ∙ sym (append-nil a.view.core.trail))

pub trail_then : (a b c : SeatState View) → TrailGoesOn a b → TrailGoesOn b c → TrailGoesOn a c
trail_then a b c first more = (
  first.0 ++ more.0,
  more.1 ∙ ap (λ (t : List Move). t ++ more.0) first.1
      ∙ append_assoc a.view.core.trail first.0 more.0,
)

-- nothing but the noting changes a trail
changed_trail : (z : Shape) (a : Act) (w : ℕ) (v : CoreView) → (changed z a w v).trail ≡ v.trail
changed_trail z a w v = grind arith

module _ {P : Type 0} (fits : List ℕ → Type 0) (d : DomainState P)
    (next : OwnPart → OwnPart → View → PlainAct → ℕ → View)
    (allows : Plain → Plain → ℕ → View → View → Type 0) where
  step_trail : (a : Act) (o : Outcome) (old new : SeatState View)
      → Steps fits d next allows a old new o → TrailGoesOn old new
  step_trail a o old new step =
      let m = move a (answer d.shape a step.word old.view.core) in (
        m ∷ [],
        ap (λ (v : CoreView). v.trail) step.told.core
            ∙ ap (λ (t : List Move). t ++ m ∷ []) (changed_trail d.shape a step.word old.view.core),
      )

  walk_trail : (ms : List Move) (old new : SeatState View) → WalksBy fits d next allows ms old new
      → TrailGoesOn old new
  walk_trail [] old new walks = trail_same old new walks
  walk_trail (m ∷ ms) old new walks =
      trail_then old walks.0 new (step_trail m.act m.outcome old walks.0 walks.1)
      (walk_trail ms walks.0 new walks.2)

scan_trail : {P : Type 0} (fits : List ℕ → Type 0) (d : DomainState P) (old new : SeatState View)
    → ScansWhereDue fits d old new → TrailGoesOn old new
scan_trail fits d old new scans = ⊎_elim
    (λ due. walk_trail fits d same_view IsSameView _ old new due.1.collects.goes.walks)
    (λ below. trail_same old new below.1)
    scans

pub exchange_trail : {P : Type 0} {fits : List ℕ → Type 0} {d : DomainState P}
    {next : OwnPart → OwnPart → View → PlainAct → ℕ → View}
    {allows : Plain → Plain → ℕ → View → View → Type 0} (place : EventPlace) (m : Move)
    (given held : Option SlotId) (old new : SeatState View)
    → Exchanges fits d next allows place m given held old new → TrailGoesOn old new
exchange_trail {fits = fits} {d = d} place m given held old new puts =
    trail_then old puts.mid new (m ∷ [], ap (λ (v : CoreView). v.trail) puts.puts.core)
    (scan_trail fits d puts.mid new puts.scans)
