-- What an event adds to the slots that its seat has claimed, to its makes and to its tickets.
use Rattle.std.proofs.Common.{◌≡◌, ℕ, ◌+◌, List, [], ◌∷◌, ◌++◌, length, arith}
use Rattle.std.proofs.lemmas.List.{append-nil}
use Rattle.core_promises.specs.plain_state.declared.slot.SlotId.{SlotId}
use Rattle.core_promises.specs.core_events.declared.act.Act.{Act}
use Rattle.core_promises.specs.core_events.declared.act.Act.TheVariants as act
use Rattle.core_promises.specs.core_events.declared.outcome.Outcome.{Outcome}
use Rattle.core_promises.specs.core_events.declared.outcome.Outcome.TheVariants as outcome
use Rattle.core_promises.specs.core_events.declared.shape.Shape.{Shape}
use Rattle.core_promises.specs.core_events.declared.view.CoreView.{CoreView}
use Rattle.core_promises.specs.core_events.Steps.{May, answer, changed}
use Rattle.claim_law.specs.Claims.{claimed}

-- the slot that an act claims, by what it answers
abbrev pub won : Act → Outcome → List SlotId
won (act.Claim x) outcome.Claimed = x ∷ []
won a o = []

-- the ticket that an act draws, where it finds w
abbrev pub drawn : Act → ℕ → List ℕ
drawn act.Ticket w = w ∷ []
drawn a w = []

pub record Grows (z : Shape) (a : Act) (w : ℕ) (v : CoreView) : Type 0 where
  pub quota : (changed z a w v).quota ≡ v.quota
  pub tickets : (changed z a w v).tickets ≡ v.tickets ++ drawn a w
  pub makes : (changed z a w v).makes ≡ v.makes + length (won a (answer z a w v))

pub grows : (z : Shape) (a : Act) (w : ℕ) (v : CoreView) → Grows z a w v
grows z a w v = grind (arith, append-nil)

pub claims_go : (z : Shape) (a : Act) (w : ℕ) (v : CoreView) → May z a v
    → claimed (changed z a w v) ≡ claimed v ++ won a (answer z a w v)
claims_go z a w v may = grind (arith, append-nil)
