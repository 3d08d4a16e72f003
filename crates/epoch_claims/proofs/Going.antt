-- What an event adds to the slots that its seat has claimed and to its makes.
use Rattle.std.proofs.Common.{◌≡◌, ℕ, ◌+◌, List, [], ◌∷◌, ◌++◌, length, arith}
use Rattle.std.proofs.lemmas.List.{append-nil}
use Rattle.core_law.specs.plain_state.declared.slot.SlotId.{SlotId}
use Rattle.epoch_core.specs.declared.act.EpochAct.{EpochAct}
use Rattle.epoch_core.specs.declared.act.EpochAct.TheVariants as act
use Rattle.epoch_core.specs.declared.outcome.EpochOutcome.{EpochOutcome}
use Rattle.epoch_core.specs.declared.outcome.EpochOutcome.TheVariants as outcome
use Rattle.epoch_core.specs.declared.shape.EpochShape.{EpochShape}
use Rattle.epoch_core.specs.declared.view.EpochView.{EpochView}
use Rattle.epoch_core.specs.Steps.{May, answer, changed}
use Rattle.epoch_claims.specs.Claims.{claimed}

-- the slot that an act claims, by what it answers
abbrev pub won : EpochAct → EpochOutcome → List SlotId
won (act.Claim x) outcome.Claimed = x ∷ []
won a o = []

pub record Grows (z : EpochShape) (a : EpochAct) (w : ℕ) (v : EpochView) : Type 0 where
  pub quota : (changed z a w v).quota ≡ v.quota
  pub trail : (changed z a w v).trail ≡ v.trail
  pub makes : (changed z a w v).makes ≡ v.makes + length (won a (answer a w v))

pub grows : (z : EpochShape) (a : EpochAct) (w : ℕ) (v : EpochView) → Grows z a w v
grows z a w v = grind (arith, append-nil)

pub claims_go : (z : EpochShape) (a : EpochAct) (w : ℕ) (v : EpochView) → May z a v
    → claimed (changed z a w v) ≡ claimed v ++ won a (answer a w v)
claims_go z a w v may = grind (arith, append-nil)
