-- Which slots the seats have claimed, how many makes they were given, and what a trail shows.
use Rattle.std.specs.Prelude.{ℕ, ◌≡◌, ◌⊎◌, List, [], ◌∷◌, ◌++◌, sum_by}
use Rattle.core_law.specs.core_events.declared.shape.Quota.{Quota}
use Rattle.core_law.specs.core_events.Views.{alone}
use Rattle.core_law.specs.plain_state.declared.slot.SlotId.{SlotId}
use Rattle.core_law.specs.plain_state.Lists.{times}
use Rattle.epoch_core.specs.declared.act.EpochAct.{EpochAct}
use Rattle.epoch_core.specs.declared.act.EpochAct.TheVariants as act
use Rattle.epoch_core.specs.declared.outcome.EpochOutcome.{EpochOutcome}
use Rattle.epoch_core.specs.declared.outcome.EpochOutcome.TheVariants as outcome
use Rattle.epoch_core.specs.declared.view.EpochMove.{EpochMove}
use Rattle.epoch_core.specs.declared.view.EpochView.{EpochView}
use Rattle.epoch_core.specs.Counts.{total}
use Rattle.epoch_core.specs.Runs.{Core}
use Rattle.epoch_core.specs.Shows.{filled}

-- the slots that a seat has claimed, an entry for each time: those that it made live, and the one that it is making
abbrev pub claimed : EpochView → List SlotId
claimed v = v.made ++ alone (filled v.phase)

-- how often the seats together have claimed s
abbrev pub claims : Core → SlotId → ℕ
claims c s = total (λ v. times s (claimed v)) c.views

-- how many makes they have used
abbrev pub makes_used : Core → ℕ
makes_used c = total (λ v. v.makes) c.views

-- how many they were given
abbrev pub makes_given : List Quota → ℕ
makes_given qs = sum_by (λ (q : Quota). q.makes) qs

-- a claim of s that found it taken
abbrev pub ShownBy : SlotId → EpochAct → EpochOutcome → Type 0
ShownBy s (act.Claim x) (outcome.Taken w) = x ≡ s
ShownBy s a o = ⊥

-- one of these events is such a claim
abbrev pub ShowsTaken : SlotId → List EpochMove → Type 0
ShowsTaken s [] = ⊥
ShowsTaken s (m ∷ ms) = ShownBy s m.act m.outcome ⊎ ShowsTaken s ms
