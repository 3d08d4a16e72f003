-- Which slots the seats have claimed, how many makes they were given, and what a trail shows.
use Rattle.std.specs.Prelude.{ℕ, ◌≡◌, ◌⊎◌, ◌+◌, ◌/◌, List, [], ◌∷◌, ◌++◌, sum, sum_by}
use Rattle.core_promises.specs.plain_state.declared.slot.SlotId.{SlotId}
use Rattle.core_promises.specs.plain_state.Lists.{times}
use Rattle.core_promises.specs.core_events.declared.act.Act.{Act}
use Rattle.core_promises.specs.core_events.declared.act.Act.TheVariants as act
use Rattle.core_promises.specs.core_events.declared.outcome.Outcome.{Outcome}
use Rattle.core_promises.specs.core_events.declared.outcome.Outcome.TheVariants as outcome
use Rattle.core_promises.specs.core_events.declared.shape.Quota.{Quota}
use Rattle.core_promises.specs.core_events.declared.view.CoreView.{CoreView}
use Rattle.core_promises.specs.core_events.declared.view.Move.{Move}
use Rattle.core_promises.specs.core_events.Counts.{total}
use Rattle.core_promises.specs.core_events.Runs.{Core}
use Rattle.core_promises.specs.core_events.Shows.{filled}
use Rattle.core_promises.specs.core_events.Views.{Terms, alone}
use Rattle.core_promises.specs.core_events.Words.{bit_in}

-- the slots that a seat has claimed, an entry for each time: those that it made live, and the one
-- that it is making
abbrev pub claimed : CoreView → List SlotId
claimed v = v.made ++ alone (filled v.phase)

-- how often the seats together have claimed s
abbrev pub claims : Core → SlotId → ℕ
claims c s = total (λ v. times s (claimed v)) c.views

-- how many makes they have used
abbrev pub makes_used : Core → ℕ
makes_used c = total (λ v. v.makes) c.views

-- how many they were given: all quotas, and what all tickets grant
abbrev pub makes_given : Terms → ℕ
makes_given ts = sum_by (λ (q : Quota). q.makes) ts.quotas + sum ts.grants

-- a claim that found the bit of s clear in its word, be it a claim of s or of another slot with its
-- bit in that word
abbrev pub ShownBy : SlotId → Act → Outcome → Type 0
ShownBy s (act.Claim x) (outcome.Taken w) = (x.0 / 64 ≡ s.0 / 64) × (bit_in s w ≡ 0)
ShownBy s a o = ⊥

-- one of these moves is such a claim
abbrev pub ShowsTaken : SlotId → List Move → Type 0
ShowsTaken s [] = ⊥
ShowsTaken s (m ∷ ms) = ShownBy s m.act m.outcome ⊎ ShowsTaken s ms
