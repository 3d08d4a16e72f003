-- What a seat has done once it has made turns of an operation.
use Rattle.std.specs.Prelude.{ℕ, ◌≡◌, ◌+◌}
use Rattle.epoch_refs.specs.epoch_core.declared.view.EpochView.{EpochView}
use Rattle.region_turns.specs.declared.operation.RegionOperation.{RegionOperation}
use Rattle.region_turns.specs.declared.operation.RegionOperation.TheVariants as operation
use Rattle.region_turns.specs.Stores.{HasStoredEach}
use Rattle.region_turns.specs.Visits.{HasVisitedEach}

-- it has used so many makes: an object that is made uses one
abbrev pub MadeObjects : ℕ → EpochView → EpochView → Type 0
MadeObjects n old new = new.makes ≡ old.makes + n

-- It has made so many turns of an operation, for this thread, and nothing else but what flushes do after their first
-- event.
abbrev pub HasMade : RegionOperation → ℕ → ℕ → EpochView → EpochView → Type 0
HasMade operation.LookOnce thread n old new = HasVisitedEach thread 1 n old new
HasMade operation.LookTenTimes thread n old new = HasVisitedEach thread 10 n old new
HasMade operation.Store thread n old new =
    MadeObjects n old new × ((last : ℕ) × HasStoredEach thread n last old new)

-- how many turns a thread makes of an operation
abbrev pub turns_of : RegionOperation → ℕ
turns_of operation.LookOnce = 1000000
turns_of operation.LookTenTimes = 250000
turns_of operation.Store = 250000
