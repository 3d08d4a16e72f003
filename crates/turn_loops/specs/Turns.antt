-- How many turns a seat has made, by what they leave of it.
use Rattle.std.specs.Prelude.{ℕ, ◌≡◌, ◌≤◌, ◌+◌, ◌*◌, length}
use Rattle.slot_store.specs.core_events.declared.view.CoreView.{CoreView}
use Rattle.turn_loops.specs.declared.operation.Operation.{Operation}
use Rattle.turn_loops.specs.declared.operation.Operation.TheVariants as operation

-- it has used so many adds: a load, a copy and an upgrade use one each
abbrev pub UsedAdds : ℕ → CoreView → CoreView → Type 0
UsedAdds n old new = new.adds ≡ old.adds + n

-- it has used so many makes: an object that is made uses one
abbrev pub MadeObjects : ℕ → CoreView → CoreView → Type 0
MadeObjects n old new = new.makes ≡ old.makes + n

-- it has made at least four steps for each of so many snapshots: a look, an announcement, a check, and a release
abbrev pub MadeSteps : ℕ → CoreView → CoreView → Type 0
MadeSteps n old new = length old.trail + 4 * n ≤ length new.trail

-- It has made so many turns of an operation. Copies and upgrades begin with a load of what they are of, and upgrades
-- with a weak reference to that.
abbrev pub HasMade : Operation → ℕ → CoreView → CoreView → Type 0
HasMade operation.Load n old new = UsedAdds n old new
HasMade operation.Snapshot n old new = MadeSteps n old new
HasMade operation.Store n old new = MadeObjects n old new
HasMade operation.Copy n old new = UsedAdds (n + 1) old new
HasMade operation.Upgrade n old new = UsedAdds (n + 2) old new
HasMade operation.MakeDrop n old new = MadeObjects n old new

-- how many turns a thread makes of an operation
abbrev pub turns_of : Operation → ℕ
turns_of operation.Load = 1000000
turns_of operation.Snapshot = 1000000
turns_of operation.Store = 250000
turns_of operation.Copy = 1000000
turns_of operation.Upgrade = 1000000
turns_of operation.MakeDrop = 250000
