use Rattle.epoch_alone.proofs.Clearing.{clears}
use Rattle.epoch_alone.proofs.laws.stores_clear_one_cell.Goals as goal

pub returns : goal.returns
returns g c d deed i old new = clears _ d _ _ i old new
