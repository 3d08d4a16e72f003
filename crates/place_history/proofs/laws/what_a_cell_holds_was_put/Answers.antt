use Rattle.place_history.proofs.Putting.{was_put}
use Rattle.place_history.proofs.laws.what_a_cell_holds_was_put.Goals as goal

pub returns : goal.returns
returns c = λ z ts es d cell s shape terms history holds.
    was_put z ts cell s shape terms es d history holds
