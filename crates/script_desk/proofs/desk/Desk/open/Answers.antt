use Rattle.script_desk.proofs.Closing.{kept_open}
use Rattle.script_desk.proofs.desk.Desk.open.Goals as goal

pub invariant_of-result : goal.invariant_of-result
invariant_of-result c =
    kept_open c.args.slots c.args.cells c.args.weak_cells c.in_ok-heap.heap c.new-2.result c.in_ok-makers.makers.items c.in_ok-heap.ensures c.new-2.ensures
    c.in_ok-makers.ensures.size
