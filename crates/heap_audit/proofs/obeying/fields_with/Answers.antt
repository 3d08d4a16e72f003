use Rattle.std.proofs.Common.{arith}
use Rattle.heap_audit.specs.Heaps.{slot}
use Rattle.heap_audit.proofs.Lawfulness.{both_fields}
use Rattle.heap_audit.proofs.obeying.fields_with.Goals as goal

pub returns : goal.returns
returns c =
    let both = both_fields (slot c.args.index) c.args.slots.now in
    omega (arith, both, c.first_fields_with.ensures, c.second_fields_with.ensures)
