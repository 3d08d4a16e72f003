use Rattle.std.proofs.Common.{◌+◌, arith}
use Rattle.taken_audit.proofs.Places.{placed_most}
use Rattle.taken_audit.proofs.placing.place_entry.Goals as goal

pub overflow_cast-result : goal.overflow_cast-result
overflow_cast-result c =
    let placed = c.placed.ensures in
    let most = placed_most c.args.taken.now (c.from.result + 1) in
    let few = c.requires.few in
    let less = c.saturating_sub-place.ensures in
    omega (arith, placed, most, few, less)
