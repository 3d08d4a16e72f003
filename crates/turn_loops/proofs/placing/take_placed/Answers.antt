use Rattle.turn_loops.proofs.Placings.{taken_one}
use Rattle.turn_loops.proofs.placing.take_placed.Goals as goal

pub loop-taken-preserved : goal.loop-taken-preserved
loop-taken-preserved g c =
    let one = taken_one c.args.placing c.args.threads c.args.seats.items c.loop-taken.taken
    c.loop-taken.workers.items c.loop-taken.seats.items c.loop-taken.invariant
    c.seat_of-number.result c.remove.result c.loop-taken-test.true c.seat_of-number.ensures
    c.remove.ensures.value in
    rw ((c.in_ok-push.ensures {u = tt}).items, c.remove.ensures.items) one
