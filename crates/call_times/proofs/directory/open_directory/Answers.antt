use Rattle.std.proofs.Common.{arith}
use Rattle.turn_loops.proofs.Placings.{all_of_threads, all_placed}
use Rattle.call_times.specs.Interning.{IsFreeToIntern}
use Rattle.call_times.proofs.directory.open_directory.Goals as goal

pub take_placed-requires-clause-enough : goal.take_placed-requires-clause-enough
take_placed-requires-clause-enough c = omega (arith, (c.in_ok-domain.ensures {u = tt}).seats.count)

pub returns-clause-workers : goal.returns-clause-workers
returns-clause-workers c =
    let opened = c.in_ok-domain.ensures {u = tt} in
    all_placed c.args.placing c.args.threads c.in_ok-domain.seats.items c.in_ok-root.workers.items
    (c.in_ok-root.ensures {u = tt}).placed (omega (arith, opened.seats.count))
    (IsFreeToIntern c.in_ok-domain.domain) opened.free

pub returns-clause-placed : goal.returns-clause-placed
returns-clause-placed c =
    all_of_threads c.args.placing c.args.threads c.in_ok-domain.seats.items
    c.in_ok-root.workers.items (c.in_ok-domain.ensures {u = tt}).seats
    (c.in_ok-root.ensures {u = tt}).placed
