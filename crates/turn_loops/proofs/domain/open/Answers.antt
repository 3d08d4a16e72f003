use Rattle.std.proofs.Common.{ap, subst, sym}
use Rattle.slot_store.specs.core_events.Runs.{IsShape}
use Rattle.slot_store.proofs.Below.control_word_Beginning.{all_at_rest}
use Rattle.turn_loops.specs.Free.{IsFree}
use Rattle.turn_loops.proofs.Placings.{all_of_threads, opened_are, opened_enough, root_free, workers_free}
use Rattle.turn_loops.proofs.domain.open.Goals as goal

pub take_placed-requires-clause-enough : goal.take_placed-requires-clause-enough
take_placed-requires-clause-enough c =
    let opened = c.in_ok-domain.ensures {u = tt} in
    opened_enough (λ n. tt) c.in_ok-domain.domain c.args.threads c.in_ok-domain.seats.items
    opened.seats (ap (λ x. x.shape.seats) opened.domain)

pub returns-clause-root : goal.returns-clause-root
returns-clause-root c =
    let opened = c.in_ok-domain.ensures {u = tt} in
    let d = c.in_ok-domain.domain in
    root_free (λ n. tt) d c.args.threads c.in_ok-domain.seats.items opened.seats
    (ap (λ x. x.shape.seats) opened.domain) (IsFree d)
    (all_at_rest (λ n. tt) d (subst IsShape (sym (ap (λ x. x.shape) opened.domain)) opened.ranges.0))
    c.in_ok-root.root (c.in_ok-root.ensures {u = tt}).root

pub returns-clause-workers : goal.returns-clause-workers
returns-clause-workers c =
    let opened = c.in_ok-domain.ensures {u = tt} in
    let d = c.in_ok-domain.domain in
    workers_free (λ n. tt) d c.args.threads c.in_ok-domain.seats.items opened.seats
    (ap (λ x. x.shape.seats) opened.domain) (IsFree d)
    (all_at_rest (λ n. tt) d (subst IsShape (sym (ap (λ x. x.shape) opened.domain)) opened.ranges.0))
    c.args.placing c.in_ok-root.workers.items (c.in_ok-root.ensures {u = tt}).placed

pub returns-clause-placed : goal.returns-clause-placed
returns-clause-placed c =
    let opened = c.in_ok-domain.ensures {u = tt} in
    let d = c.in_ok-domain.domain in
    all_of_threads c.args.placing c.args.threads c.in_ok-domain.seats.items
    c.in_ok-root.workers.items
    (opened_are (λ n. tt) d c.args.threads c.in_ok-domain.seats.items opened.seats
    (ap (λ x. x.shape.seats) opened.domain))
    (c.in_ok-root.ensures {u = tt}).placed
