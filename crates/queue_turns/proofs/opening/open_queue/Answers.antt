use Rattle.std.proofs.Common.{◌∙◌, ap, arith, subst, sym}
use Rattle.turn_loops.specs.core_events.Runs.{IsShape}
use Rattle.turn_loops.specs.acquire_retire.Seats.{SeatState}
use Rattle.linked_queue.specs.queue_law.declared.view.View.{View}
use Rattle.linked_queue.specs.queue_law.Views.{view_of}
use Rattle.turn_loops.proofs.Placings.{all_of_threads, opened_are, opened_enough, root_free, workers_free}
use Rattle.queue_turns.specs.Queueing.{IsFreeToQueue}
use Rattle.queue_turns.proofs.Opened.{all_free, root_lays}
use Rattle.queue_turns.proofs.opening.open_queue.Goals as goal

pub take_placed-requires-clause-enough : goal.take_placed-requires-clause-enough
take_placed-requires-clause-enough c =
    let opened = c.in_ok-domain.ensures {u = tt} in
    opened_enough (view_of c.linked-law.result.form) c.in_ok-domain.domain c.args.threads
    c.in_ok-domain.seats.items opened.seats (ap (λ x. x.shape.seats) opened.domain)

pub returns-clause-root : goal.returns-clause-root
returns-clause-root c =
    let opened = c.in_ok-domain.ensures {u = tt} in
    let d = c.in_ok-domain.domain in
    let form = c.linked-law.result.form in
    root_free (view_of form) d c.args.threads c.in_ok-domain.seats.items opened.seats
    (ap (λ x. x.shape.seats) opened.domain) (IsFreeToQueue d)
    (all_free form d (subst IsShape (sym (ap (λ x. x.shape) opened.domain)) opened.ranges.0))
    c.in_ok-root.root (c.in_ok-root.ensures {u = tt}).root

pub returns-clause-lays : goal.returns-clause-lays
returns-clause-lays c =
    let opened = c.in_ok-domain.ensures {u = tt} in
    let d = c.in_ok-domain.domain in
    let are = opened_are (view_of c.linked-law.result.form) d c.args.threads
    c.in_ok-domain.seats.items opened.seats (ap (λ x. x.shape.seats) opened.domain) in
    root_lays d c.in_ok-root.root (returns-clause-root c)
    (ap (λ (s : SeatState View). s.view.core.seat) (c.in_ok-root.ensures {u = tt}).root
    ∙ are.each 0 c.in_ok-root.root (omega arith))

pub returns-clause-workers : goal.returns-clause-workers
returns-clause-workers c =
    let opened = c.in_ok-domain.ensures {u = tt} in
    let d = c.in_ok-domain.domain in
    let form = c.linked-law.result.form in
    workers_free (view_of form) d c.args.threads c.in_ok-domain.seats.items opened.seats
    (ap (λ x. x.shape.seats) opened.domain) (IsFreeToQueue d)
    (all_free form d (subst IsShape (sym (ap (λ x. x.shape) opened.domain)) opened.ranges.0))
    c.args.placing c.in_ok-root.workers.items (c.in_ok-root.ensures {u = tt}).placed

pub returns-clause-placed : goal.returns-clause-placed
returns-clause-placed c =
    let opened = c.in_ok-domain.ensures {u = tt} in
    let d = c.in_ok-domain.domain in
    all_of_threads c.args.placing c.args.threads c.in_ok-domain.seats.items
    c.in_ok-root.workers.items
    (opened_are (view_of c.linked-law.result.form) d c.args.threads c.in_ok-domain.seats.items
    opened.seats (ap (λ x. x.shape.seats) opened.domain))
    (c.in_ok-root.ensures {u = tt}).placed
