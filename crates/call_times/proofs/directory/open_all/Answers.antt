use Rattle.std.proofs.Common.{ap, arith, subst, sym}
use Rattle.std.specs.Prelude.{All}
use Rattle.turn_loops.specs.core_events.Runs.{IsShape}
use Rattle.weak_intern.specs.directory_calls.Directories.{area_of}
use Rattle.weak_intern.specs.directory_law.Owned.{first_view}
use Rattle.turn_loops.proofs.Placings.{opened_are}
use Rattle.call_times.specs.Interning.{IsFreeToIntern}
use Rattle.call_times.proofs.Opened.{all_free}
use Rattle.call_times.proofs.directory.open_all.Goals as goal

pub returns-clause-seats : goal.returns-clause-seats
returns-clause-seats c =
    let opened = c.in_ok-open_domain.ensures {u = tt} in
    opened_are (first_view (area_of c.granted-law.result)) c.in_ok-open_domain.field-0.0
    c.args.threads c.in_ok-open_domain.field-0.1.items opened.seats
    (ap (λ x. x.shape.seats) opened.domain)

pub returns-clause-free : goal.returns-clause-free
returns-clause-free c =
    let opened = c.in_ok-open_domain.ensures {u = tt} in
    let d = c.in_ok-open_domain.field-0.0 in
    subst (All (IsFreeToIntern d)) (sym opened.seats)
    (all_free (first_view (area_of c.granted-law.result)) (λ n. omega arith) d
    (subst IsShape (sym (ap (λ x. x.shape) opened.domain)) opened.ranges.0))
