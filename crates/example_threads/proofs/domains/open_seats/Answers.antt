use Rattle.std.proofs.Common.{ap, subst, sym}
use Rattle.std.specs.Prelude.{◌≡◌, All, slice_index_or}
use Rattle.cdrc.specs.core_events.Runs.{IsShape}
use Rattle.example_threads.specs.Free.{IsFree}
use Rattle.example_threads.proofs.Opened.{all_free, first_is_first}
use Rattle.example_threads.proofs.domains.open_seats.Goals as goal

pub returns-clause-free : goal.returns-clause-free
returns-clause-free g c =
    let known = c.in_ok-opened.ensures in
    let d = c.in_ok-opened.opened.0 in
    subst (All (IsFree d)) (sym known.seats)
    (all_free (g.P.Protocol.first c.args.protocol) d
    (subst IsShape (sym (ap (λ x. x.shape) known.domain)) known.ranges.0))

pub returns-clause-first : goal.returns-clause-first
returns-clause-first g c = λ other.
    let known = c.in_ok-opened.ensures in
    let d = c.in_ok-opened.opened.0 in
    subst (λ xs. (slice_index_or xs 0 other).view.core.seat ≡ 0) (sym known.seats)
    (first_is_first (g.P.Protocol.first c.args.protocol) d
    (subst IsShape (sym (ap (λ x. x.shape) known.domain)) known.ranges.0) other)
