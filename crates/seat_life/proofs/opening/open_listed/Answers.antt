use Rattle.std.proofs.Common.{ap, subst, sym, arith, length, ◌∙◌, ◌+◌}
use Rattle.std.specs.Prelude.{slice_index_or}
use Rattle.domain_audit.specs.core_events.Runs.{IsShape}
use Rattle.domain_audit.specs.domain_rule.Views.{quota_at}
use Rattle.domain_audit.proofs.Below.core_law_Each.{length_each}
use Rattle.domain_audit.specs.acquire_retire.Openings.{begun_seat}
use Rattle.seat_life.specs.Opening.{IsFresh}
use Rattle.seat_life.proofs.Beginning.{fresh, quota_first, quota_other}
use Rattle.seat_life.proofs.opening.open_listed.Goals as goal

pub returns-in-Ok-clause-first : goal.returns-in-Ok-clause-first
returns-in-Ok-clause-first g c other =
    let known = c.in-Ok.ensures in
    let d = c.in-Ok.opened.0 in
    let first = g.P.Protocol.first c.args.protocol in
    let shape = known.ranges.0 in
    let same = ap (λ x. x.shape) known.domain in
    let seats = ap (λ x. x.shape.seats) known.domain in
    subst (λ xs. IsFresh first d c.args.root 0 (slice_index_or xs 0 other)) (sym known.seats)
    (fresh first d (subst IsShape (sym same) shape) c.args.root 0 other
    (let some = shape.0 in omega arith)
    (ap (λ x. quota_at x.terms.quotas 0) known.domain
    ∙ quota_first c.args.shape.seats c.args.root c.args.each (let some = shape.0 in omega arith)))

pub returns-in-Ok-clause-others : goal.returns-in-Ok-clause-others
returns-in-Ok-clause-others g c k other low =
    let known = c.in-Ok.ensures in
    let d = c.in-Ok.opened.0 in
    let first = g.P.Protocol.first c.args.protocol in
    let shape = known.ranges.0 in
    let same = ap (λ x. x.shape) known.domain in
    let seats = ap (λ x. x.shape.seats) known.domain in
    subst (λ xs. IsFresh first d c.args.each (k + 1) (slice_index_or xs (k + 1) other))
    (sym known.seats)
    (fresh first d (subst IsShape (sym same) shape) c.args.each (k + 1) other (omega arith)
    (ap (λ x. quota_at x.terms.quotas (k + 1)) known.domain
    ∙ quota_other c.args.shape.seats k c.args.root c.args.each c.if-shape-gt32.false low))

pub returns-in-Ok-clause-count : goal.returns-in-Ok-clause-count
returns-in-Ok-clause-count g c =
    let known = c.in-Ok.ensures in
    let d = c.in-Ok.opened.0 in
    ap length known.seats
    ∙ length_each 0 d.shape.seats (begun_seat (g.P.Protocol.first c.args.protocol) d)
    ∙ ap (λ x. x.shape.seats) known.domain
