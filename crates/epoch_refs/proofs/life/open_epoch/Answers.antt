use Rattle.std.proofs.Common.{Ok, ap, refl, rules, subst, sym, ◌∙◌}
use Rattle.epoch_domain.specs.epoch_core.Runs.{IsShape}
use Rattle.epoch_refs.proofs.Opened.{all_free, first_is_first, many}
use Rattle.epoch_refs.proofs.Refusals.{no_room, opened}
use Rattle.epoch_refs.proofs.life.open_epoch.Goals as goal

pub returns-in_err-open_domain-clause-bad : goal.returns-in_err-open_domain-clause-bad
returns-in_err-open_domain-clause-bad g c =
    let good = c.first_bad.ensures.good (search rules) in
    no_room c.args.shape c.args.quotas.now good.0 good.1 c.from_residual.result (search rules)

pub returns-clause-bad : goal.returns-clause-bad
returns-clause-bad g c =
    let good = c.first_bad.ensures.good (search rules) in
    opened c.args.shape c.args.quotas.now good.0 good.1 (Ok c.in_ok-open_domain.field-0) _ refl

pub returns-clause-count : goal.returns-clause-count
returns-clause-count g c =
    let known = c.in_ok-open_domain.ensures in
    let good = c.first_bad.ensures.good (search rules) in
    many (g.P.Protocol.first c.args.protocol) c.in_ok-open_domain.field-0.0 c.in_ok-open_domain.field-0.1.items known.seats
    (subst IsShape (sym (ap (λ x. x.shape) known.domain)) good.0) ∙ ap (λ x. x.shape.seats) known.domain

pub returns-clause-free : goal.returns-clause-free
returns-clause-free g c =
    let known = c.in_ok-open_domain.ensures in
    let good = c.first_bad.ensures.good (search rules) in
    all_free (g.P.Protocol.first c.args.protocol) c.in_ok-open_domain.field-0.0 c.in_ok-open_domain.field-0.1.items known.seats
    (subst IsShape (sym (ap (λ x. x.shape) known.domain)) good.0)

pub returns-clause-first : goal.returns-clause-first
returns-clause-first g c =
    let known = c.in_ok-open_domain.ensures in
    let good = c.first_bad.ensures.good (search rules) in
    first_is_first (g.P.Protocol.first c.args.protocol) c.in_ok-open_domain.field-0.0 c.in_ok-open_domain.field-0.1.items known.seats
    (subst IsShape (sym (ap (λ x. x.shape) known.domain)) good.0)
