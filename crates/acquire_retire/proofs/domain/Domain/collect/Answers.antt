use Rattle.std.proofs.Common.{ap, ◌∙◌}
use Rattle.acquire_retire.specs.Domains.{DomainState}
use Rattle.acquire_retire.proofs.Collects.{is_of_after}
use Rattle.acquire_retire.proofs.Gathers.{collects_by}
use Rattle.acquire_retire.proofs.domain.Domain.collect.Goals as goal

pub pay_all-ended-requires-clause-seat : goal.pay_all-ended-requires-clause-seat
pay_all-ended-requires-clause-seat g c = is_of_after c.args.self.now _ c.args.seat.now
    c.scan_all-ejected.new.seat c.requires.seat c.scan_all-ejected.ensures.goes

pub returns : goal.returns
returns g c =
    let shape = c.self.invariant.same ∙ ap (λ (d : DomainState _). d.shape) c.self.view_is in
    rw shape
    (collects_by c.args.self.now c.args.seat.now c.scan_all-ejected.new.seat
    c.pay_all-ended.new.seat c.scan_all-ejected.result c.pay_all-ended.result
    c.scan_all-ejected.ensures c.pay_all-ended.ensures)
