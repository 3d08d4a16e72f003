use Rattle.std.proofs.Common.{refl, arith, ap}
use Rattle.epoch_rule.specs.epoch_core.declared.act.EpochAct.TheVariants as act
use Rattle.epoch_domain.specs.Seats.{Stored}
use Rattle.epoch_domain.proofs.Calls.{call_tells}
use Rattle.epoch_domain.proofs.Ending.{dates_ordered}
use Rattle.epoch_domain.proofs.domain.EpochDomain.date.Goals as goal

pub push-requires-clause-order : goal.push-requires-clause-order
push-requires-clause-order g c =
    dates_ordered c.args.self.now _ c.self.view_is _ c.self.invariant _ _ c.seat.inside.seat
    c.load_as-date.new.seat c.load_as-date.result c.load_as-date.ensures _
    (ap (λ (s : Stored). s.pending) c.seat.invariant.stores)

pub returns : goal.returns
returns g c =
    let less = c.push.ensures.spare in
    call_tells c.args.self.now _ _ act.Date c.seat.inside.seat c.load_as-date.new.seat
    c.load_as-date.result c.load_as-date.ensures _ _ c.args.seat.now c.seat.view_is _ refl
    (omega (arith, less))
