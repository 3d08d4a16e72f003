use Rattle.std.proofs.Common.{rules, arith}
use Rattle.epoch_rule.specs.epoch_core.declared.act.EpochAct.TheVariants as act
use Rattle.epoch_domain.proofs.Calls.{call_tells}
use Rattle.epoch_domain.proofs.domain.EpochDomain.advance.Goals as goal

pub returns-then-found-sweep : goal.returns-then-found-sweep
returns-then-found-sweep g c =
    call_tells c.args.self.now _ _ (act.Advance) c.seat.inside.seat c.compare_exchange_as-found.new.seat c.compare_exchange_as-found.result c.compare_exchange_as-found.ensures _ _
    c.args.seat.now c.seat.view_is _ (search rules) (omega arith)

pub returns : goal.returns
returns g c =
    call_tells c.args.self.now _ _ (act.Advance) c.seat.inside.seat c.compare_exchange_as-found.new.seat c.compare_exchange_as-found.result c.compare_exchange_as-found.ensures _ _
    c.args.seat.now c.seat.view_is _ (search rules) (omega arith)
