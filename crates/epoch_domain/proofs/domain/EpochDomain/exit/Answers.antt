use Rattle.std.proofs.Common.{refl, arith}
use Rattle.epoch_rule.specs.epoch_core.declared.act.EpochAct.TheVariants as act
use Rattle.epoch_domain.proofs.Calls.{call_tells}
use Rattle.epoch_domain.proofs.domain.EpochDomain.exit.Goals as goal

pub returns : goal.returns
returns g c =
    call_tells c.args.self.now _ _ (act.Exit) c.seat.inside.seat c.store_as.new.seat c.store_as.ensures.0 c.store_as.ensures.1 _ _
    c.args.seat.now c.seat.view_is _ refl (omega arith)
