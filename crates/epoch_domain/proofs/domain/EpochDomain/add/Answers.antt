use Rattle.std.proofs.Common.{refl, arith}
use Rattle.epoch_rule.specs.epoch_core.declared.act.EpochAct.TheVariants as act
use Rattle.epoch_domain.proofs.Calls.{call_tells}
use Rattle.epoch_domain.proofs.domain.EpochDomain.add.Goals as goal

pub returns : goal.returns
returns g c =
    call_tells c.args.self.now _ _ (act.Add c.args.slot) c.seat.inside.seat c.fetch_add_as.new.seat c.fetch_add_as.result c.fetch_add_as.ensures _ _
    c.args.seat.now c.seat.view_is _ refl (omega arith)
