use Rattle.epoch_rule.specs.epoch_core.declared.act.EpochAct.TheVariants as act
use Rattle.epoch_domain.proofs.Calls.{can_step}
use Rattle.epoch_domain.proofs.domain.EpochDomain.start.Goals as goal

pub store_as-requires-clause-can : goal.store_as-requires-clause-can
store_as-requires-clause-can g c =
    can_step c.args.self.now _ _ act.Start c.seat.inside.seat _ c.args.seat.now c.seat.view_is
    c.seat.invariant.seated c.requires.seat tt c.requires.may (λ _. c.requires.fits)
    c.requires.deed
