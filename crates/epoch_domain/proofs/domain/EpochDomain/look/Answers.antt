use Rattle.epoch_rule.specs.epoch_core.declared.act.EpochAct.TheVariants as act
use Rattle.epoch_domain.proofs.Calls.{can_step}
use Rattle.epoch_domain.proofs.Contents.{found_small, look_on}
use Rattle.epoch_domain.proofs.domain.EpochDomain.look.Goals as goal

pub load_as-found-requires-clause-can : goal.load_as-found-requires-clause-can
load_as-found-requires-clause-can g c =
    can_step c.args.self.now _ _ (act.Look c.args.place) c.seat.inside.seat _ c.args.seat.now c.seat.view_is
    c.seat.invariant.seated c.requires.seat tt c.requires.may (λ e. absurd (cc (e)))
    c.requires.deed

pub found_in-requires : goal.found_in-requires
found_in-requires g c =
    found_small c.args.self.now _ c.self.view_is _ c.self.invariant _ _ (act.Look c.args.place) c.seat.inside.seat
    _ _ c.load_as-found.ensures c.args.place (look_on _ c.args.place)
