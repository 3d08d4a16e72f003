use Rattle.std.proofs.Common.{subst, sym}
use Rattle.epoch_domain.specs.Calls.{IsReady}
use Rattle.epoch_domain.specs.plain_protocol.plain_state.declared.act.EventPlace.{EventPlace}
use Rattle.epoch_domain.specs.epoch_core.declared.act.EpochAct.TheVariants as act
use Rattle.epoch_refs.proofs.places.e_look.Goals as goal

pub look-requires-clause-deed : goal.look-requires-clause-deed
look-requires-clause-deed g c =
    subst (λ (q : EventPlace). IsReady (g.D.Deed.ready c.args.deed c.args.domain.now.protocol)
    (act.Look q) c.args.seat.now.view) (sym c.event_place.ensures) c.requires.deed
