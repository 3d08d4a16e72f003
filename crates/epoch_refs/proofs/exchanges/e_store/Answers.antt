use Rattle.std.proofs.Common.{sym, subst}
use Rattle.std.specs.Prelude.{Option}
use Rattle.epoch_domain.specs.plain_protocol.plain_state.declared.act.EventPlace.{EventPlace}
use Rattle.epoch_domain.specs.plain_protocol.plain_state.declared.slot.SlotId.{SlotId}
use Rattle.epoch_domain.specs.epoch_core.declared.act.EpochAct.TheVariants as act
use Rattle.epoch_domain.specs.epoch_rule.declared.view.EpochSeatView.{EpochSeatView}
use Rattle.epoch_domain.specs.Calls.{IsReady}
use Rattle.epoch_refs.proofs.Exchanging.{renamed}
use Rattle.epoch_refs.proofs.exchanges.e_store.Goals as goal

pub swap-requires-clause-deed : goal.swap-requires-clause-deed
swap-requires-clause-deed g c =
    let T : EpochSeatView _ × EventPlace × Option SlotId → Type 0 = λ x.
    IsReady (g.D.Deed.ready c.args.deed c.args.domain.now.protocol) (act.Swap x.1 x.2) x.0 in
    subst T
    (λ i. (sym c.reserve.ensures.same.1 i, sym c.event_place.ensures i, sym c.slot_of-content.ensures i))
    c.requires.deed

pub returns-clause-stored : goal.returns-clause-stored
returns-clause-stored g c = (
  c.in-Found.held,
  record {
    ready = c.reserve.new.seat;
    reserved = c.reserve.ensures.same;
    between = c.swap.new.seat;
    exchange = renamed c.swap.ensures
        (λ i. act.Swap (c.event_place.ensures i) (c.slot_of-content.ensures i)) c.in-Found.is;
    dates = c.date_taken.ensures.dates;
  },
)
