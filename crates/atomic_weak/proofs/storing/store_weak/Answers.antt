use Rattle.std.specs.Prelude.{Option}
use Rattle.protected_loads.specs.plain_state.declared.act.EventPlace.{EventPlace}
use Rattle.protected_loads.specs.plain_state.declared.slot.SlotId.{SlotId}
use Rattle.protected_loads.specs.core_events.declared.act.Act.TheVariants as act
use Rattle.protected_loads.specs.acquire_retire.Calls.{IsReady}
use Rattle.retiring_stores.specs.Exchanging.{Swaps}
use Rattle.retiring_stores.proofs.Opened.{stores}
use Rattle.atomic_weak.specs.Places.{named, weak_place}
use Rattle.atomic_weak.proofs.Named.{by_names, from_names}
use Rattle.atomic_weak.proofs.storing.store_weak.Goals as goal

pub exchange-requires-clause-deed : goal.exchange-requires-clause-deed
exchange-requires-clause-deed g c =
    from_names c.args.place c.event_place.result c.event_place.ensures (named c.args.new)
    c.slot_of.result c.slot_of.ensures
    (λ (p : EventPlace) (s : Option SlotId).
    IsReady (g.D.Deed.ready c.args.deed c.args.domain.now.protocol) c.args.domain.now.shape
    (act.Swap p s) c.args.seat.now.view)
    c.requires.deed

pub returns-clause-stored : goal.returns-clause-stored
returns-clause-stored g c =
    stores c.args.domain.now (weak_place c.args.place) (named c.args.new) c.exchange.result
    c.args.seat.now c.exchange.new.seat c.requires.open
    (by_names c.args.place c.event_place.result c.event_place.ensures (named c.args.new)
    c.slot_of.result c.slot_of.ensures
    (λ (p : EventPlace) (s : Option SlotId).
    Swaps g.P.Kind.PayloadKind.fits c.args.domain.now
    (g.D.Deed.next c.args.deed c.args.domain.now.protocol)
    (g.D.Deed.allows c.args.deed c.args.domain.now.protocol) p s c.exchange.result
    c.args.seat.now c.exchange.new.seat)
    c.exchange.ensures.exchanged)
