use Rattle.std.specs.Prelude.{Option}
use Rattle.protected_loads.specs.plain_state.declared.act.EventPlace.{EventPlace}
use Rattle.protected_loads.specs.plain_state.declared.slot.Kind.{Kind}
use Rattle.protected_loads.specs.plain_state.declared.slot.SlotId.{SlotId}
use Rattle.protected_loads.specs.core_events.declared.act.Act.TheVariants as act
use Rattle.protected_loads.specs.core_events.Steps.{without_given}
use Rattle.retiring_stores.specs.acquire_retire.Calls.{IsReady}
use Rattle.retiring_stores.specs.control_word.Moves.{KnowsStill}
use Rattle.atomic_shared.specs.Places.{named}
use Rattle.atomic_shared.proofs.StoredNames.{from_names, of_kind}
use Rattle.atomic_shared.proofs.storing.try_replace.Goals as goal

pub compare_exchange-requires-clause-deed : goal.compare_exchange-requires-clause-deed
compare_exchange-requires-clause-deed g c =
    from_names c.args.place c.event_place.result c.event_place.ensures (named c.args.new)
    c.slot_of-slot.result c.slot_of-slot.ensures
    (λ (p : EventPlace) (s : Option SlotId).
    IsReady (g.D.Deed.ready c.args.deed c.args.domain.now.protocol) c.args.domain.now.shape
    (act.Cas p c.args.expected s) c.args.seat.now.view)
    c.requires.deed

pub returns-in-Ok-clause-objects : goal.returns-in-Ok-clause-objects
returns-in-Ok-clause-objects g c =
    of_kind c.args.place c.event_place.result c.event_place.ensures (named c.args.new)
    c.slot_of-slot.result c.slot_of-slot.ensures
    (λ (k : Kind) (s : Option SlotId).
    KnowsStill (without_given k s c.args.seat.now.view.core) c.args.seat.now
    c.compare_exchange.new.seat)
    c.in-Ok.ensures.objects
