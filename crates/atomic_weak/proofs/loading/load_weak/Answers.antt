use Rattle.std.proofs.Common.{ap, sym, ◌∙◌}
use Rattle.std.specs.Prelude.{Option, Some, None}
use Rattle.protected_loads.specs.plain_state.declared.act.EventPlace.{EventPlace}
use Rattle.protected_loads.specs.plain_state.declared.slot.Kind.{Kind}
use Rattle.protected_loads.specs.plain_state.declared.slot.SlotId.{SlotId}
use Rattle.protected_loads.specs.core_events.Steps.{CanGive}
use Rattle.protected_loads.specs.Retries.{LoadsAtLast}
use Rattle.atomic_weak.proofs.Named.{by_names, of_kind}
use Rattle.atomic_weak.proofs.loading.load_weak.Goals as goal

pub returns-in-Some-clause-loaded : goal.returns-in-Some-clause-loaded
returns-in-Some-clause-loaded g c =
    by_names c.args.place c.event_place.result c.event_place.ensures (Some c.of.result.slot)
    c.in_ok-slot.field-0 (c.in-Some.is ∙ ap Some (sym c.of.ensures))
    (λ (p : EventPlace) (s : Option SlotId).
    LoadsAtLast g.P.Kind.PayloadKind.fits c.args.domain.now p
    (g.D.Deed.next c.args.deed c.args.domain.now.protocol)
    (g.D.Deed.allows c.args.deed c.args.domain.now.protocol) s c.args.seat.now c.load.new.seat)
    (c.in_ok-slot.ensures {u = tt}).loaded

pub returns-in-Some-clause-owned : goal.returns-in-Some-clause-owned
returns-in-Some-clause-owned g c =
    of_kind c.args.place c.event_place.result c.event_place.ensures (Some c.of.result.slot)
    c.in_ok-slot.field-0 (c.in-Some.is ∙ ap Some (sym c.of.ensures))
    (λ (k : Kind) (s : Option SlotId). CanGive k s c.load.new.seat.view.core)
    (c.in_ok-slot.ensures {u = tt}).owned

pub returns-in-None-clause-loaded : goal.returns-in-None-clause-loaded
returns-in-None-clause-loaded g c =
    by_names c.args.place c.event_place.result c.event_place.ensures None c.in_ok-slot.field-0
    c.in-None.is
    (λ (p : EventPlace) (s : Option SlotId).
    LoadsAtLast g.P.Kind.PayloadKind.fits c.args.domain.now p
    (g.D.Deed.next c.args.deed c.args.domain.now.protocol)
    (g.D.Deed.allows c.args.deed c.args.domain.now.protocol) s c.args.seat.now c.load.new.seat)
    (c.in_ok-slot.ensures {u = tt}).loaded
