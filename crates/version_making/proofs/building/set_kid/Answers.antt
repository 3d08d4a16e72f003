use Rattle.std.proofs.Common.{subst}
use Rattle.std.specs.Prelude.{Some}
use Rattle.map_law.specs.plain_state.declared.act.EventPlace.TheVariants.{Field}
use Rattle.map_law.specs.plain_state.declared.slot.SlotId.{SlotId}
use Rattle.map_law.specs.Nodes.{IsNode}
use Rattle.slot_store.specs.retiring_stores.Exchanging.{Stores}
use Rattle.version_making.specs.Deeds.{KidTells, kid_next}
use Rattle.std.specs.Prelude.{nat_lt}
use Rattle.map_law.specs.plain_state.Lists.{times}
use Rattle.version_making.proofs.Set.{keeps_set, kid_ready, making}
use Rattle.version_making.proofs.building.set_kid.Goals as goal

pub store-requires-clause-deed : goal.store-requires-clause-deed
store-requires-clause-deed c w =
    rw c.slot.ensures
    (kid_ready c.args.node c.args.kid.slot c.args.side c.args.seat.now
    (nat_lt 0 (times c.args.node c.args.seat.now.view.core.ripe)) c.requires.side c.requires.makes
    c.requires.owned c.requires.solid c.requires.ready.here)

stored : (c : goal.After-store)
    → Stores IsNode c.args.domain.now (kid_next c.args.side c.args.kid.slot) KidTells
    (Field c.args.node c.args.side) (Some c.args.kid.slot) c.args.seat.now c.store.new.seat
stored c =
    subst (λ (x : SlotId). Stores IsNode c.args.domain.now (kid_next c.args.side x) KidTells
    (Field c.args.node c.args.side) (Some c.args.kid.slot) c.args.seat.now c.store.new.seat)
    c.slot.ensures c.store.ensures.stored

pub returns-clause-making : goal.returns-clause-making
returns-clause-making c =
    making c.args.domain.now c.args.node c.args.kid.slot c.args.side c.args.seat.now
    c.store.new.seat (stored c) c.store.ensures.objects c.requires.owned c.requires.apart

pub returns-clause-keeps : goal.returns-clause-keeps
returns-clause-keeps c =
    keeps_set c.args.domain.now c.args.node c.args.kid.slot c.args.side c.args.seat.now
    c.store.new.seat (stored c) c.store.ensures.objects c.requires.owned
