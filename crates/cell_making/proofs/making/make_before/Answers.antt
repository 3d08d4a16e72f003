use Rattle.std.proofs.Common.{arith}
use Rattle.cell_calls.specs.cell_law.directory_law.Bytes.{IsPiece}
use Rattle.epoch_refs.specs.epoch_core.core_events.Views.{without}
use Rattle.cell_making.proofs.Before.{before_if, has_two}
use Rattle.cell_making.proofs.Events.{drop_event}
use Rattle.cell_making.proofs.Fewer.{fewer_if, fewer_on}
use Rattle.cell_making.proofs.Given.{one_dropped}
use Rattle.cell_making.proofs.Kept.{drop_client, drop_keeps, drop_unclaimed}
use Rattle.cell_making.proofs.Notes.{only_by, refused_if, refused_on}
use Rattle.cell_making.proofs.Owned.{keeps_before}
use Rattle.cell_making.proofs.making.make_before.Goals as goal

pub link-requires-clause-two : goal.link-requires-clause-two
link-requires-clause-two c =
    has_two c.in-Ok.front.slot c.args.rest.slot c.args.payload.now c.args.seat.now
    c.make_slot.new.seat c.in-Ok.ensures.made c.in-Ok.ensures.keeps c.requires.owned
    c.requires.part c.requires.noted

pub returns-in-Ok-clause-made : goal.returns-in-Ok-clause-made
returns-in-Ok-clause-made c =
    before_if c.in-Ok.front c.args.rest.slot c.args.payload.now c.args.seat.now
    c.make_slot.new.seat c.link.new.seat c.in-Ok.ensures.made c.in-Ok.ensures.keeps
    c.requires.owned c.link.result c.link.ensures.links c.link.ensures.keeps

pub returns-in-Ok-clause-refused : goal.returns-in-Ok-clause-refused
returns-in-Ok-clause-refused c =
    refused_if c.args.domain.now c.link.result c.args.seat.now c.make_slot.new.seat
    c.link.new.seat c.in-Ok.ensures.keeps.goes
    (only_by _ c.args.seat.now.view.client c.make_slot.new.seat.view.client
    c.in-Ok.ensures.made.noted)
    c.link.ensures.refused

pub returns-in-Ok-clause-keeps : goal.returns-in-Ok-clause-keeps
returns-in-Ok-clause-keeps c =
    keeps_before c.in-Ok.front.slot c.args.rest.slot c.args.seat.now c.make_slot.new.seat
    c.in-Ok.ensures.keeps c.requires.owned c.link.result c.link.new.seat c.link.ensures.keeps

pub returns-in-Err-clause-refused : goal.returns-in-Err-clause-refused
returns-in-Err-clause-refused c =
    refused_on c.args.domain.now c.in-Err.error
    (without c.args.rest.slot c.make_slot.new.seat.view.core.owned)
    c.args.seat.now c.make_slot.new.seat c.e_drop.new.seat
    (drop_keeps IsPiece c.args.domain.now c.make_slot.new.seat c.e_drop.new.seat
    c.args.rest.slot c.e_drop.ensures.dropped.0 c.e_drop.ensures.dropped.1)
    (drop_unclaimed IsPiece c.args.domain.now c.make_slot.new.seat c.e_drop.new.seat
    c.args.rest.slot c.e_drop.ensures.dropped.0 c.e_drop.ensures.dropped.1)
    (drop_client IsPiece c.args.domain.now c.make_slot.new.seat c.e_drop.new.seat
    c.args.rest.slot c.e_drop.ensures.dropped.0 c.e_drop.ensures.dropped.1)
    c.in-Err.ensures.refused

pub returns-in-Err-clause-keeps : goal.returns-in-Err-clause-keeps
returns-in-Err-clause-keeps c =
    one_dropped IsPiece c.args.domain.now 1 1 c.args.seat.now.view.core.owned c.args.rest.slot
    c.args.seat.now c.make_slot.new.seat c.e_drop.new.seat c.e_drop.ensures.dropped.0
    c.in-Err.ensures.keeps c.requires.owned c.e_drop.ensures.dropped.1

pub returns-in-Ok-clause-events : goal.returns-in-Ok-clause-events
returns-in-Ok-clause-events c = omega (arith, c.make_slot.ensures.events, c.link.ensures.events)

pub returns-in-Err-clause-events : goal.returns-in-Err-clause-events
returns-in-Err-clause-events c =
    let dropped = drop_event IsPiece c.args.domain.now c.make_slot.new.seat c.e_drop.new.seat
    c.args.rest.slot c.e_drop.ensures.dropped.0 c.e_drop.ensures.dropped.1 in
    omega (arith, c.make_slot.ensures.events, dropped)

pub returns-in-Ok-clause-fewer : goal.returns-in-Ok-clause-fewer
returns-in-Ok-clause-fewer c =
    fewer_if c.link.result 1 0 1 c.args.seat.now c.make_slot.new.seat c.link.new.seat
    c.in-Ok.ensures.keeps.makes_used.1 (omega arith) c.link.ensures.fewer

pub returns-in-Err-clause-fewer : goal.returns-in-Err-clause-fewer
returns-in-Err-clause-fewer c =
    fewer_on c.in-Err.error 1 (without c.args.rest.slot c.make_slot.new.seat.view.core.owned)
    c.args.seat.now c.make_slot.new.seat c.e_drop.new.seat
    (drop_keeps IsPiece c.args.domain.now c.make_slot.new.seat c.e_drop.new.seat
    c.args.rest.slot c.e_drop.ensures.dropped.0 c.e_drop.ensures.dropped.1)
    c.in-Err.ensures.fewer
