use Rattle.std.proofs.Common.{ap, sym, subst, ◌∙◌}
use Rattle.std.specs.Prelude.{Option}
use Rattle.map_law.specs.plain_state.declared.slot.SlotId.{SlotId}
use Rattle.protected_loads.specs.core_events.declared.outcome.Outcome.TheVariants as outcome
use Rattle.version_reading.specs.Reading.{KnowsSide, Reads, held_by}
use Rattle.version_reading.proofs.Holding.{hold_knows, hold_node, hold_reads, hold_side, look_null, look_reads, may_announce, may_check, ready_check, ready_look}
use Rattle.version_reading.proofs.stepping.hold_side.Goals as goal

pub look-requires-clause-deed : goal.look-requires-clause-deed
look-requires-clause-deed c =
    ready_look c.args.domain.now c.args.slot c.args.side c.args.word c.args.seat.now
    c.requires.reading c.requires.node c.requires.side c.requires.word
    c.requires.free

pub announce-requires-clause-may : goal.announce-requires-clause-may
announce-requires-clause-may c =
    may_announce c.args.domain.now c.args.slot c.args.side c.args.word c.args.seat.now
    c.requires.reading c.requires.node c.requires.side c.requires.word
    c.requires.free c.look.new.seat c.look.result c.look.ensures c.in-Some.kid
    (c.in-Found.is ∙ ap outcome.Found c.in-Some.is)

pub check-requires-clause-may : goal.check-requires-clause-may
check-requires-clause-may c =
    may_check c.args.domain.now c.args.slot c.args.side c.args.word c.args.seat.now
    c.requires.reading c.requires.node c.requires.side c.requires.word
    c.requires.free c.look.new.seat c.look.result c.look.ensures c.in-Some.kid
    (c.in-Found.is ∙ ap outcome.Found c.in-Some.is) c.announce.new.seat c.announce.result
    c.announce.ensures

pub check-requires-clause-deed : goal.check-requires-clause-deed
check-requires-clause-deed c =
    ready_check c.args.domain.now c.args.slot c.args.side c.args.word c.args.seat.now
    c.requires.reading c.requires.node c.requires.side c.requires.word
    c.requires.free c.look.new.seat c.look.result c.look.ensures c.in-Some.kid
    (c.in-Found.is ∙ ap outcome.Found c.in-Some.is) c.announce.new.seat c.announce.result
    c.announce.ensures

pub returns-in-Some-clause-reads : goal.returns-in-Some-clause-reads
returns-in-Some-clause-reads c =
    hold_reads c.args.domain.now c.args.slot c.args.side c.args.word c.args.seat.now
    c.requires.reading c.requires.node c.requires.side c.requires.word
    c.requires.free c.look.new.seat c.look.result c.look.ensures c.in-Some.kid
    (c.in-Found.is ∙ ap outcome.Found c.in-Some.is) c.announce.new.seat c.announce.result
    c.announce.ensures c.check.new.seat c.check.result c.check.ensures

pub returns-in-Some-clause-knows : goal.returns-in-Some-clause-knows
returns-in-Some-clause-knows c =
    hold_knows c.args.domain.now c.args.slot c.args.side c.args.word c.args.seat.now
    c.requires.reading c.requires.node c.requires.side c.requires.word
    c.requires.free c.look.new.seat c.look.result c.look.ensures c.in-Some.kid
    (c.in-Found.is ∙ ap outcome.Found c.in-Some.is) c.announce.new.seat c.announce.result
    c.announce.ensures c.check.new.seat c.check.result c.check.ensures

pub returns-in-Some-clause-side : goal.returns-in-Some-clause-side
returns-in-Some-clause-side c =
    hold_side c.args.domain.now c.args.slot c.args.side c.args.word c.args.seat.now
    c.requires.reading c.requires.node c.requires.side c.requires.word
    c.requires.free c.look.new.seat c.look.result c.look.ensures c.in-Some.kid
    (c.in-Found.is ∙ ap outcome.Found c.in-Some.is) c.announce.new.seat c.announce.result
    c.announce.ensures c.check.new.seat c.check.result c.check.ensures

pub returns-in-Some-clause-node : goal.returns-in-Some-clause-node
returns-in-Some-clause-node c =
    hold_node c.args.domain.now c.args.slot c.args.side c.args.word c.args.seat.now
    c.requires.reading c.requires.node c.requires.side c.requires.word
    c.requires.free c.look.new.seat c.look.result c.look.ensures c.in-Some.kid
    (c.in-Found.is ∙ ap outcome.Found c.in-Some.is) c.announce.new.seat c.announce.result
    c.announce.ensures c.check.new.seat c.check.result c.check.ensures

pub returns-in_default-found-clause-reads : goal.returns-in_default-found-clause-reads
returns-in_default-found-clause-reads c =
    subst (λ (x : Option SlotId). Reads (held_by c.args.word x c.args.seat.now.view.core)
    c.args.seat.now c.look.new.seat) (sym c.in_default-found.is)
    (look_reads c.args.domain.now c.args.slot c.args.side c.args.word c.args.seat.now
    c.requires.reading c.requires.node c.requires.side c.requires.word
    c.requires.free c.look.new.seat c.look.result c.look.ensures)

pub returns-in_default-found-clause-side : goal.returns-in_default-found-clause-side
returns-in_default-found-clause-side c =
    subst (λ (x : Option SlotId). KnowsSide c.args.slot c.args.side x c.look.new.seat)
    (sym c.in_default-found.is)
    (look_null c.args.domain.now c.args.slot c.args.side c.args.word c.args.seat.now
    c.requires.reading c.requires.node c.requires.side c.requires.word
    c.requires.free c.look.new.seat c.look.result c.look.ensures
    (c.in-Found.is ∙ ap outcome.Found c.in_default-found.is))
