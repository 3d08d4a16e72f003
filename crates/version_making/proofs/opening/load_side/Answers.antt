use Rattle.std.proofs.Common.{arith, ap, subst, sym, ◌∙◌, Some}
use Rattle.slot_store.specs.core_events.declared.outcome.Outcome.TheVariants as outcome
use Rattle.map_law.specs.plain_state.declared.slot.SlotId.{SlotId}
use Rattle.slot_store.specs.core_events.Counts.{one}
use Rattle.version_making.specs.Keeping.{Keeps, none}
use Rattle.version_making.specs.Opening.{IsSide}
use Rattle.version_making.proofs.Keeping.{keeps_most}
use Rattle.version_making.proofs.Loaded.{check_ready, has_add, keeps_loaded, loaded_side, look_ready, may_add, may_let_go, may_look_again, may_tell, null_side, ready_loaded}
use Rattle.version_making.proofs.Reading.{keeps_looked, ready_looked}
use Rattle.version_making.proofs.opening.load_side.Goals as goal

pub look-requires-clause-deed : goal.look-requires-clause-deed
look-requires-clause-deed c w =
    Rattle.version_making.proofs.Loaded.solid_ready c.args.domain.now c.args.node c.args.side
    c.args.seat.now c.requires.ready c.requires.side c.requires.owned c.requires.solid

pub returns-in_default-found-clause-side : goal.returns-in_default-found-clause-side
returns-in_default-found-clause-side c =
    null_side c.args.domain.now c.args.domain.now.protocol.cell c.args.node c.args.side c.args.seat.now
    c.look.new.seat c.look.result c.look.ensures c.requires.ready c.requires.side
    c.requires.owned c.requires.solid
    (c.in-Found.is ∙ ap outcome.Found c.in_default-found.is)

pub returns-in_default-found-clause-keeps : goal.returns-in_default-found-clause-keeps
returns-in_default-found-clause-keeps c =
    keeps_most 0 0 0 1 none none c.args.seat.now c.look.new.seat (omega arith) (omega arith)
    (keeps_looked c.args.domain.now c.args.domain.now.protocol.cell c.args.node c.args.side c.args.seat.now
    c.look.new.seat c.look.result c.look.ensures c.requires.owned)

pub returns-in_default-found-clause-ready : goal.returns-in_default-found-clause-ready
returns-in_default-found-clause-ready c =
    ready_looked c.args.domain.now c.args.domain.now.protocol.cell c.args.node c.args.side c.args.seat.now
    c.look.new.seat c.look.result c.look.ensures c.requires.owned c.requires.ready

pub returns-then-adds_left-eq0-clause-keeps : goal.returns-then-adds_left-eq0-clause-keeps
returns-then-adds_left-eq0-clause-keeps c =
    keeps_most 0 0 0 1 none none c.args.seat.now c.look.new.seat (omega arith) (omega arith)
    (keeps_looked c.args.domain.now c.args.domain.now.protocol.cell c.args.node c.args.side c.args.seat.now
    c.look.new.seat c.look.result c.look.ensures c.requires.owned)

pub returns-then-adds_left-eq0-clause-ready : goal.returns-then-adds_left-eq0-clause-ready
returns-then-adds_left-eq0-clause-ready c =
    ready_looked c.args.domain.now c.args.domain.now.protocol.cell c.args.node c.args.side c.args.seat.now
    c.look.new.seat c.look.result c.look.ensures c.requires.owned c.requires.ready

pub announce-requires-clause-may : goal.announce-requires-clause-may
announce-requires-clause-may c =
    may_tell c.args.domain.now c.args.domain.now.protocol.cell c.args.node c.args.side c.args.seat.now
    c.look.new.seat c.look.result c.look.ensures c.requires.ready c.requires.side
    c.requires.owned c.requires.solid c.in-Some.kid (c.in-Found.is ∙ ap outcome.Found c.in-Some.is)

pub check-requires-clause-may : goal.check-requires-clause-may
check-requires-clause-may c =
    may_look_again c.args.domain.now c.args.domain.now.protocol.cell c.args.node c.args.side c.args.seat.now
    c.look.new.seat c.look.result c.look.ensures c.requires.ready c.requires.side
    c.requires.owned c.requires.solid c.in-Some.kid (c.in-Found.is ∙ ap outcome.Found c.in-Some.is)
    c.announce.new.seat c.announce.result c.announce.ensures

pub check-requires-clause-deed : goal.check-requires-clause-deed
check-requires-clause-deed c w =
    check_ready c.args.domain.now c.args.domain.now.protocol.cell c.args.node c.args.side c.args.seat.now
    c.look.new.seat c.look.result c.look.ensures c.requires.ready c.requires.side
    c.requires.owned c.requires.solid c.in-Some.kid (c.in-Found.is ∙ ap outcome.Found c.in-Some.is)
    c.announce.new.seat c.announce.result c.announce.ensures

pub add-requires-clause-may : goal.add-requires-clause-may
add-requires-clause-may c =
    let m = may_add c.args.domain.now c.args.domain.now.protocol.cell c.args.node c.args.side c.args.seat.now
    c.look.new.seat c.look.result c.look.ensures c.requires.ready c.requires.side
    c.requires.owned c.requires.solid c.in-Some.kid (c.in-Found.is ∙ ap outcome.Found c.in-Some.is)
    c.announce.new.seat c.announce.result c.announce.ensures
    c.check.new.seat c.check.result c.check.ensures in (
      m.0,
      has_add c.args.domain.now c.args.domain.now.protocol.cell c.args.node c.args.side c.args.seat.now
          c.look.new.seat c.look.result c.look.ensures c.requires.ready c.requires.side
          c.requires.owned c.requires.solid c.in-Some.kid (c.in-Found.is ∙ ap outcome.Found c.in-Some.is)
          c.announce.new.seat c.announce.result c.announce.ensures
          c.check.new.seat c.check.result c.check.ensures
          (omega (arith, c.adds_left.ensures, c.if-adds_left-eq0.false)),
      m.1,
    )

pub release-requires-clause-may : goal.release-requires-clause-may
release-requires-clause-may c =
    may_let_go c.args.domain.now c.args.domain.now.protocol.cell c.args.node c.args.side c.args.seat.now
    c.look.new.seat c.look.result c.look.ensures c.requires.ready c.requires.side
    c.requires.owned c.requires.solid c.in-Some.kid (c.in-Found.is ∙ ap outcome.Found c.in-Some.is)
    c.announce.new.seat c.announce.result c.announce.ensures
    c.check.new.seat c.check.result c.check.ensures
    c.add.new.seat c.add.result c.add.ensures

pub returns-clause-side : goal.returns-clause-side
returns-clause-side c =
    subst (λ (x : SlotId). IsSide c.args.node c.args.side (Some (record { slot = x }))
    c.release.new.seat) (sym c.of.ensures)
    (loaded_side c.args.domain.now c.args.domain.now.protocol.cell c.args.node c.args.side c.args.seat.now
    c.look.new.seat c.look.result c.look.ensures c.requires.ready c.requires.side
    c.requires.owned c.requires.solid c.in-Some.kid (c.in-Found.is ∙ ap outcome.Found c.in-Some.is)
    c.announce.new.seat c.announce.result c.announce.ensures
    c.check.new.seat c.check.result c.check.ensures
    c.add.new.seat c.add.result c.add.ensures
    c.release.new.seat c.release.result c.release.ensures)

pub returns-clause-keeps : goal.returns-clause-keeps
returns-clause-keeps c =
    subst (λ (x : SlotId). Keeps 0 1 none (λ y. one y x) c.args.seat.now c.release.new.seat)
    (sym c.of.ensures)
    (keeps_loaded c.args.domain.now c.args.domain.now.protocol.cell c.args.node c.args.side c.args.seat.now
    c.look.new.seat c.look.result c.look.ensures c.requires.ready c.requires.side
    c.requires.owned c.requires.solid c.in-Some.kid (c.in-Found.is ∙ ap outcome.Found c.in-Some.is)
    c.announce.new.seat c.announce.result c.announce.ensures
    c.check.new.seat c.check.result c.check.ensures
    c.add.new.seat c.add.result c.add.ensures
    c.release.new.seat c.release.result c.release.ensures)

pub returns-clause-ready : goal.returns-clause-ready
returns-clause-ready c =
    ready_loaded c.args.domain.now c.args.domain.now.protocol.cell c.args.node c.args.side c.args.seat.now
    c.look.new.seat c.look.result c.look.ensures c.requires.ready c.requires.side
    c.requires.owned c.requires.solid c.in-Some.kid (c.in-Found.is ∙ ap outcome.Found c.in-Some.is)
    c.announce.new.seat c.announce.result c.announce.ensures
    c.check.new.seat c.check.result c.check.ensures
    c.add.new.seat c.add.result c.add.ensures
    c.release.new.seat c.release.result c.release.ensures
