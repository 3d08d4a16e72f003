use Rattle.std.proofs.Common.{ap, sym, ◌∙◌, subst}
use Rattle.map_law.specs.plain_state.declared.act.EventPlace.TheVariants.{Cell}
use Rattle.map_law.specs.plain_state.Steps.{word_of}
use Rattle.map_law.specs.Lessons.{answer_next}
use Rattle.map_law.specs.Nodes.{IsNode}
use Rattle.map_law.proofs.Turned.{word_same}
use Rattle.slot_store.specs.core_events.declared.act.Act.TheVariants as act
use Rattle.slot_store.specs.core_events.declared.outcome.Outcome.{Outcome}
use Rattle.slot_store.specs.core_events.declared.outcome.Outcome.TheVariants as outcome
use Rattle.slot_store.specs.acquire_retire.Calls.{Steps}
use Rattle.atomic_shared.specs.Places.{named}
use Rattle.version_updates.specs.Longest.{StillTells}
use Rattle.version_updates.proofs.Showing.{keeps_looked, moved, ready_looked, still}
use Rattle.version_updates.proofs.looking.still_root.Goals as goal

pub returns-then-now-seen-clause-still : goal.returns-then-now-seen-clause-still
returns-then-now-seen-clause-still c =
    let same = word_same c.in-Found.found (named c.args.root.now)
    (sym c.held_as-now.ensures ∙ c.if-now-seen.true ∙ c.held_as-seen.ensures
    ∙ ap word_of c.slot_of.ensures) in
    still c.args.domain.now c.args.cell c.requires.cell.0 c.args.seat.now c.look.new.seat
    c.args.root.now
    (subst (λ (o : Outcome). Steps IsNode c.args.domain.now answer_next
    (StillTells c.args.domain.now.protocol.cell) (act.Look (Cell c.args.cell)) c.args.seat.now
    c.look.new.seat o) (c.in-Found.is ∙ ap (λ s. outcome.Found s) same) c.look.ensures)
    c.requires.owned

pub returns-then-now-seen-clause-keeps : goal.returns-then-now-seen-clause-keeps
returns-then-now-seen-clause-keeps c =
    keeps_looked c.args.domain.now c.args.cell c.requires.cell.0 c.args.seat.now c.look.new.seat
    c.look.result c.look.ensures

pub returns-then-now-seen-clause-ready : goal.returns-then-now-seen-clause-ready
returns-then-now-seen-clause-ready c =
    ready_looked c.args.domain.now c.args.cell c.requires.cell.0 c.args.seat.now c.look.new.seat
    c.look.result c.look.ensures c.requires.ready

pub returns-else-now-seen-clause-moved : goal.returns-else-now-seen-clause-moved
returns-else-now-seen-clause-moved c =
    moved c.args.domain.now c.args.cell c.requires.cell.0 c.args.seat.now c.look.new.seat
    c.in-Found.found
    (subst (λ (o : Outcome). Steps IsNode c.args.domain.now answer_next
    (StillTells c.args.domain.now.protocol.cell) (act.Look (Cell c.args.cell)) c.args.seat.now
    c.look.new.seat o) c.in-Found.is c.look.ensures) c.args.root.now
    (record { seen = c.held_as-seen.result; now = c.held_as-now.result })
    (c.held_as-seen.ensures ∙ ap word_of c.slot_of.ensures) c.held_as-now.ensures
    (λ same. c.if-now-seen.false (sym same))

pub returns-else-now-seen-clause-keeps : goal.returns-else-now-seen-clause-keeps
returns-else-now-seen-clause-keeps c =
    keeps_looked c.args.domain.now c.args.cell c.requires.cell.0 c.args.seat.now c.look.new.seat
    c.look.result c.look.ensures

pub returns-else-now-seen-clause-ready : goal.returns-else-now-seen-clause-ready
returns-else-now-seen-clause-ready c =
    ready_looked c.args.domain.now c.args.cell c.requires.cell.0 c.args.seat.now c.look.new.seat
    c.look.result c.look.ensures c.requires.ready
