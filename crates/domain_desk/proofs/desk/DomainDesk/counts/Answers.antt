use Rattle.domain_desk.proofs.Placing.{holds_here, known_so}
use Rattle.std.proofs.Common.{refl}
use Rattle.lone_heap.specs.Trails.{counted}
use Rattle.script_desk.specs.script_lines.declared.command.Command.TheVariants as command
use Rattle.script_desk.specs.declared.said.Said.TheVariants as said
use Rattle.domain_desk.proofs.Shown.{from_view}
use Rattle.domain_desk.proofs.desk.DomainDesk.counts.Goals as goal

pub counts-strong-requires-clause-holds : goal.counts-strong-requires-clause-holds
counts-strong-requires-clause-holds c =
    holds_here _ _ c.self.view_is c.requires.kept c.args.name.now c.slot-slot.result
    (known_so _ _ c.self.view_is _ _ c.slot-slot.ensures)

pub returns-clause-shows : goal.returns-clause-shows
returns-clause-shows c =
    from_view _ _ c.self.view_is (command.Counts c.args.name.now)
    (said.Counts c.counts-strong.result.0 c.counts-strong.result.1)
    c.counts-strong.new.seat.view.core (
      counted c.slot-slot.result c.counts-strong.result,
      (c.slot-slot.result, refl),
      c.counts-strong.ensures.trail,
    )
