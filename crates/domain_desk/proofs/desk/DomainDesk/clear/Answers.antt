use Rattle.domain_desk.proofs.Placing.{placed_so, clear_begins, clear_kept, open_here}
use Rattle.script_desk.specs.script_lines.declared.command.Command.TheVariants as command
use Rattle.script_desk.specs.declared.said.Said.TheVariants as said
use Rattle.domain_desk.proofs.Shown.{clear_shown, from_view}
use Rattle.domain_desk.proofs.desk.DomainDesk.clear.Goals as goal

pub put-requires-clause-opened : goal.put-requires-clause-opened
put-requires-clause-opened c =
    open_here _ _ c.self.view_is c.requires.kept c.args.place.now c.place_of-at.result
    c.requires.range c.requires.needs (placed_so _ _ c.self.view_is _ _ c.place_of-at.ensures)

pub returns-clause-begins : goal.returns-clause-begins
returns-clause-begins c =
    clear_begins _ _ c.self.view_is c.requires.kept c.args.place.now c.place_of-at.result
    (placed_so _ _ c.self.view_is _ _ c.place_of-at.ensures) c.put.new.seat (c.put.ensures.ready, c.put.ensures.notes) c.put.ensures.puts

pub returns-clause-kept : goal.returns-clause-kept
returns-clause-kept c =
    clear_kept _ _ c.self.view_is c.requires.kept c.args.place.now c.place_of-at.result
    (placed_so _ _ c.self.view_is _ _ c.place_of-at.ensures) c.put.new.seat (c.put.ensures.ready, c.put.ensures.notes) c.put.ensures.puts

pub returns-clause-shows : goal.returns-clause-shows
returns-clause-shows c =
    from_view _ _ c.self.view_is (command.Clear c.args.place.now) said.Nothing
    c.put.new.seat.view.core
    (clear_shown c.args.place.now c.self.inside.seat.view.core c.put.new.seat.view.core c.place_of-at.result c.put.ensures.trail)
