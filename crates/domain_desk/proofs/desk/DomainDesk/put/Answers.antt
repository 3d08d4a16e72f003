use Rattle.domain_desk.proofs.Placing.{placed_so, known_so, gives_here, open_here, put_begins, put_kept}
use Rattle.script_desk.specs.script_lines.declared.command.Command.TheVariants as command
use Rattle.script_desk.specs.declared.said.Said.TheVariants as said
use Rattle.domain_desk.proofs.Shown.{from_view, put_shown}
use Rattle.domain_desk.proofs.desk.DomainDesk.put.Goals as goal

pub put-requires-clause-opened : goal.put-requires-clause-opened
put-requires-clause-opened c =
    open_here _ _ c.self.view_is c.requires.kept c.args.place.now c.place_of-at.result
    c.requires.range c.requires.needs (placed_so _ _ c.self.view_is _ _ c.place_of-at.ensures)

pub put-requires-clause-given : goal.put-requires-clause-given
put-requires-clause-given c =
    gives_here _ _ c.self.view_is c.requires.kept c.args.place.now c.place_of-at.result
    (placed_so _ _ c.self.view_is _ _ c.place_of-at.ensures) c.args.name.now c.slot-slot.result (known_so _ _ c.self.view_is _ _ c.slot-slot.ensures) c.requires.bound

pub returns-clause-begins : goal.returns-clause-begins
returns-clause-begins c =
    put_begins _ _ c.self.view_is c.requires.kept c.args.place.now c.place_of-at.result
    (placed_so _ _ c.self.view_is _ _ c.place_of-at.ensures) c.args.name.now c.slot-slot.result (known_so _ _ c.self.view_is _ _ c.slot-slot.ensures) c.requires.bound
    c.put.new.seat c.unbind.new.self (c.put.ensures.ready, c.put.ensures.notes) c.unbind.ensures.binds
    c.put.ensures.puts

pub returns-clause-kept : goal.returns-clause-kept
returns-clause-kept c =
    put_kept _ _ c.self.view_is c.requires.kept c.args.place.now c.place_of-at.result
    (placed_so _ _ c.self.view_is _ _ c.place_of-at.ensures) c.args.name.now c.slot-slot.result (known_so _ _ c.self.view_is _ _ c.slot-slot.ensures) c.requires.bound
    c.put.new.seat c.unbind.new.self (c.put.ensures.ready, c.put.ensures.notes) c.unbind.ensures.binds
    c.put.ensures.puts c.unbind.result c.unbind.ensures.was c.unbind.ensures.fewer

pub returns-clause-shows : goal.returns-clause-shows
returns-clause-shows c =
    from_view _ _ c.self.view_is (command.Put c.args.place.now c.args.name.now) said.Nothing
    c.put.new.seat.view.core
    (put_shown c.args.place.now c.self.inside.seat.view.core c.put.new.seat.view.core c.place_of-at.result c.args.name.now c.slot-slot.result
    c.put.ensures.trail)
