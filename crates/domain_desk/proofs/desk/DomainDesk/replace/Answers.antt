use Rattle.std.proofs.Common.{◌≡◌, false, true, rules}
use Rattle.domain_desk.proofs.Placing.{held_here, open_here, placed_so, slot_so, strong_kind}
use Rattle.domain_desk.proofs.Replacing.{done_begins, done_kept, gives_slot, lost_begins, lost_kept, tries_as}
use Rattle.script_desk.specs.script_lines.declared.command.Command.TheVariants as command
use Rattle.script_desk.specs.declared.said.Said.TheVariants as said
use Rattle.domain_desk.proofs.Shown.{done_shown, from_view, lost_shown}
use Rattle.domain_desk.proofs.desk.DomainDesk.replace.Goals as goal

pub try_put-requires-clause-opened : goal.try_put-requires-clause-opened
try_put-requires-clause-opened c =
    open_here _ _ c.self.view_is c.requires.kept c.args.place.now c.place_of-at.result
    c.requires.range c.requires.needs (placed_so _ _ c.self.view_is _ _ c.place_of-at.ensures)

pub try_put-requires-clause-held : goal.try_put-requires-clause-held
try_put-requires-clause-held c =
    held_here _ _ c.self.view_is c.requires.kept c.args.old.now c.slot_if_some-expected.result
    (slot_so _ _ c.self.view_is _ _ c.slot_if_some-expected.ensures)

pub try_put-requires-clause-given : goal.try_put-requires-clause-given
try_put-requires-clause-given c =
    gives_slot _ _ c.self.view_is c.requires.kept c.place_of-at.result
    (strong_kind _ c.args.place.now c.place_of-at.result c.requires.strong c.place_of-at.ensures)
    c.args.new.now c.slot_if_some-slot.result
    (slot_so _ _ c.self.view_is _ _ c.slot_if_some-slot.ensures) c.requires.given

pub returns-then-not-try_put-clause-begins : goal.returns-then-not-try_put-clause-begins
returns-then-not-try_put-clause-begins c =
    let is : c.try_put.result ≡ false = search rules in
    lost_begins _ _ c.self.view_is c.requires.kept c.place_of-at.result
    (strong_kind _ c.args.place.now c.place_of-at.result c.requires.strong c.place_of-at.ensures)
    c.args.place.now (placed_so _ _ c.self.view_is _ _ c.place_of-at.ensures) c.args.old.now
    c.args.new.now c.slot_if_some-expected.result c.slot_if_some-slot.result
    (slot_so _ _ c.self.view_is _ _ c.slot_if_some-expected.ensures)
    (slot_so _ _ c.self.view_is _ _ c.slot_if_some-slot.ensures) c.try_put.new.seat
    (c.try_put.ensures.ready, c.try_put.ensures.notes) (tries_as _ _ _ _ _ _ _ is c.try_put.ensures.tries)

pub returns-then-not-try_put-clause-kept : goal.returns-then-not-try_put-clause-kept
returns-then-not-try_put-clause-kept c =
    let is : c.try_put.result ≡ false = search rules in
    lost_kept _ _ c.self.view_is c.requires.kept c.place_of-at.result
    (strong_kind _ c.args.place.now c.place_of-at.result c.requires.strong c.place_of-at.ensures)
    c.args.place.now (placed_so _ _ c.self.view_is _ _ c.place_of-at.ensures) c.args.old.now
    c.args.new.now c.slot_if_some-expected.result c.slot_if_some-slot.result
    (slot_so _ _ c.self.view_is _ _ c.slot_if_some-expected.ensures)
    (slot_so _ _ c.self.view_is _ _ c.slot_if_some-slot.ensures) c.try_put.new.seat
    (c.try_put.ensures.ready, c.try_put.ensures.notes) (tries_as _ _ _ _ _ _ _ is c.try_put.ensures.tries)

pub returns-clause-begins : goal.returns-clause-begins
returns-clause-begins c =
    let is : c.try_put.result ≡ true = search rules in
    done_begins _ _ c.self.view_is c.requires.kept c.place_of-at.result
    (strong_kind _ c.args.place.now c.place_of-at.result c.requires.strong c.place_of-at.ensures)
    c.args.place.now (placed_so _ _ c.self.view_is _ _ c.place_of-at.ensures) c.args.old.now
    c.args.new.now c.slot_if_some-expected.result c.slot_if_some-slot.result
    (slot_so _ _ c.self.view_is _ _ c.slot_if_some-expected.ensures)
    (slot_so _ _ c.self.view_is _ _ c.slot_if_some-slot.ensures) c.try_put.new.seat
    (c.try_put.ensures.ready, c.try_put.ensures.notes) c.unbind_if_some.new.self
    c.unbind_if_some.ensures.binds (tries_as _ _ _ _ _ _ _ is c.try_put.ensures.tries)

pub returns-clause-kept : goal.returns-clause-kept
returns-clause-kept c =
    let is : c.try_put.result ≡ true = search rules in
    done_kept _ _ c.self.view_is c.requires.kept c.place_of-at.result
    (strong_kind _ c.args.place.now c.place_of-at.result c.requires.strong c.place_of-at.ensures)
    c.args.place.now (placed_so _ _ c.self.view_is _ _ c.place_of-at.ensures) c.args.old.now
    c.args.new.now c.slot_if_some-expected.result c.slot_if_some-slot.result
    (slot_so _ _ c.self.view_is _ _ c.slot_if_some-expected.ensures)
    (slot_so _ _ c.self.view_is _ _ c.slot_if_some-slot.ensures) c.try_put.new.seat
    (c.try_put.ensures.ready, c.try_put.ensures.notes) c.unbind_if_some.new.self
    c.unbind_if_some.ensures.binds (tries_as _ _ _ _ _ _ _ is c.try_put.ensures.tries)
    c.requires.given c.unbind_if_some.ensures.fewer

pub returns-then-not-try_put-clause-shows : goal.returns-then-not-try_put-clause-shows
returns-then-not-try_put-clause-shows c =
    from_view _ _ c.self.view_is
    (command.Replace c.args.place.now c.args.old.now c.args.new.now) said.Lost
    c.try_put.new.seat.view.core
    (lost_shown c.args.place.now c.self.inside.seat.view.core c.try_put.new.seat.view.core c.place_of-at.result c.args.old.now c.args.new.now
    c.slot_if_some-expected.result c.slot_if_some-slot.result c.try_put.result
    c.try_put.ensures.trail (search rules))

pub returns-clause-shows : goal.returns-clause-shows
returns-clause-shows c =
    from_view _ _ c.self.view_is
    (command.Replace c.args.place.now c.args.old.now c.args.new.now) said.Done
    c.try_put.new.seat.view.core
    (done_shown c.args.place.now c.self.inside.seat.view.core c.try_put.new.seat.view.core c.place_of-at.result c.args.old.now c.args.new.now
    c.slot_if_some-expected.result c.slot_if_some-slot.result c.try_put.result
    c.try_put.ensures.trail (search rules))
