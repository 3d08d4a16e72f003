use Rattle.domain_desk.proofs.Keeping.{kept_strong, named_so, owns_weak}
use Rattle.std.proofs.Common.{Err, ap, refl, ◌∙◌}
use Rattle.lone_heap.specs.Trails.{found_ended, upgraded}
use Rattle.script_desk.specs.script_lines.declared.command.Command.TheVariants as command
use Rattle.script_desk.specs.declared.said.Said.TheVariants as said
use Rattle.domain_desk.proofs.Shown.{from_view}
use Rattle.domain_desk.proofs.desk.DomainDesk.upgrade.Goals as goal

pub upgrade_lone-requires-clause-owned : goal.upgrade_lone-requires-clause-owned
upgrade_lone-requires-clause-owned c =
    owns_weak _ _ c.self.view_is c.requires.kept c.args.name.now c.weak_slot-slot.result
    c.of.result.slot (named_so _ _ c.self.view_is c.requires.kept _ _ c.weak_slot-slot.ensures)
    c.of.ensures

pub returns-clause-kept : goal.returns-clause-kept
returns-clause-kept c =
    kept_strong _ _ c.self.view_is c.requires.kept c.upgrade_lone.new.seat c.bind.new.self
    (c.upgrade_lone.ensures.ready, c.upgrade_lone.ensures.notes) _ _ _ _ c.in-Ok.ensures.up c.slot.ensures c.of-hand.ensures
    c.in-Ok-bind.ensures.more

pub returns-clause-shows : goal.returns-clause-shows
returns-clause-shows c =
    from_view _ _ c.self.view_is (command.Upgrade c.args.name.now c.args.new.now) said.Up
    c.upgrade_lone.new.seat.view.core
    (upgraded c.of.result.slot, (c.of.result.slot, refl), c.in-Ok.ensures.shows_up)

pub returns-in-Err-Ended-clause-shows : goal.returns-in-Err-Ended-clause-shows
returns-in-Err-Ended-clause-shows c =
    from_view _ _ c.self.view_is (command.Upgrade c.args.name.now c.args.new.now) said.Dead
    c.upgrade_lone.new.seat.view.core (
      found_ended c.of.result.slot,
      (c.of.result.slot, refl),
      c.upgrade_lone.ensures.shows_ended (c.in-Err-Ended.is ∙ ap Err c.in-Err-Ended.field-0-is),
    )
