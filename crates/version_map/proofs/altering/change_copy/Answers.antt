use Rattle.std.proofs.Common.{arith}
use Rattle.version_making.specs.Keeping.{none}
use Rattle.version_making.proofs.Keeping.{keeps_most, keeps_then}
use Rattle.version_changes.specs.Keeping.{of_changed}
use Rattle.version_map.proofs.Joined.{copies_changed, copies_why, copy_keeps, copy_tree}
use Rattle.version_map.proofs.altering.change_copy.Goals as goal

pub change_below-requires-clause-tree : goal.change_below-requires-clause-tree
change_below-requires-clause-tree c =
    copy_tree c.args.root.now c.in-Ok.copy c.height_at-levels.result c.args.seat.now
    c.height_at-levels.new.seat c.copy_root.new.seat c.requires.owned c.height_at-levels.ensures.height
    c.in-Ok.ensures.same c.height_at-levels.ensures.keeps c.in-Ok.ensures.keeps c.requires.tree

pub returns-in-Ok-clause-changed : goal.returns-in-Ok-clause-changed
returns-in-Ok-clause-changed c =
    copies_changed c.args.root.now c.in-Ok.copy c.height_at-levels.result c.args.seat.now
    c.height_at-levels.new.seat c.copy_root.new.seat c.requires.owned c.height_at-levels.ensures.height
    c.in-Ok.ensures.same c.height_at-levels.ensures.keeps c.in-Ok.ensures.keeps
    c.change_below.new.seat c.change_below.result c.change_below.ensures.keeps c.args.key c.args.change
    c.change_below.ensures.changed

pub returns-in-Ok-clause-keeps : goal.returns-in-Ok-clause-keeps
returns-in-Ok-clause-keeps c =
    copy_keeps c.args.root.now c.in-Ok.copy c.height_at-levels.result c.args.seat.now
    c.height_at-levels.new.seat c.copy_root.new.seat c.requires.owned c.height_at-levels.ensures.height
    c.in-Ok.ensures.same c.height_at-levels.ensures.keeps c.in-Ok.ensures.keeps
    c.change_below.new.seat (of_changed c.change_below.result) c.change_below.ensures.keeps

pub returns-in-Ok-clause-why : goal.returns-in-Ok-clause-why
returns-in-Ok-clause-why c =
    copies_why c.args.root.now c.in-Ok.copy c.height_at-levels.result c.args.seat.now
    c.height_at-levels.new.seat c.copy_root.new.seat c.requires.owned c.height_at-levels.ensures.height
    c.in-Ok.ensures.same c.height_at-levels.ensures.keeps c.in-Ok.ensures.keeps
    c.change_below.new.seat c.change_below.result c.change_below.ensures.keeps c.args.domain.now
    c.change_below.ensures.why

pub returns-in-Err-clause-keeps : goal.returns-in-Err-clause-keeps
returns-in-Err-clause-keeps c =
    keeps_most 0 1 _ _ none none c.args.seat.now c.copy_root.new.seat (omega arith) (omega arith)
    (keeps_then 0 0 0 1 none none none none none none c.args.seat.now c.height_at-levels.new.seat
    c.copy_root.new.seat c.height_at-levels.ensures.keeps c.in-Err.ensures.keeps
    (λ x. (omega arith, omega arith, omega arith)))
