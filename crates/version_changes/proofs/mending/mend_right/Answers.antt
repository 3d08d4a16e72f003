use Rattle.std.proofs.Common.{arith}
use Rattle.version_making.specs.Keeping.{of_answer, of_both}
use Rattle.version_changes.proofs.Mended.{beside_tree, changed_tree, right_mended, mended_keeps, refused_keeps}
use Rattle.version_changes.proofs.mending.mend_right.Goals as goal

pub join-requires-clause-trees : goal.join-requires-clause-trees
join-requires-clause-trees c = (
  beside_tree c.args.changed c.args.beside c.args.seat.now c.see_beside.new.seat c.requires.owned
      c.in-Ok.ensures.keeps c.requires.trees.1,
  changed_tree c.args.changed c.args.beside c.args.seat.now c.see_beside.new.seat c.requires.owned
      c.in-Ok.ensures.keeps c.requires.trees.0,
)

pub returns-in-Ok-clause-mended : goal.returns-in-Ok-clause-mended
returns-in-Ok-clause-mended c =
    right_mended c.args.changed c.args.beside c.args.seat.now c.see_beside.new.seat c.requires.owned
    c.in-Ok.ensures.keeps c.requires.trees.1 c.in-Ok.ensures.seen c.args.key c.args.value
    c.join.result c.join.new.seat (of_both c.args.beside c.args.changed) (of_answer c.join.result)
    c.join.ensures.keeps c.join.ensures.joined

pub returns-in-Ok-clause-keeps : goal.returns-in-Ok-clause-keeps
returns-in-Ok-clause-keeps c =
    mended_keeps c.args.changed c.args.beside c.args.seat.now c.see_beside.new.seat
    c.requires.owned c.in-Ok.ensures.keeps (of_both c.args.beside c.args.changed)
    (of_answer c.join.result) c.join.new.seat c.join.ensures.keeps (λ x. omega arith)

pub returns-in-Err-clause-keeps : goal.returns-in-Err-clause-keeps
returns-in-Err-clause-keeps c =
    refused_keeps c.args.changed c.args.beside c.args.seat.now c.see_beside.new.seat
    c.requires.owned c.in-Err.ensures.keeps c.give_up.new.seat c.give_up-in-Err.new.seat
    c.give_up.ensures.keeps c.give_up-in-Err.ensures.keeps
