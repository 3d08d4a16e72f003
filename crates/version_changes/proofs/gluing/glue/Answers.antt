use Rattle.std.proofs.lemmas.Result.{err_from_is_err_and}
use Rattle.version_making.specs.Keeping.{none}
use Rattle.version_changes.proofs.Glued.{first_owned, glue_keeps, glue_refused, glue_why, left_tree, owns_turned}
use Rattle.version_changes.proofs.Rests.{glued_node, glued_null}
use Rattle.version_changes.proofs.gluing.glue.Goals as goal

pub returns-in_default-clause-glued : goal.returns-in_default-clause-glued
returns-in_default-clause-glued c =
    glued_null c.args.left c.args.right c.args.seat.now c.in_default.is c.requires.trees.0

pub take_least-requires-clause-owned : goal.take_least-requires-clause-owned
take_least-requires-clause-owned c =
    first_owned c.in-Some.node c.args.left c.args.right c.args.levels c.args.seat.now c.in-Some.is
    c.requires.owned

pub mend_right-requires-clause-trees : goal.mend_right-requires-clause-trees
mend_right-requires-clause-trees c = (
  c.in-Ok.ensures.least.stands.tree,
  left_tree c.in-Some.node c.args.left c.args.right c.args.levels c.args.seat.now c.in-Some.is
      c.requires.owned c.in-Ok.least.rest c.take_least.new.seat c.take_least.new.seat
      c.in-Ok.ensures.keeps c.requires.trees.0,
)

pub returns-in_err-tree-in-Ok-clause-keeps : goal.returns-in_err-tree-in-Ok-clause-keeps
returns-in_err-tree-in-Ok-clause-keeps c =
    let p = err_from_is_err_and c.from_residual.result c.from_residual.ensures.1 in
    rw p.1 (glue_keeps c.in-Some.node c.args.left c.args.right c.args.levels c.args.seat.now
    c.in-Some.is c.requires.owned c.in-Ok.least.rest c.take_least.new.seat c.mend_right.new.seat
    c.in-Ok.ensures.keeps none c.in_err-tree-in-Ok.ensures.keeps)

pub returns-in_ok-tree-in-Ok-clause-glued : goal.returns-in_ok-tree-in-Ok-clause-glued
returns-in_ok-tree-in-Ok-clause-glued c =
    glued_node c.in-Some.node c.in_ok-tree-in-Ok.tree c.args.left c.args.right c.in-Ok.least.rest
    _ _ c.in-Ok.least.key c.in-Ok.least.value c.args.seat.now c.take_least.new.seat
    c.mend_right.new.seat c.in-Some.is
    (owns_turned c.in-Some.node c.args.left c.args.right c.args.levels c.args.seat.now c.in-Some.is
    c.requires.owned)
    c.in-Ok.ensures.keeps c.in_ok-tree-in-Ok.ensures.keeps.grows c.in-Ok.ensures.least
    c.in_ok-tree-in-Ok.ensures.mended

pub returns-in_ok-tree-in-Ok-clause-keeps : goal.returns-in_ok-tree-in-Ok-clause-keeps
returns-in_ok-tree-in-Ok-clause-keeps c =
    glue_keeps c.in-Some.node c.args.left c.args.right c.args.levels c.args.seat.now
    c.in-Some.is c.requires.owned c.in-Ok.least.rest c.take_least.new.seat c.mend_right.new.seat
    c.in-Ok.ensures.keeps _ c.in_ok-tree-in-Ok.ensures.keeps

pub returns-in-Err-clause-keeps : goal.returns-in-Err-clause-keeps
returns-in-Err-clause-keeps c =
    glue_refused c.in-Some.node c.args.left c.args.right c.args.levels c.args.seat.now c.in-Some.is
    c.requires.owned c.take_least.new.seat c.give_up.new.seat c.in-Err.ensures.keeps
    c.give_up.ensures.keeps

pub returns-in-Err-clause-why : goal.returns-in-Err-clause-why
returns-in-Err-clause-why c =
    glue_why c.in-Some.node c.args.left c.args.right c.args.levels c.args.seat.now c.in-Some.is
    c.requires.owned c.take_least.new.seat c.give_up.new.seat c.in-Err.ensures.keeps
    c.args.domain.now c.in-Err.error c.give_up.ensures.keeps c.in-Err.ensures.why
