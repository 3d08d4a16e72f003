use Rattle.std.proofs.Common.{sym, ◌∙◌}
use Rattle.version_changes.proofs.Subtrees.{here_changed, here_taken}
use Rattle.version_changes.proofs.putting.change_here.Goals as goal

pub returns-in_default-clause-changed : goal.returns-in_default-clause-changed
returns-in_default-clause-changed c =
    here_taken c.args.node.key c.args.node.value c.args.change c.args.node.left c.args.node.right
    c.in_ok-tree.tree c.args.seat.now c.glue.new.seat
    (sym c.value_after.ensures ∙ c.in_default.is) c.in_ok-tree.ensures.glued

pub returns-clause-changed : goal.returns-clause-changed
returns-clause-changed c =
    here_changed c.args.node.key c.args.node.value c.in-Some.value c.args.change c.args.node.left
    c.args.node.right c.in_ok-made.made c.args.seat.now c.put_together.new.seat
    (sym c.value_after.ensures ∙ c.in-Some.is) c.requires.trees.0 c.requires.trees.1
    c.in_ok-made.ensures.keeps.grows c.in_ok-made.ensures.put
