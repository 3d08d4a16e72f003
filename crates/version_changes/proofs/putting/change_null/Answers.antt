use Rattle.std.proofs.Common.{sym, ◌∙◌}
use Rattle.version_changes.proofs.Subtrees.{null_changed, null_stays}
use Rattle.version_changes.proofs.putting.change_null.Goals as goal

pub returns-in_default-clause-changed : goal.returns-in_default-clause-changed
returns-in_default-clause-changed c =
    null_stays c.args.key c.args.change c.args.seat.now c.args.seat.now
    (sym c.value_after.ensures ∙ c.in_default.is)

pub returns-clause-changed : goal.returns-clause-changed
returns-clause-changed c =
    null_changed c.args.key c.in-Some.value c.args.change c.in_ok-leaf.leaf c.args.seat.now
    c.put_together.new.seat (sym c.value_after.ensures ∙ c.in-Some.is) c.in_ok-leaf.ensures.put
