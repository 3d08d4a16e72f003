use Rattle.std.proofs.Common.{arith, ◌+◌}
use Rattle.version_making.specs.Keeping.{none, of_both, of_handle}
use Rattle.version_making.proofs.Keeping.{keeps_most, keeps_then}
use Rattle.version_making.proofs.Stacked.{both_keeps, both_put, two_trees}
use Rattle.version_making.proofs.putting.put_both.Goals as goal

pub put_right-requires-clause-trees : goal.put_right-requires-clause-trees
put_right-requires-clause-trees c =
    let t = two_trees c.args.first c.args.second c.args.third c.args.fourth c.in-Ok.lower
    c.args.seat.now c.put_together.new.seat c.put_together.new.seat c.requires.owned
    c.in-Ok.ensures.keeps c.requires.trees.2 c.requires.trees.3 in
    (c.in-Ok.ensures.solid, t.0, t.1)

pub returns-in-Ok-clause-put : goal.returns-in-Ok-clause-put
returns-in-Ok-clause-put c =
    both_put c.args.first c.args.second c.args.third c.args.fourth c.in-Ok.lower
    c.args.seat.now c.put_together.new.seat c.put_right.new.seat c.requires.owned
    c.in-Ok.ensures.keeps c.put_right.result c.args.left.key c.args.left.value c.args.right.key
    c.args.right.value c.args.high.key c.args.high.value c.in-Ok.ensures.put c.put_right.ensures.put

pub returns-in-Ok-clause-keeps : goal.returns-in-Ok-clause-keeps
returns-in-Ok-clause-keeps c =
    both_keeps c.args.first c.args.second c.args.third c.args.fourth c.in-Ok.lower
    c.args.seat.now c.put_together.new.seat c.put_right.new.seat c.requires.owned
    c.in-Ok.ensures.keeps c.put_right.result c.put_right.ensures.keeps

pub returns-in-Err-clause-keeps : goal.returns-in-Err-clause-keeps
returns-in-Err-clause-keeps c =
    keeps_most 1 1 3 3 _ _ c.args.seat.now c.give_up-in-Err.new.seat (omega arith) (omega arith)
    (keeps_then 1 1 0 0 (of_both c.args.first c.args.second) none
    (of_both c.args.third c.args.fourth) none
    (λ x. of_both c.args.first c.args.second x + of_both c.args.third c.args.fourth x) none
    c.args.seat.now c.put_together.new.seat c.give_up-in-Err.new.seat c.in-Err.ensures.keeps
    (keeps_then 0 0 0 0 (of_handle c.args.third) none (of_handle c.args.fourth) none
    (of_both c.args.third c.args.fourth) none c.put_together.new.seat c.give_up.new.seat
    c.give_up-in-Err.new.seat c.give_up.ensures.keeps c.give_up-in-Err.ensures.keeps
    (λ x. (omega arith, omega arith, omega arith)))
    (λ x. (omega arith, omega arith, omega arith)))
