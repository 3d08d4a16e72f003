use Rattle.std.proofs.Common.{arith, ◌+◌}
use Rattle.version_making.specs.Keeping.{of_both, of_handle}
use Rattle.version_making.proofs.Keeping.{keeps_most}
use Rattle.version_making.proofs.Stacked.{right_keeps, right_put, refused_three, third_tree}
use Rattle.version_making.proofs.putting.put_right.Goals as goal

pub put_together-requires-in-Ok-clause-trees : goal.put_together-requires-in-Ok-clause-trees
put_together-requires-in-Ok-clause-trees c = (
  third_tree c.args.second c.args.third c.args.first c.in-Ok.lower c.args.seat.now
      c.put_together.new.seat c.put_together.new.seat (λ x. let o = c.requires.owned x in omega (arith, o)) c.in-Ok.ensures.keeps
      c.requires.trees.0,
  c.in-Ok.ensures.solid,
)

pub returns-in-Ok-clause-put : goal.returns-in-Ok-clause-put
returns-in-Ok-clause-put c =
    right_put c.args.second c.args.third c.args.first c.in-Ok.lower c.args.seat.now
    c.put_together.new.seat c.put_together-in-Ok.new.seat (λ x. let o = c.requires.owned x in omega (arith, o)) c.in-Ok.ensures.keeps
    c.args.low.key c.args.low.value c.args.high.key c.args.high.value c.in-Ok.ensures.put
    c.put_together-in-Ok.result c.put_together-in-Ok.ensures.put

pub returns-in-Ok-clause-keeps : goal.returns-in-Ok-clause-keeps
returns-in-Ok-clause-keeps c =
    right_keeps c.args.second c.args.third c.args.first c.in-Ok.lower c.args.seat.now
    c.put_together.new.seat c.put_together-in-Ok.new.seat (λ x. let o = c.requires.owned x in omega (arith, o)) c.in-Ok.ensures.keeps
    c.put_together-in-Ok.result c.put_together-in-Ok.ensures.keeps

pub returns-in-Err-clause-keeps : goal.returns-in-Err-clause-keeps
returns-in-Err-clause-keeps c =
    keeps_most 1 1 2 2 _ _ c.args.seat.now c.give_up.new.seat
    (omega arith) (omega arith)
    (refused_three (of_both c.args.second c.args.third) (of_handle c.args.first) c.args.seat.now
    c.put_together.new.seat c.give_up.new.seat c.in-Err.ensures.keeps c.give_up.ensures.keeps
    (λ x. of_handle c.args.first x + of_both c.args.second c.args.third x) (λ x. omega arith))
