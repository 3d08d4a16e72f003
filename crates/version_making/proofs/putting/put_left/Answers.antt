use Rattle.std.proofs.Common.{arith, refl, ◌+◌}
use Rattle.version_making.specs.Keeping.{of_both, of_handle}
use Rattle.version_making.proofs.Keeping.{keeps_most}
use Rattle.version_making.proofs.Stacked.{left_keeps, left_put, refused_three, third_tree}
use Rattle.version_making.proofs.putting.put_left.Goals as goal

pub put_together-requires-in-Ok-clause-trees : goal.put_together-requires-in-Ok-clause-trees
put_together-requires-in-Ok-clause-trees c = (
  c.in-Ok.ensures.solid,
  third_tree c.args.first c.args.second c.args.third c.in-Ok.lower c.args.seat.now
      c.put_together.new.seat c.put_together.new.seat c.requires.owned c.in-Ok.ensures.keeps
      c.requires.trees.2,
)

pub returns-in-Ok-clause-put : goal.returns-in-Ok-clause-put
returns-in-Ok-clause-put c =
    left_put c.args.first c.args.second c.args.third c.in-Ok.lower c.args.seat.now
    c.put_together.new.seat c.put_together-in-Ok.new.seat c.requires.owned c.in-Ok.ensures.keeps
    c.args.low.key c.args.low.value c.args.high.key c.args.high.value c.in-Ok.ensures.put
    c.put_together-in-Ok.result c.put_together-in-Ok.ensures.put

pub returns-in-Ok-clause-keeps : goal.returns-in-Ok-clause-keeps
returns-in-Ok-clause-keeps c =
    left_keeps c.args.first c.args.second c.args.third c.in-Ok.lower c.args.seat.now
    c.put_together.new.seat c.put_together-in-Ok.new.seat c.requires.owned c.in-Ok.ensures.keeps
    c.put_together-in-Ok.result c.put_together-in-Ok.ensures.keeps

pub returns-in-Err-clause-keeps : goal.returns-in-Err-clause-keeps
returns-in-Err-clause-keeps c =
    keeps_most 1 1 2 2 _ _ c.args.seat.now c.give_up.new.seat
    (omega arith) (omega arith)
    (refused_three (of_both c.args.first c.args.second) (of_handle c.args.third) c.args.seat.now
    c.put_together.new.seat c.give_up.new.seat c.in-Err.ensures.keeps c.give_up.ensures.keeps
    (λ x. of_both c.args.first c.args.second x + of_handle c.args.third x) (λ x. refl))
