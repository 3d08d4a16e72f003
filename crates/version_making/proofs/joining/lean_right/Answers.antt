use Rattle.std.proofs.Common.{arith, refl}
use Rattle.slot_store.proofs.Below.core_law_Kit.{one_same}
use Rattle.version_making.specs.Keeping.{of_both}
use Rattle.version_making.proofs.Leaned.{lean_keeps, right_ok, refused_lean, side_tree}
use Rattle.version_making.proofs.joining.lean_right.Goals as goal

pub take_apart-requires-clause-owned : goal.take_apart-requires-clause-owned
take_apart-requires-clause-owned c =
    let o = c.requires.owned c.args.right.slot in
    let same = one_same c.args.right.slot c.args.right.slot refl in omega (arith, o, same)

pub lift_right-requires-clause-trees : goal.lift_right-requires-clause-trees
lift_right-requires-clause-trees c = (
  c.in-Ok.ensures.taken.right_tree,
  c.in-Ok.ensures.taken.left_tree,
  side_tree c.args.right c.args.left c.args.seat.now c.take_apart.new.seat c.requires.owned
      c.in-Ok.opened.left c.in-Ok.opened.right c.in-Ok.ensures.keeps c.requires.trees.1,
)

pub returns-in-Ok-clause-keeps : goal.returns-in-Ok-clause-keeps
returns-in-Ok-clause-keeps c =
    lean_keeps c.args.right c.args.left c.args.seat.now c.take_apart.new.seat c.requires.owned
    c.in-Ok.opened.left c.in-Ok.opened.right c.in-Ok.ensures.keeps c.lift_right.new.seat
    c.lift_right.result (of_both c.in-Ok.opened.right c.in-Ok.opened.left) (λ x. omega arith) c.lift_right.ensures.keeps

pub returns-in-Ok-clause-tilted : goal.returns-in-Ok-clause-tilted
returns-in-Ok-clause-tilted c =
    right_ok c.args.right c.args.left c.args.seat.now c.take_apart.new.seat c.requires.owned
    c.in-Ok.opened.left c.in-Ok.opened.right c.in-Ok.ensures.keeps c.lift_right.new.seat
    c.lift_right.result (of_both c.in-Ok.opened.right c.in-Ok.opened.left) (λ x. omega arith) c.lift_right.ensures.keeps
    c.args.item.key c.args.item.value c.in-Ok.opened.key c.in-Ok.opened.value
    c.in-Ok.opened.height c.in-Ok.ensures.taken c.lift_right.ensures.tilted

pub returns-in-Err-clause-keeps : goal.returns-in-Err-clause-keeps
returns-in-Err-clause-keeps c =
    refused_lean c.args.right c.args.left c.args.seat.now c.take_apart.new.seat c.requires.owned c.give_up.new.seat c.in-Err.ensures.refused c.give_up.ensures.keeps
