use Rattle.std.proofs.Common.{arith}
use Rattle.slot_store.proofs.Below.core_law_Kit.{one_same}
use Rattle.std.proofs.Common.{refl}
use Rattle.version_making.proofs.Turned.{owned_four, refused_turn, trees_four, turn_keeps, turn_ok}
use Rattle.version_making.proofs.joining.turn.Goals as goal

pub take_apart-requires-clause-owned : goal.take_apart-requires-clause-owned
take_apart-requires-clause-owned c =
    let o = c.requires.owned c.args.mid.slot in
    let same = one_same c.args.mid.slot c.args.mid.slot refl in omega (arith, o, same)

pub put_both-requires-clause-owned : goal.put_both-requires-clause-owned
put_both-requires-clause-owned c =
    owned_four c.args.first c.args.last c.args.mid c.args.seat.now c.take_apart.new.seat
    c.requires.owned c.in-Ok.opened.left c.in-Ok.opened.right c.in-Ok.ensures.keeps

pub put_both-requires-clause-trees : goal.put_both-requires-clause-trees
put_both-requires-clause-trees c =
    trees_four c.args.first c.args.last c.args.mid c.args.seat.now c.take_apart.new.seat
    c.requires.owned c.in-Ok.opened.left c.in-Ok.opened.right c.in-Ok.ensures.keeps
    c.requires.trees.0 c.in-Ok.ensures.taken.left_tree c.in-Ok.ensures.taken.right_tree
    c.requires.trees.2

pub returns-in-Ok-clause-turned : goal.returns-in-Ok-clause-turned
returns-in-Ok-clause-turned c =
    turn_ok c.args.first c.args.last c.args.mid c.args.seat.now c.take_apart.new.seat
    c.requires.owned c.in-Ok.opened.left c.in-Ok.opened.right c.in-Ok.ensures.keeps
    c.put_both.new.seat c.put_both.result c.put_both.ensures.keeps c.args.left.key
    c.args.left.value c.args.right.key c.args.right.value c.in-Ok.opened.key c.in-Ok.opened.value
    c.in-Ok.opened.height c.in-Ok.ensures.taken c.put_both.ensures.put

pub returns-in-Ok-clause-keeps : goal.returns-in-Ok-clause-keeps
returns-in-Ok-clause-keeps c =
    turn_keeps c.args.first c.args.last c.args.mid c.args.seat.now c.take_apart.new.seat
    c.requires.owned c.in-Ok.opened.left c.in-Ok.opened.right c.in-Ok.ensures.keeps
    c.put_both.new.seat c.put_both.result c.put_both.ensures.keeps

pub returns-in-Err-clause-keeps : goal.returns-in-Err-clause-keeps
returns-in-Err-clause-keeps c =
    refused_turn c.args.first c.args.last c.args.mid c.args.seat.now c.take_apart.new.seat
    c.requires.owned c.give_up.new.seat c.give_up-in-Err.new.seat c.in-Err.ensures.refused
    c.give_up.ensures.keeps c.give_up-in-Err.ensures.keeps
