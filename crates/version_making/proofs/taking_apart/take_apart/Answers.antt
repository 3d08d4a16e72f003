use Rattle.version_making.specs.Keeping.{none, of_both}
use Rattle.version_making.proofs.Taken.{is_taken, keeps_taken, refused_taken, still_owned}
use Rattle.version_making.proofs.taking_apart.take_apart.Goals as goal

pub give_up-requires-clause-owned : goal.give_up-requires-clause-owned
give_up-requires-clause-owned c =
    still_owned c.args.node.slot 2 (of_both c.in-Ok.opened.left c.in-Ok.opened.right)
    c.args.seat.now c.open_node.new.seat c.in-Ok.ensures.keeps c.requires.owned

pub give_up-requires-in-Err-clause-owned : goal.give_up-requires-in-Err-clause-owned
give_up-requires-in-Err-clause-owned c =
    still_owned c.args.node.slot 2 none c.args.seat.now c.open_node.new.seat
    c.in-Err.ensures.refused c.requires.owned

pub returns-in-Ok-clause-taken : goal.returns-in-Ok-clause-taken
returns-in-Ok-clause-taken c =
    is_taken c.args.node c.in-Ok.opened.left c.in-Ok.opened.right c.args.seat.now
    c.open_node.new.seat c.give_up.new.seat c.requires.owned c.in-Ok.ensures.keeps
    c.give_up.ensures.keeps c.in-Ok.opened.key c.in-Ok.opened.value c.in-Ok.opened.height
    c.in-Ok.ensures.opened

pub returns-in-Ok-clause-keeps : goal.returns-in-Ok-clause-keeps
returns-in-Ok-clause-keeps c =
    keeps_taken c.args.node c.in-Ok.opened.left c.in-Ok.opened.right c.args.seat.now
    c.open_node.new.seat c.give_up.new.seat c.requires.owned c.in-Ok.ensures.keeps
    c.give_up.ensures.keeps

pub returns-in-Err-clause-refused : goal.returns-in-Err-clause-refused
returns-in-Err-clause-refused c =
    refused_taken c.args.node.slot c.args.seat.now c.open_node.new.seat c.give_up-in-Err.new.seat
    c.in-Err.ensures.refused c.give_up-in-Err.ensures.keeps
