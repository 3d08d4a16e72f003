use Rattle.std.specs.Prelude.{Some}
use Rattle.version_changes.specs.Showing.{IsRead, IsSeen}
use Rattle.version_changes.proofs.Results.{if_ok}
use Rattle.version_changes.proofs.Seen.{right_tree, top_keeps, top_refused, top_seen}
use Rattle.version_changes.proofs.seeing.see_top.Goals as goal

pub returns-in-Err-clause-keeps : goal.returns-in-Err-clause-keeps
returns-in-Err-clause-keeps c =
    top_refused c.args.node.now c.in-Ok.field-0.left c.in-Ok.field-0.right c.args.seat.now
    c.open_node.new.seat c.see_root.new.seat c.give_up.new.seat c.in-Ok.ensures.keeps
    c.in-Err.ensures.keeps c.give_up.ensures.keeps

pub see_root-requires-2-clause-tree : goal.see_root-requires-2-clause-tree
see_root-requires-2-clause-tree c =
    right_tree c.args.node.now c.in-Ok.field-0.left c.in-Ok.field-0.right c.args.seat.now
    c.open_node.new.seat c.see_root.new.seat c.see_root.new.seat c.in-Ok.ensures.keeps
    c.in_default-see_root.ensures.keeps c.in-Ok.ensures.opened.right_tree

pub returns-clause-seen : goal.returns-clause-seen
returns-clause-seen c =
    if_ok c.see_root-2.result
    (λ x. IsRead c.in-Ok.field-0.right c.see_root.new.seat c.see_root-2.new.seat)
    (λ x. IsSeen (Some c.args.node.now) c.args.seat.now c.see_root-2.new.seat)
    (λ x read. top_seen c.args.node.now c.in-Ok.field-0.left c.in-Ok.field-0.right c.args.seat.now
    c.open_node.new.seat c.see_root.new.seat c.see_root-2.new.seat c.in-Ok.ensures.keeps
    c.in_default-see_root.ensures.keeps c.see_root-2.ensures.keeps c.in-Ok.field-0.key
    c.in-Ok.field-0.value c.in-Ok.field-0.height c.in-Ok.ensures.opened
    c.in_default-see_root.ensures.read read) c.see_root-2.ensures.read

pub returns-clause-keeps : goal.returns-clause-keeps
returns-clause-keeps c =
    top_keeps c.args.node.now c.in-Ok.field-0.left c.in-Ok.field-0.right c.args.seat.now
    c.open_node.new.seat c.see_root.new.seat c.see_root-2.new.seat c.in-Ok.ensures.keeps
    c.in_default-see_root.ensures.keeps c.see_root-2.ensures.keeps
