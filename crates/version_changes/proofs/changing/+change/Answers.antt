use Rattle.std.proofs.Common.{arith, refl, subst, ◌≡◌}
use Rattle.std.proofs.lemmas.Result.{err_from_is_err_and}
use Rattle.std.specs.Prelude.{IfOk}
use Rattle.version_making.specs.Keeping.{none, of_both}
use Rattle.version_changes.specs.Changing.{IsChangedHere}
use Rattle.version_changes.proofs.Refused.{refusal_on}
use Rattle.version_changes.proofs.Sides.{kids_owned, left_why, node_long, node_owned, null_why, owns_turned, right_why, same_turned, side_keeps, side_refused, sides_changed, sides_keep}
use Rattle.version_changes.proofs.Steps.{beside_tree}
use Rattle.version_changes.proofs.Subtrees.{left_changed, right_changed}
use Rattle.version_changes.proofs.changing.+change.Goals as goal

pub change_below-returns-in_default-clause-why : goal.change_below-returns-in_default-clause-why
change_below-returns-in_default-clause-why t c =
    null_why c.args.domain.now c.args.tree c.args.levels c.args.seat.now c.change_null.new.seat
    c.change_null.result c.in_default.is c.change_null.ensures.why

pub change_below-returns-then-levels-eq0-clause-why :
    goal.change_below-returns-then-levels-eq0-clause-why
change_below-returns-then-levels-eq0-clause-why t c =
    node_long c.args.tree c.in-Some.node c.in-Some.is c.args.seat.now c.args.levels c.give_up.new.seat
    c.if-levels-eq0.true c.give_up.ensures.keeps c.requires.tree

pub change_below-take_apart-requires-clause-owned :
    goal.change_below-take_apart-requires-clause-owned
change_below-take_apart-requires-clause-owned t c =
    node_owned c.args.tree c.in-Some.node c.in-Some.is c.args.seat.now c.requires.owned

pub change_below-change_left-requires : goal.change_below-change_left-requires
change_below-change_left-requires t c =
    let d = c.decreases in let some = c.if-levels-eq0.false in
    let owned = kids_owned c.args.tree c.in-Some.node c.in-Some.is c.args.seat.now
    c.in_ok-opened.opened.left c.in_ok-opened.opened.right c.take_apart.new.seat
    (node_owned c.args.tree c.in-Some.node c.in-Some.is c.args.seat.now c.requires.owned)
    c.in_ok-opened.ensures.keeps in (
      omega (arith, d, some),
      (
        c.in_ok-opened.ensures.ready,
        (
          owned,
          (
            (c.in_ok-opened.ensures.taken.left_tree, c.in_ok-opened.ensures.taken.right_tree),
            c.if-key-opened.true,
          ),
        ),
      ),
    )

pub change_below-returns-then-key-opened-clause-changed :
    goal.change_below-returns-then-key-opened-clause-changed
change_below-returns-then-key-opened-clause-changed t c =
    sides_changed c.args.tree c.in-Some.node c.in-Some.is c.args.seat.now c.in_ok-opened.opened.key
    c.in_ok-opened.opened.value c.in_ok-opened.opened.height c.in_ok-opened.opened.left
    c.in_ok-opened.opened.right c.take_apart.new.seat c.change_left.new.seat c.args.levels
    c.if-levels-eq0.false c.in_ok-opened.ensures.taken c.in_ok-opened.ensures.keeps
    c.change_left.result c.change_left.ensures.keeps c.args.key c.args.change
    c.change_left.ensures.changed

pub change_below-returns-then-key-opened-clause-keeps :
    goal.change_below-returns-then-key-opened-clause-keeps
change_below-returns-then-key-opened-clause-keeps t c =
    sides_keep c.args.tree c.in-Some.node c.in-Some.is c.args.seat.now c.in_ok-opened.opened.key
    c.in_ok-opened.opened.value c.in_ok-opened.opened.height c.in_ok-opened.opened.left
    c.in_ok-opened.opened.right c.take_apart.new.seat c.change_left.new.seat c.args.levels
    c.if-levels-eq0.false c.in_ok-opened.ensures.taken c.in_ok-opened.ensures.keeps
    c.change_left.result c.change_left.ensures.keeps

pub change_below-returns-then-key-opened-clause-why :
    goal.change_below-returns-then-key-opened-clause-why
change_below-returns-then-key-opened-clause-why t c =
    left_why c.args.tree c.in-Some.node c.in-Some.is c.args.seat.now c.in_ok-opened.opened.key
    c.in_ok-opened.opened.value c.in_ok-opened.opened.height c.in_ok-opened.opened.left
    c.in_ok-opened.opened.right c.take_apart.new.seat c.change_left.new.seat c.args.levels
    c.if-levels-eq0.false c.in_ok-opened.ensures.taken c.in_ok-opened.ensures.keeps
    c.change_left.result c.change_left.ensures.keeps c.args.domain.now c.change_left.ensures.why

pub change_below-change_right-requires : goal.change_below-change_right-requires
change_below-change_right-requires t c =
    let d = c.decreases in let some = c.if-levels-eq0.false in
    let owned = kids_owned c.args.tree c.in-Some.node c.in-Some.is c.args.seat.now
    c.in_ok-opened.opened.left c.in_ok-opened.opened.right c.take_apart.new.seat
    (node_owned c.args.tree c.in-Some.node c.in-Some.is c.args.seat.now c.requires.owned)
    c.in_ok-opened.ensures.keeps in (
      omega (arith, d, some),
      (
        c.in_ok-opened.ensures.ready,
        (
          owned,
          (
            (c.in_ok-opened.ensures.taken.left_tree, c.in_ok-opened.ensures.taken.right_tree),
            c.if-opened-key.true,
          ),
        ),
      ),
    )

pub change_below-returns-then-opened-key-clause-changed :
    goal.change_below-returns-then-opened-key-clause-changed
change_below-returns-then-opened-key-clause-changed t c =
    sides_changed c.args.tree c.in-Some.node c.in-Some.is c.args.seat.now c.in_ok-opened.opened.key
    c.in_ok-opened.opened.value c.in_ok-opened.opened.height c.in_ok-opened.opened.left
    c.in_ok-opened.opened.right c.take_apart.new.seat c.change_right.new.seat c.args.levels
    c.if-levels-eq0.false c.in_ok-opened.ensures.taken c.in_ok-opened.ensures.keeps
    c.change_right.result c.change_right.ensures.keeps c.args.key c.args.change
    c.change_right.ensures.changed

pub change_below-returns-then-opened-key-clause-keeps :
    goal.change_below-returns-then-opened-key-clause-keeps
change_below-returns-then-opened-key-clause-keeps t c =
    sides_keep c.args.tree c.in-Some.node c.in-Some.is c.args.seat.now c.in_ok-opened.opened.key
    c.in_ok-opened.opened.value c.in_ok-opened.opened.height c.in_ok-opened.opened.left
    c.in_ok-opened.opened.right c.take_apart.new.seat c.change_right.new.seat c.args.levels
    c.if-levels-eq0.false c.in_ok-opened.ensures.taken c.in_ok-opened.ensures.keeps
    c.change_right.result c.change_right.ensures.keeps

pub change_below-returns-then-opened-key-clause-why :
    goal.change_below-returns-then-opened-key-clause-why
change_below-returns-then-opened-key-clause-why t c =
    right_why c.args.tree c.in-Some.node c.in-Some.is c.args.seat.now c.in_ok-opened.opened.key
    c.in_ok-opened.opened.value c.in_ok-opened.opened.height c.in_ok-opened.opened.left
    c.in_ok-opened.opened.right c.take_apart.new.seat c.change_right.new.seat c.args.levels
    c.if-levels-eq0.false c.in_ok-opened.ensures.taken c.in_ok-opened.ensures.keeps
    c.change_right.result c.change_right.ensures.keeps c.args.domain.now c.change_right.ensures.why

pub change_below-returns-clause-changed : goal.change_below-returns-clause-changed
change_below-returns-clause-changed t c =
    let low = c.if-key-opened.false in let high = c.if-opened-key.false in
    let same : c.in_ok-opened.opened.key ≡ c.args.key = omega (arith, low, high) in
    sides_changed c.args.tree c.in-Some.node c.in-Some.is c.args.seat.now c.in_ok-opened.opened.key
    c.in_ok-opened.opened.value c.in_ok-opened.opened.height c.in_ok-opened.opened.left
    c.in_ok-opened.opened.right c.take_apart.new.seat c.change_here.new.seat c.args.levels
    c.if-levels-eq0.false c.in_ok-opened.ensures.taken c.in_ok-opened.ensures.keeps
    c.change_here.result c.change_here.ensures.keeps c.args.key c.args.change
    (subst (λ key. IfOk c.change_here.result (λ changed. IsChangedHere c.in_ok-opened.opened.key
    c.in_ok-opened.opened.value c.in_ok-opened.opened.left c.in_ok-opened.opened.right changed.tree
    key c.args.change changed.answer c.take_apart.new.seat c.change_here.new.seat)) same
    c.change_here.ensures.changed)

pub change_below-returns-clause-keeps : goal.change_below-returns-clause-keeps
change_below-returns-clause-keeps t c =
    sides_keep c.args.tree c.in-Some.node c.in-Some.is c.args.seat.now c.in_ok-opened.opened.key
    c.in_ok-opened.opened.value c.in_ok-opened.opened.height c.in_ok-opened.opened.left
    c.in_ok-opened.opened.right c.take_apart.new.seat c.change_here.new.seat c.args.levels
    c.if-levels-eq0.false c.in_ok-opened.ensures.taken c.in_ok-opened.ensures.keeps
    c.change_here.result c.change_here.ensures.keeps

pub change_below-returns-clause-why : goal.change_below-returns-clause-why
change_below-returns-clause-why t c =
    right_why c.args.tree c.in-Some.node c.in-Some.is c.args.seat.now c.in_ok-opened.opened.key
    c.in_ok-opened.opened.value c.in_ok-opened.opened.height c.in_ok-opened.opened.left
    c.in_ok-opened.opened.right c.take_apart.new.seat c.change_here.new.seat c.args.levels
    c.if-levels-eq0.false c.in_ok-opened.ensures.taken c.in_ok-opened.ensures.keeps
    c.change_here.result c.change_here.ensures.keeps c.args.domain.now c.change_here.ensures.why

pub change_left-change_below-requires : goal.change_left-change_below-requires
change_left-change_below-requires t c =
    let d = c.decreases in (
      omega (arith, d),
      (
        c.requires.ready,
        (
          (λ x. let o = c.requires.owned x in omega (arith, o)),
          c.requires.trees.0,
        ),
      ),
    )

pub change_left-mend_left-requires-clause-trees : goal.change_left-mend_left-requires-clause-trees
change_left-mend_left-requires-clause-trees t c = (
  c.in-Ok.ensures.changed.stands.tree,
  beside_tree c.args.node.left c.args.node.right c.in-Ok.field-0.tree _ _ c.args.seat.now
      c.change_below.new.seat c.requires.owned c.in-Ok.ensures.keeps c.requires.trees.1,
)

pub change_left-returns-in_err-tree-in-Ok-clause-keeps :
    goal.change_left-returns-in_err-tree-in-Ok-clause-keeps
change_left-returns-in_err-tree-in-Ok-clause-keeps t c =
    let p = err_from_is_err_and c.from_residual.result c.from_residual.ensures.1 in
    rw p.1 (side_keeps c.args.node.left c.args.node.right c.in-Ok.field-0.tree c.args.levels
    (of_both c.args.node.left c.args.node.right) c.args.seat.now c.change_below.new.seat
    c.mend_left.new.seat (λ x. refl) c.requires.owned c.in-Ok.ensures.keeps none
    c.in_err-tree-in-Ok.ensures.keeps)

pub change_left-returns-in_ok-tree-in-Ok-clause-changed :
    goal.change_left-returns-in_ok-tree-in-Ok-clause-changed
change_left-returns-in_ok-tree-in-Ok-clause-changed t c =
    left_changed c.args.node.left c.args.node.right c.in-Ok.field-0.tree _ _ c.args.seat.now
    c.change_below.new.seat c.mend_left.new.seat c.requires.owned c.in-Ok.ensures.keeps
    c.in_ok-tree-in-Ok.ensures.keeps.grows c.in_ok-tree-in-Ok.tree c.args.node.key
    c.args.node.value c.args.key c.args.change c.in-Ok.field-0.answer c.in-Ok.ensures.changed
    c.requires.less c.in_ok-tree-in-Ok.ensures.mended

pub change_left-returns-in_ok-tree-in-Ok-clause-keeps :
    goal.change_left-returns-in_ok-tree-in-Ok-clause-keeps
change_left-returns-in_ok-tree-in-Ok-clause-keeps t c =
    side_keeps c.args.node.left c.args.node.right c.in-Ok.field-0.tree c.args.levels
    (of_both c.args.node.left c.args.node.right) c.args.seat.now c.change_below.new.seat
    c.mend_left.new.seat (λ x. refl) c.requires.owned c.in-Ok.ensures.keeps _
    c.in_ok-tree-in-Ok.ensures.keeps

pub change_left-returns-in-Err-clause-keeps : goal.change_left-returns-in-Err-clause-keeps
change_left-returns-in-Err-clause-keeps t c =
    side_refused c.args.node.left c.args.node.right c.args.node.right c.args.levels
    (of_both c.args.node.left c.args.node.right) c.args.seat.now c.change_below.new.seat
    c.give_up.new.seat (λ x. refl) c.requires.owned c.in-Err.ensures.keeps
    c.give_up.ensures.keeps

pub change_left-returns-in-Err-clause-why : goal.change_left-returns-in-Err-clause-why
change_left-returns-in-Err-clause-why t c =
    refusal_on c.args.domain.now c.in-Err.error c.args.node.left c.args.levels _ none
    c.args.seat.now c.change_below.new.seat c.give_up.new.seat c.give_up.ensures.keeps
    c.in-Err.ensures.why

pub change_right-change_below-requires : goal.change_right-change_below-requires
change_right-change_below-requires t c =
    let d = c.decreases in (
      omega (arith, d),
      (
        c.requires.ready,
        (
          (λ x. let o = c.requires.owned x in omega (arith, o)),
          c.requires.trees.1,
        ),
      ),
    )

pub change_right-mend_right-requires-clause-trees :
    goal.change_right-mend_right-requires-clause-trees
change_right-mend_right-requires-clause-trees t c = (
  c.in-Ok.ensures.changed.stands.tree,
  beside_tree c.args.node.right c.args.node.left c.in-Ok.field-0.tree _ _ c.args.seat.now
      c.change_below.new.seat
      (owns_turned c.args.node.left c.args.node.right c.args.seat.now c.requires.owned)
      c.in-Ok.ensures.keeps c.requires.trees.0,
)

pub change_right-returns-in_err-tree-in-Ok-clause-keeps :
    goal.change_right-returns-in_err-tree-in-Ok-clause-keeps
change_right-returns-in_err-tree-in-Ok-clause-keeps t c =
    let p = err_from_is_err_and c.from_residual.result c.from_residual.ensures.1 in
    rw p.1 (side_keeps c.args.node.right c.args.node.left c.in-Ok.field-0.tree c.args.levels
    (of_both c.args.node.left c.args.node.right) c.args.seat.now c.change_below.new.seat
    c.mend_right.new.seat (same_turned c.args.node.left c.args.node.right)
    (owns_turned c.args.node.left c.args.node.right c.args.seat.now c.requires.owned)
    c.in-Ok.ensures.keeps none c.in_err-tree-in-Ok.ensures.keeps)

pub change_right-returns-in_ok-tree-in-Ok-clause-changed :
    goal.change_right-returns-in_ok-tree-in-Ok-clause-changed
change_right-returns-in_ok-tree-in-Ok-clause-changed t c =
    right_changed c.args.node.right c.args.node.left c.in-Ok.field-0.tree _ _ c.args.seat.now
    c.change_below.new.seat c.mend_right.new.seat
    (owns_turned c.args.node.left c.args.node.right c.args.seat.now c.requires.owned)
    c.in-Ok.ensures.keeps c.in_ok-tree-in-Ok.ensures.keeps.grows c.in_ok-tree-in-Ok.tree
    c.args.node.key c.args.node.value c.args.key c.args.change c.in-Ok.field-0.answer
    c.in-Ok.ensures.changed c.requires.greater c.in_ok-tree-in-Ok.ensures.mended

pub change_right-returns-in_ok-tree-in-Ok-clause-keeps :
    goal.change_right-returns-in_ok-tree-in-Ok-clause-keeps
change_right-returns-in_ok-tree-in-Ok-clause-keeps t c =
    side_keeps c.args.node.right c.args.node.left c.in-Ok.field-0.tree c.args.levels
    (of_both c.args.node.left c.args.node.right) c.args.seat.now c.change_below.new.seat
    c.mend_right.new.seat (same_turned c.args.node.left c.args.node.right)
    (owns_turned c.args.node.left c.args.node.right c.args.seat.now c.requires.owned)
    c.in-Ok.ensures.keeps _ c.in_ok-tree-in-Ok.ensures.keeps

pub change_right-returns-in-Err-clause-keeps : goal.change_right-returns-in-Err-clause-keeps
change_right-returns-in-Err-clause-keeps t c =
    side_refused c.args.node.right c.args.node.left c.args.node.left c.args.levels
    (of_both c.args.node.left c.args.node.right) c.args.seat.now c.change_below.new.seat
    c.give_up.new.seat (same_turned c.args.node.left c.args.node.right)
    (owns_turned c.args.node.left c.args.node.right c.args.seat.now c.requires.owned)
    c.in-Err.ensures.keeps c.give_up.ensures.keeps

pub change_right-returns-in-Err-clause-why : goal.change_right-returns-in-Err-clause-why
change_right-returns-in-Err-clause-why t c =
    refusal_on c.args.domain.now c.in-Err.error c.args.node.right c.args.levels _ none
    c.args.seat.now c.change_below.new.seat c.give_up.new.seat c.give_up.ensures.keeps
    c.in-Err.ensures.why
