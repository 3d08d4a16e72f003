use Rattle.std.proofs.Common.{arith, refl, subst, sym, ◌≡◌, ◌+◌, ◌∙◌}
use Rattle.std.specs.Prelude.{Option}
use Rattle.slot_store.specs.core_events.Counts.{one}
use Rattle.slot_store.specs.counted_handles.Handles.{Handle}
use Rattle.version_making.specs.Keeping.{of_both, of_handle}
use Rattle.version_making.specs.Standing.{IsTree}
use Rattle.version_making.proofs.Joined.{join_keeps, join_left, join_plain, join_right, trees_both}
use Rattle.version_making.proofs.joining.join.Goals as goal

pub lean_left-requires-clause-trees : goal.lean_left-requires-clause-trees
lean_left-requires-clause-trees c =
    let t = trees_both c.args.left c.args.right c.args.seat.now c.height_at-high.new.seat
    c.height_at-low.new.seat c.requires.owned c.height_at-high.ensures.keeps
    c.height_at-low.ensures.keeps c.requires.trees in
    (subst (λ (k : Option Handle). IsTree k c.height_at-low.new.seat) c.in-Some.is t.0, t.1)

pub returns-then-outgrows-clause-keeps : goal.returns-then-outgrows-clause-keeps
returns-then-outgrows-clause-keeps c =
    join_keeps c.args.left c.args.right c.args.seat.now c.height_at-high.new.seat
    c.height_at-low.new.seat c.requires.owned c.height_at-high.ensures.keeps
    c.height_at-low.ensures.keeps 3 7 c.lean_left.result c.lean_left.new.seat
    (λ x. one x c.in-Some.node.slot + of_handle c.args.right x) (omega arith) (omega arith)
    (λ x. let e = subst (λ (k : Option Handle). of_handle k x ≡ one x c.in-Some.node.slot)
    (sym c.in-Some.is) refl in omega (arith, e)) c.lean_left.ensures.keeps

pub returns-then-outgrows-clause-joined : goal.returns-then-outgrows-clause-joined
returns-then-outgrows-clause-joined c =
    join_left c.args.left c.args.right c.args.seat.now c.height_at-high.new.seat
    c.height_at-low.new.seat c.requires.owned c.height_at-high.ensures.keeps
    c.height_at-low.ensures.keeps c.height_at-high.result c.height_at-low.result c.height_at-high.ensures.height
    c.height_at-low.ensures.height c.args.key c.args.value c.lean_left.result c.lean_left.new.seat
    (returns-then-outgrows-clause-keeps c) (sym c.outgrows.ensures ∙ c.if-outgrows.true)
    c.in-Some.node c.in-Some.is c.lean_left.ensures.tilted

pub lean_right-requires-clause-trees : goal.lean_right-requires-clause-trees
lean_right-requires-clause-trees c =
    let t = trees_both c.args.left c.args.right c.args.seat.now c.height_at-high.new.seat
    c.height_at-low.new.seat c.requires.owned c.height_at-high.ensures.keeps
    c.height_at-low.ensures.keeps c.requires.trees in
    (subst (λ (k : Option Handle). IsTree k c.height_at-low.new.seat) c.in-Some-right.is t.1, t.0)

pub returns-then-outgrows-2-clause-keeps : goal.returns-then-outgrows-2-clause-keeps
returns-then-outgrows-2-clause-keeps c =
    join_keeps c.args.left c.args.right c.args.seat.now c.height_at-high.new.seat
    c.height_at-low.new.seat c.requires.owned c.height_at-high.ensures.keeps
    c.height_at-low.ensures.keeps 3 7 c.lean_right.result c.lean_right.new.seat
    (λ x. one x c.in-Some-right.node.slot + of_handle c.args.left x) (omega arith) (omega arith)
    (λ x. let e = subst (λ (k : Option Handle). of_handle k x ≡ one x c.in-Some-right.node.slot)
    (sym c.in-Some-right.is) refl in omega (arith, e)) c.lean_right.ensures.keeps

pub returns-then-outgrows-2-clause-joined : goal.returns-then-outgrows-2-clause-joined
returns-then-outgrows-2-clause-joined c =
    join_right c.args.left c.args.right c.args.seat.now c.height_at-high.new.seat
    c.height_at-low.new.seat c.requires.owned c.height_at-high.ensures.keeps
    c.height_at-low.ensures.keeps c.height_at-high.result c.height_at-low.result c.height_at-high.ensures.height
    c.height_at-low.ensures.height c.args.key c.args.value c.lean_right.result c.lean_right.new.seat
    (returns-then-outgrows-2-clause-keeps c) (sym c.outgrows.ensures ∙ c.if-outgrows.false)
    (sym c.outgrows-2.ensures ∙ c.if-outgrows-2.true) c.in-Some-right.node c.in-Some-right.is
    c.lean_right.ensures.tilted

pub put_together-requires-clause-trees : goal.put_together-requires-clause-trees
put_together-requires-clause-trees c =
    trees_both c.args.left c.args.right c.args.seat.now c.height_at-high.new.seat
    c.height_at-low.new.seat c.requires.owned c.height_at-high.ensures.keeps
    c.height_at-low.ensures.keeps c.requires.trees

pub returns-clause-keeps : goal.returns-clause-keeps
returns-clause-keeps c =
    join_keeps c.args.left c.args.right c.args.seat.now c.height_at-high.new.seat
    c.height_at-low.new.seat c.requires.owned c.height_at-high.ensures.keeps
    c.height_at-low.ensures.keeps 1 1 c.put_together.result c.put_together.new.seat
    (of_both c.args.left c.args.right) (omega arith) (omega arith) (λ x. refl)
    c.put_together.ensures.keeps

pub returns-clause-joined : goal.returns-clause-joined
returns-clause-joined c =
    join_plain c.args.left c.args.right c.args.seat.now c.height_at-high.new.seat
    c.height_at-low.new.seat c.requires.owned c.height_at-high.ensures.keeps
    c.height_at-low.ensures.keeps c.height_at-high.result c.height_at-low.result c.height_at-high.ensures.height
    c.height_at-low.ensures.height c.args.key c.args.value c.put_together.result c.put_together.new.seat (returns-clause-keeps c)
    (sym c.outgrows.ensures ∙ c.if-outgrows.false)
    (sym c.outgrows-2.ensures ∙ c.if-outgrows-2.false) c.put_together.ensures.put
