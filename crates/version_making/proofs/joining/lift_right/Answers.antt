use Rattle.std.proofs.Common.{arith, refl, subst, sym, ◌≡◌, ◌+◌}
use Rattle.std.specs.Prelude.{Option}
use Rattle.slot_store.specs.core_events.Counts.{one}
use Rattle.slot_store.specs.counted_handles.Handles.{Handle}
use Rattle.version_making.specs.Keeping.{of_both, of_handle}
use Rattle.version_making.specs.Standing.{IsTree}
use Rattle.version_making.proofs.Lifted.{deep_right, lift_keeps, plain_right, trees_two}
use Rattle.version_making.proofs.joining.lift_right.Goals as goal

pub put_left-requires-clause-trees : goal.put_left-requires-clause-trees
put_left-requires-clause-trees c =
    let t = trees_two c.args.near c.args.far c.args.left c.args.seat.now
    c.height_at-outer.new.seat c.height_at-inner.new.seat c.requires.owned
    c.height_at-outer.ensures.keeps c.height_at-inner.ensures.keeps c.requires.trees in
    (t.2, t.1, t.0)

pub returns-then-inner-outer-clause-keeps : goal.returns-then-inner-outer-clause-keeps
returns-then-inner-outer-clause-keeps c =
    lift_keeps c.args.near c.args.far c.args.left c.args.seat.now
    c.height_at-outer.new.seat c.height_at-inner.new.seat c.requires.owned
    c.height_at-outer.ensures.keeps c.height_at-inner.ensures.keeps 2 2 c.put_left.result c.put_left.new.seat
    (λ x. of_both c.args.left c.args.far x + of_handle c.args.near x) (omega arith) (omega arith) (λ x. omega arith) c.put_left.ensures.keeps

pub returns-then-inner-outer-clause-tilted : goal.returns-then-inner-outer-clause-tilted
returns-then-inner-outer-clause-tilted c =
    plain_right c.args.near c.args.far c.args.left c.args.seat.now
    c.height_at-outer.new.seat c.height_at-inner.new.seat c.requires.owned
    c.height_at-outer.ensures.keeps c.height_at-inner.ensures.keeps
    c.height_at-outer.result c.height_at-inner.result c.height_at-outer.ensures.height
    c.height_at-inner.ensures.height c.put_left.new.seat c.args.item.key c.args.item.value
    c.args.top.key c.args.top.value c.put_left.result c.if-inner-outer.true
    (returns-then-inner-outer-clause-keeps c) c.put_left.ensures.put

pub turn-requires-clause-trees : goal.turn-requires-clause-trees
turn-requires-clause-trees c =
    let t = trees_two c.args.near c.args.far c.args.left c.args.seat.now
    c.height_at-outer.new.seat c.height_at-inner.new.seat c.requires.owned
    c.height_at-outer.ensures.keeps c.height_at-inner.ensures.keeps c.requires.trees in
    (t.2, subst (λ (k : Option Handle). IsTree k c.height_at-inner.new.seat) c.in-Some.is t.1, t.0)

pub returns-clause-keeps : goal.returns-clause-keeps
returns-clause-keeps c =
    lift_keeps c.args.near c.args.far c.args.left c.args.seat.now
    c.height_at-outer.new.seat c.height_at-inner.new.seat c.requires.owned
    c.height_at-outer.ensures.keeps c.height_at-inner.ensures.keeps 3 5 c.turn.result c.turn.new.seat
    (λ x. one x c.in-Some.mid.slot + of_both c.args.left c.args.near x) (omega arith) (omega arith)
    (λ x. let e = subst (λ (k : Option Handle). of_handle k x ≡ one x c.in-Some.mid.slot)
    (sym c.in-Some.is) refl in omega (arith, e)) c.turn.ensures.keeps

pub returns-clause-tilted : goal.returns-clause-tilted
returns-clause-tilted c =
    deep_right c.args.near c.args.far c.args.left c.args.seat.now
    c.height_at-outer.new.seat c.height_at-inner.new.seat c.requires.owned
    c.height_at-outer.ensures.keeps c.height_at-inner.ensures.keeps
    c.height_at-outer.result c.height_at-inner.result c.height_at-outer.ensures.height
    c.height_at-inner.ensures.height c.turn.new.seat c.args.item.key c.args.item.value
    c.args.top.key c.args.top.value c.turn.result (omega (arith, c.if-inner-outer.false))
    c.in-Some.mid c.in-Some.is c.turn.ensures.turned
