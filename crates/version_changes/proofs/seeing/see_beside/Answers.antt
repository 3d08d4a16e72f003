use Rattle.std.proofs.Common.{arith, subst, sym, suc, ◌<◌, ◌≤◌, ◌∙◌}
use Rattle.std.specs.Prelude.{Option, Some}
use Rattle.map_law.specs.plain_state.Lists.{times}
use Rattle.map_trees.proofs.Joins.{le_of}
use Rattle.slot_store.specs.counted_handles.Handles.{Handle}
use Rattle.version_making.specs.Building.{height_by}
use Rattle.version_making.specs.Keeping.{of_handle}
use Rattle.version_making.specs.Standing.{IsTree}
use Rattle.version_making.proofs.Own.{handle_owned}
use Rattle.version_changes.specs.Showing.{IsSeen}
use Rattle.version_changes.proofs.Results.{if_ok}
use Rattle.version_changes.proofs.Seen.{beside_keeps, beside_later, beside_plain, beside_seen, height_beside, owned_later}
use Rattle.version_changes.proofs.seeing.see_beside.Goals as goal

pub see_top-requires-clause-owned : goal.see_top-requires-clause-owned
see_top-requires-clause-owned c =
    handle_owned c.in-Some.node.slot c.height_at-high.new.seat
    (λ x. subst (λ (k : Option Handle). of_handle k x
    ≤ times x c.height_at-high.new.seat.view.core.owned) c.in-Some.is
    (owned_later c.args.changed.now c.args.beside.now c.args.seat.now c.height_at-low.new.seat
    c.height_at-high.new.seat c.requires.owned c.height_at-low.ensures.keeps
    c.height_at-high.ensures.keeps x))

pub see_top-requires-clause-solid : goal.see_top-requires-clause-solid
see_top-requires-clause-solid c =
    subst (λ (k : Option Handle). IsTree k c.height_at-high.new.seat) c.in-Some.is
    (beside_later c.args.changed.now c.args.beside.now c.args.seat.now c.height_at-low.new.seat
    c.height_at-high.new.seat c.requires.owned c.height_at-low.ensures.keeps
    c.height_at-high.ensures.keeps c.requires.tree)

pub returns-in-Some-clause-seen : goal.returns-in-Some-clause-seen
returns-in-Some-clause-seen c =
    if_ok c.see_top.result
    (λ x. IsSeen (Some c.in-Some.node) c.height_at-high.new.seat c.see_top.new.seat)
    (λ x. suc (height_by c.args.changed.now c.args.seat.now)
    < height_by c.args.beside.now c.args.seat.now
    → IsSeen c.args.beside.now c.args.seat.now c.see_top.new.seat)
    (λ x seen higher. beside_seen c.args.changed.now c.args.beside.now c.args.seat.now
    c.height_at-low.new.seat c.height_at-high.new.seat c.requires.owned
    c.height_at-low.ensures.keeps c.height_at-high.ensures.keeps c.see_top.new.seat
    (subst (λ (k : Option Handle). IsSeen k c.height_at-high.new.seat c.see_top.new.seat)
    (sym c.in-Some.is) seen)) c.see_top.ensures.seen

pub returns-in-Some-clause-keeps : goal.returns-in-Some-clause-keeps
returns-in-Some-clause-keeps c =
    beside_keeps c.args.changed.now c.args.beside.now c.args.seat.now c.height_at-low.new.seat
    c.height_at-high.new.seat c.requires.owned c.height_at-low.ensures.keeps
    c.height_at-high.ensures.keeps c.see_top.new.seat c.see_top.ensures.keeps

pub returns-in_default-clause-seen : goal.returns-in_default-clause-seen
returns-in_default-clause-seen c = λ higher.
    let flat = le_of (suc c.height_at-low.result) c.height_at-high.result
    (sym c.outgrows.ensures ∙ c.if-outgrows.false) in
    let low = c.height_at-low.ensures.height in
    let high = c.height_at-high.ensures.height in
    let same = height_beside c.args.changed.now c.args.beside.now c.args.seat.now
    c.height_at-low.new.seat c.height_at-high.new.seat c.requires.owned
    c.height_at-low.ensures.keeps c.height_at-high.ensures.keeps in
    absurd (omega (arith, higher, flat, low, high, same))

pub returns-in_default-clause-keeps : goal.returns-in_default-clause-keeps
returns-in_default-clause-keeps c =
    beside_plain c.args.changed.now c.args.beside.now c.args.seat.now c.height_at-low.new.seat
    c.height_at-high.new.seat c.requires.owned c.height_at-low.ensures.keeps
    c.height_at-high.ensures.keeps

pub returns-in_default-2-clause-keeps : goal.returns-in_default-2-clause-keeps
returns-in_default-2-clause-keeps c =
    beside_plain c.args.changed.now c.args.beside.now c.args.seat.now c.height_at-low.new.seat
    c.height_at-high.new.seat c.requires.owned c.height_at-low.ensures.keeps
    c.height_at-high.ensures.keeps
