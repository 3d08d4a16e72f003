use Rattle.std.proofs.Common.{subst, sym, ◌≤◌}
use Rattle.std.specs.Prelude.{Option}
use Rattle.map_law.specs.plain_state.Lists.{times}
use Rattle.slot_store.specs.counted_handles.Handles.{Handle}
use Rattle.version_making.specs.Keeping.{Keeps, none, of_handle}
use Rattle.version_making.specs.Standing.{IsTree}
use Rattle.version_making.proofs.Own.{handle_owned}
use Rattle.version_changes.specs.Showing.{IsRead}
use Rattle.version_changes.proofs.Seen.{root_keeps, root_read}
use Rattle.version_changes.proofs.seeing.see_root.Goals as goal

pub take_apart-requires-clause-owned : goal.take_apart-requires-clause-owned
take_apart-requires-clause-owned c =
    handle_owned c.in-Some.node.slot c.args.seat.now
    (λ x. subst (λ (k : Option Handle). of_handle k x ≤ times x c.args.seat.now.view.core.owned)
    c.in-Some.is (c.requires.owned x))

pub returns-clause-read : goal.returns-clause-read
returns-clause-read c =
    subst (λ (k : Option Handle). IsRead k c.args.seat.now c.give_up-2.new.seat) (sym c.in-Some.is)
    (root_read c.in-Some.node c.in_ok-opened.opened.left c.in_ok-opened.opened.right c.args.seat.now
    c.take_apart.new.seat c.give_up.new.seat c.give_up-2.new.seat c.in_ok-opened.ensures.keeps
    c.give_up.ensures.keeps c.give_up-2.ensures.keeps c.in_ok-opened.opened.key
    c.in_ok-opened.opened.value c.in_ok-opened.opened.height
    (subst (λ (k : Option Handle). IsTree k c.args.seat.now) c.in-Some.is c.requires.tree)
    c.in_ok-opened.ensures.taken)

pub returns-clause-keeps : goal.returns-clause-keeps
returns-clause-keeps c =
    subst (λ (k : Option Handle). Keeps 0 2 (of_handle k) none c.args.seat.now c.give_up-2.new.seat)
    (sym c.in-Some.is)
    (root_keeps c.in-Some.node c.in_ok-opened.opened.left c.in_ok-opened.opened.right
    c.args.seat.now c.take_apart.new.seat c.give_up.new.seat c.give_up-2.new.seat
    c.in_ok-opened.ensures.keeps c.give_up.ensures.keeps c.give_up-2.ensures.keeps)
