use Rattle.std.proofs.Common.{subst, ◌≤◌}
use Rattle.map_law.specs.plain_state.Lists.{times}
use Rattle.version_making.specs.Keeping.{of_handle}
use Rattle.version_making.proofs.Dropped.{keeps_dropped}
use Rattle.version_making.proofs.Own.{handle_owned}
use Rattle.version_making.proofs.giving.give_up.Goals as goal

pub drop_strong-requires-clause-owned : goal.drop_strong-requires-clause-owned
drop_strong-requires-clause-owned c =
    handle_owned c.in-Some.node.slot c.args.seat.now
    (λ x. subst (λ k. of_handle k x ≤ times x c.args.seat.now.view.core.owned) c.in-Some.is
    (c.requires.owned x))

pub returns-in-Some-clause-keeps : goal.returns-in-Some-clause-keeps
returns-in-Some-clause-keeps c =
    rw c.in-Some.is
    (keeps_dropped c.args.domain.now c.in-Some.node.slot c.args.seat.now c.drop_strong.new.seat
    (handle_owned c.in-Some.node.slot c.args.seat.now
    (λ x. subst (λ k. of_handle k x ≤ times x c.args.seat.now.view.core.owned) c.in-Some.is
    (c.requires.owned x)))
    c.drop_strong.ensures.objects c.drop_strong.ensures.client c.drop_strong.ensures.dropped)
