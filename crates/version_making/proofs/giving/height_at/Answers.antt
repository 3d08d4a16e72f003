use Rattle.std.proofs.Common.{arith, subst, sym, ◌≤◌, ◌<◌}
use Rattle.map_law.specs.plain_state.Lists.{times}
use Rattle.version_making.specs.Keeping.{of_handle}
use Rattle.version_making.proofs.Own.{handle_owned}
use Rattle.version_making.proofs.giving.height_at.Goals as goal

pub read-requires-clause-holds : goal.read-requires-clause-holds
read-requires-clause-holds c =
    let o = subst (λ s. 0 < times s c.args.seat.now.view.core.owned) (sym c.slot.ensures)
    (handle_owned c.in-Some.node.slot c.args.seat.now
    (λ x. subst (λ k. of_handle k x ≤ times x c.args.seat.now.view.core.owned) c.in-Some.is
    (c.requires.owned x))) in
    omega (arith, o)
