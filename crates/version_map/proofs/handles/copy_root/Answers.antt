use Rattle.std.proofs.Common.{subst, ◌≤◌}
use Rattle.version_making.specs.map_law.plain_state.Lists.{times}
use Rattle.version_making.specs.Keeping.{of_handle}
use Rattle.version_making.proofs.Own.{handle_owned}
use Rattle.version_map.proofs.handles.copy_root.Goals as goal

pub copy_node-requires-clause-owned : goal.copy_node-requires-clause-owned
copy_node-requires-clause-owned c =
    handle_owned c.in-Some.node.slot c.args.seat.now
    (λ x. subst (λ k. of_handle k x ≤ times x c.args.seat.now.view.core.owned) c.in-Some.is
    (c.requires.owned x))
