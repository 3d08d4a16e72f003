use Rattle.std.proofs.Common.{subst, ◌≤◌}
use Rattle.map_law.specs.plain_state.Lists.{times}
use Rattle.version_making.specs.Keeping.{of_handle}
use Rattle.version_making.proofs.Own.{handle_owned}
use Rattle.version_making.proofs.building.set_if.Goals as goal

pub set_kid-requires-clause-owned : goal.set_kid-requires-clause-owned
set_kid-requires-clause-owned c =
    handle_owned c.in-Some.kid.slot c.args.seat.now
    (λ x. subst (λ k. of_handle k x ≤ times x c.args.seat.now.view.core.owned) c.in-Some.is
    (c.requires.owned x))
