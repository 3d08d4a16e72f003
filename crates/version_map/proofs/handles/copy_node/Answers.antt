use Rattle.std.proofs.Common.{subst}
use Rattle.version_making.specs.map_law.plain_state.declared.slot.SlotId.{SlotId}
use Rattle.version_making.specs.slot_store.core_events.Counts.{one}
use Rattle.std.proofs.Common.{sym}
use Rattle.version_making.specs.Keeping.{Keeps, none}
use Rattle.version_map.proofs.Updates.{keeps_copied}
use Rattle.version_map.proofs.handles.copy_node.Goals as goal

pub returns-in-Ok-clause-keeps : goal.returns-in-Ok-clause-keeps
returns-in-Ok-clause-keeps c =
    subst (λ (s : SlotId). Keeps 0 1 none (λ x. one x s) c.args.seat.now c.copy_strong.new.seat)
    (sym c.in-Ok.ensures.copied.0)
    (keeps_copied c.args.domain.now c.args.node.now.slot c.args.seat.now c.copy_strong.new.seat
    c.in-Ok.ensures.copied.1 c.copy_strong.ensures.objects c.copy_strong.ensures.client)
