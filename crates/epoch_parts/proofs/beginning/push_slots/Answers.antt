use Rattle.epoch_parts.proofs.FirstWords.{one_more}
use Rattle.epoch_parts.proofs.beginning.push_slots.Goals as goal

pub loop-slot-preserved : goal.loop-slot-preserved
loop-slot-preserved c =
    one_more _ _ _ _ c.in_ok-extend_from_slice.ensures.items c.loop-slot.invariant
