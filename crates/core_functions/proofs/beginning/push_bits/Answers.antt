use Rattle.core_functions.proofs.FirstWords.{bits_more}
use Rattle.core_functions.proofs.beginning.push_bits.Goals as goal

pub loop-at-preserved : goal.loop-at-preserved
loop-at-preserved c =
    bits_more _ _ _ _ _ _ c.in_ok-push.ensures.items c.full_bits.ensures c.loop-at.invariant
