use Rattle.epoch_settling.proofs.Staying.{SettlesSoFar}
use Rattle.epoch_settling.proofs.settling.settle_epochs.Given as goal

abbrev pub invariant-loop-flush : goal.invariant-loop-flush
invariant-loop-flush g l =
    SettlesSoFar g.P.Kind.PayloadKind.fits l.domain g.P.Kind.PayloadKind.weight l.weight
    l.initial.seat l.seat × (goal.iterator-loop-flush g).can_next l._flush-iterator
