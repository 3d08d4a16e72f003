use Rattle.epoch_settling.proofs.Staying.{one_flushed}
use Rattle.epoch_settling.proofs.settling.settle_epochs.Goals as goal

pub loop-flush-preserved : goal.loop-flush-preserved
loop-flush-preserved g c = (
  one_flushed _ c.args.domain.now _ c.loop-flush.weight c.saturating_add-weight.result
      c.in_ok-work.work c.args.seat.now c.loop-flush.seat c.flush.new.seat c.loop-flush.invariant.0
      c.in_ok-work.ensures.flushed c.in_ok-work.ensures.rest
      c.saturating_add-weight.ensures,
  tt,
)
