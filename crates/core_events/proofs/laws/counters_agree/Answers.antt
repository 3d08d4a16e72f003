use Rattle.core_events.proofs.CounterSteps as step
use Rattle.core_events.proofs.laws.counters_agree.Goals as goal

pub returns : goal.returns
returns c = record {
  add = step.add_step;
  «sub» = step.sub_step;
  pay = step.pay_step;
  finish = step.finish_step;
  take = step.take_step;
  count = step.count_step;
  mark = step.mark_step;
}
