use Rattle.watch_law.proofs.laws.others_keep_the_law.Goals as goal
use Rattle.watch_law.proofs.Start.{watch_start}
use Rattle.watch_law.proofs.Quiet.{watch_calm, watch_foreign}
use Rattle.watch_law.proofs.Leave.{watch_leave}

pub returns : goal.returns
returns c = record {
  start = watch_start;
  calm = watch_calm;
  foreign = watch_foreign;
  leave = watch_leave;
}
