use Rattle.watch_law.proofs.laws.others_keep_the_joint_law.Goals as goal
use Rattle.watch_law.proofs.News.{news_start, news_calm, news_foreign, news_leave}

pub returns : goal.returns
returns c = record {
  start = news_start;
  calm = news_calm;
  foreign = news_foreign;
  leave = news_leave;
}
