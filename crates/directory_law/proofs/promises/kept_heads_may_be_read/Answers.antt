use Rattle.directory_law.proofs.Gives.{law_begins}
use Rattle.directory_law.proofs.promises.kept_heads_may_be_read.Goals as goal

pub returns : goal.returns
returns c = law_begins
