use Rattle.watch_law.proofs.promises.the_root_knows_all.Goals as goal
use Rattle.watch_law.proofs.Sent.{root_addressed, root_read, root_pushed}

pub returns : goal.returns
returns c = record { addressed = root_addressed; read = root_read; pushed = root_pushed }
