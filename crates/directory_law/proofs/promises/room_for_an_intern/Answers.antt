use Rattle.directory_law.proofs.Gives.{never_full}
use Rattle.directory_law.proofs.promises.room_for_an_intern.Goals as goal

pub returns : goal.returns
returns c = never_full
