use Rattle.cell_law.proofs.promises.a_found_record_is_the_text.Goals as goal
use Rattle.cell_law.proofs.Gives.{seen_record}

pub returns : goal.returns
returns c = seen_record
