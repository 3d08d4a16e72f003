use Rattle.cell_rest.proofs.KeptWords.{told_counted, told_open, told_refs}
use Rattle.cell_rest.proofs.kept.kept_references_count_files.Goals as goal

pub returns : goal.returns
returns c = record { counts = told_counted; refs = told_refs; bound = told_open }
