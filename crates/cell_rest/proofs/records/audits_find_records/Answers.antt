use Rattle.cell_rest.proofs.Left.{finds_nothing, finds_records}
use Rattle.cell_rest.proofs.records.audits_find_records.Goals as goal

pub returns : goal.returns
returns c = record { held = finds_records; freed = finds_nothing }
