use Rattle.directory_law.proofs.Gives.{set_cell}
use Rattle.directory_law.proofs.promises.set_cells_have_texts.Goals as goal

pub returns : goal.returns
returns c = set_cell
