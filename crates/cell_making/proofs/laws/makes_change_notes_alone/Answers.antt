use Rattle.cell_making.proofs.Heads.{made_notes, notes_saw}
use Rattle.cell_making.proofs.laws.makes_change_notes_alone.Goals as goal

pub returns-clause-notes : goal.returns-clause-notes
returns-clause-notes c = made_notes

pub returns-clause-sights : goal.returns-clause-sights
returns-clause-sights c = notes_saw
