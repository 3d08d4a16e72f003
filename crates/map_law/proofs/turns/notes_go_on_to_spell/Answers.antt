use Rattle.map_law.proofs.turns.notes_go_on_to_spell.Goals as goal
use Rattle.map_law.proofs.Growing.{spells_more, spells_frozen}

pub returns-clause-more : goal.returns-clause-more
returns-clause-more c = spells_more

pub returns-clause-frozen : goal.returns-clause-frozen
returns-clause-frozen c = spells_frozen
