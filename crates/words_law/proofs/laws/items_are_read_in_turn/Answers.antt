use Rattle.words_law.proofs.Reading.{taken_popped, begun_reads_on}
use Rattle.words_law.proofs.laws.items_are_read_in_turn.Goals as goal

pub returns : goal.returns
returns c = record { taken = taken_popped; begun = begun_reads_on }
