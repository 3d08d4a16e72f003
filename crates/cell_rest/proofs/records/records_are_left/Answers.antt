use Rattle.cell_rest.proofs.Left.{all_reached, bytes_left, slots_left}
use Rattle.cell_rest.proofs.records.records_are_left.Goals as goal

pub returns : goal.returns
returns c = record { slots = slots_left; bytes = bytes_left; reached = all_reached }
