use Rattle.record_counts.proofs.Summed.{bytes_told, slots_told}
use Rattle.record_counts.proofs.records.records_are_all_that_lives.Goals as goal

pub returns : goal.returns
returns c = record { slots = slots_told; bytes = bytes_told }
