use Rattle.words_rest.proofs.Summed.{bytes_told, slots_told}
use Rattle.words_rest.proofs.records.records_are_left.Goals as goal

pub returns : goal.returns
returns c = record {
  slots = λ u z p views meets fit left none.
      slots_told z p views meets.lawful meets.law.both.1 left fit none;
  bytes = λ u z p views meets fit left none.
      bytes_told z p views meets.lawful meets.law.both.1 left fit none;
}
