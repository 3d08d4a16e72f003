use Rattle.words_rest.proofs.Living.{none_lives}
use Rattle.record_counts.proofs.Sums.{no_bytes, no_slots}
use Rattle.words_rest.proofs.records.nothing_is_left.Goals as goal

pub returns : goal.returns
returns c = record {
  none = λ u z p views meets fit left none.
      none_lives z p views meets.lawful meets.law.both.1 fit left none;
  slots = λ u z p views meets fit left none nothing. no_slots p
      (none_lives z p views meets.lawful meets.law.both.1 fit left none nothing);
  bytes = λ u z p views meets fit left none nothing weight. no_bytes p weight
      (none_lives z p views meets.lawful meets.law.both.1 fit left none nothing);
}
