use Rattle.record_counts.proofs.Living.{none_lives}
use Rattle.record_counts.proofs.Sums.{no_bytes, no_slots}
use Rattle.record_counts.proofs.held.nothing_is_held.Goals as goal

pub returns : goal.returns
returns c = record {
  none = none_lives;
  slots = no_slots;
  bytes = λ p none weight. no_bytes p weight none;
}
