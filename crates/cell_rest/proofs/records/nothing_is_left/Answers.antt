use Rattle.cell_law.proofs.Rest.{nothing_lives}
use Rattle.record_counts.proofs.Sums.{no_bytes, no_slots}
use Rattle.cell_rest.proofs.Settled.{owned_none}
use Rattle.cell_rest.proofs.records.nothing_is_left.Goals as goal

pub returns : goal.returns
returns c = record {
  unowned = owned_none;
  none = nothing_lives;
  slots = λ z p views lawful law settled nothing.
      no_slots p (nothing_lives z p views lawful law settled nothing);
  bytes = λ z p views lawful law settled nothing weight.
      no_bytes p weight (nothing_lives z p views lawful law settled nothing);
}
