use Rattle.record_counts.proofs.Living.{all_reached, none_cyclic}
use Rattle.record_counts.proofs.held.what_is_held_is_reached.Goals as goal

pub returns : goal.returns
returns c = record {
  all = all_reached;
  audited = λ z p views lawful law holds weight ranks found is.
      none_cyclic z p views lawful law holds found.cyclic is.cyclic;
}
