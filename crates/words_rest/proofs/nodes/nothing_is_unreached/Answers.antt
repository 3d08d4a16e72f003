use Rattle.words_rest.proofs.Living.{all_reached, none_deferred}
use Rattle.words_rest.proofs.nodes.nothing_is_unreached.Goals as goal

pub returns : goal.returns
returns c = record {
  all = λ u z p views meets fit left none.
      all_reached z p views meets.lawful meets.law.both.1 fit left none;
  deferred = none_deferred;
}
