use Rattle.std.proofs.Common.{◌≡◌, ℕ, ◌+◌, rules}
use Rattle.epoch_domain.specs.Wholes.{known_word}
use Rattle.epoch_domain.proofs.Images.{one_each}
use Rattle.epoch_domain.proofs.domain.EpochDomain.known_cells.Goals as goal

pub loop-i-preserved : goal.loop-i-preserved
loop-i-preserved g c =
    let f : ℕ → ℕ = λ i. known_word c.args.seat.now (c.args.first + i) in
    let is : c.known_word.result ≡ f c.loop-i.i = cc in
    record {
      same = search rules;
      words = one_each f _ _ _ _ c.push_reserved.ensures.items c.loop-i.invariant.words is;
      count = search rules;
      capacity = search rules;
    }
