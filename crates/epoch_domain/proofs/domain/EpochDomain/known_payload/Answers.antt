use Rattle.std.proofs.Common.{◌≡◌, ℕ, ◌+◌, ◌<◌, get_or, arith}
use Rattle.epoch_domain.specs.Wholes.{known_word}
use Rattle.epoch_domain.proofs.Images.{all_each}
use Rattle.epoch_domain.proofs.domain.EpochDomain.known_payload.Goals as goal

pub returns-clause-words : goal.returns-clause-words
returns-clause-words g c =
    let f : ℕ → ℕ = λ i. known_word c.args.seat.now (c.args.first + i) in
    let all = c.loop-i-test.false in
    let each : (k : ℕ) → k < 16 → get_or c.loop-i.payload k 0 ≡ f k =
    λ k h. c.loop-i.invariant.words k (omega arith) in
    all_each f 16 c.loop-i.payload c.loop-i.invariant.size each
