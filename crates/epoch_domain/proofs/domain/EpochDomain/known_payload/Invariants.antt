use Rattle.std.proofs.Common.{◌≡◌, ℕ, ◌+◌, ◌<◌, length, get_or}
use Rattle.epoch_domain.specs.Wholes.{IsSame, known_word}
use Rattle.epoch_domain.proofs.domain.EpochDomain.known_payload.Given as goal

abbrev pub invariant-loop-i : goal.invariant-loop-i
invariant-loop-i g l = record {
  same : IsSame l.fn.seat l.seat;
  size : length l.payload ≡ 16;
  words : (k : ℕ) → k < l.i → get_or l.payload k 0 ≡ known_word l.fn.seat (l.first + k);
}
