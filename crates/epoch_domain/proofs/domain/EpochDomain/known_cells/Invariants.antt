use Rattle.std.proofs.Common.{◌≡◌, ◌+◌, ◌≤◌, vec_capacity, vec_len}
use Rattle.epoch_rule.specs.epoch_core.core_events.Words.{each_from}
use Rattle.epoch_domain.specs.Wholes.{IsSame, known_word}
use Rattle.epoch_domain.proofs.domain.EpochDomain.known_cells.Given as goal

abbrev pub invariant-loop-i : goal.invariant-loop-i
invariant-loop-i g l = record {
  same : IsSame l.fn.seat l.seat;
  words : l.words.items ≡ each_from 0 l.i (λ i. known_word l.fn.seat (l.first + i));
  count : vec_len l.words ≡ l.i;
  capacity : l.count ≤ vec_capacity l.words;
}
