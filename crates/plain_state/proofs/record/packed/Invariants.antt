use Rattle.std.proofs.Common.{◌≡◌, ◌≤◌, ◌<◌, ◌^◌, ◌-◌, length, drop}
use Rattle.plain_state.specs.Records.{word_of_bytes}
use Rattle.plain_state.proofs.record.packed.Given as goal

abbrev pub invariant-loop-rest : goal.invariant-loop-rest
invariant-loop-rest l = record {
  within : l.rest ≤ length l.bytes;
  word : l.word ≡ word_of_bytes (drop l.rest l.bytes);
  fits : l.word < 256 ^ (length l.bytes - l.rest);
}

abbrev pub decreases-loop-rest : goal.decreases-loop-rest
decreases-loop-rest l = l.rest
