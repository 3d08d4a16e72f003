use Rattle.std.proofs.Common.{◌≡◌, ◌<◌, ◌+◌, ℕ, length}
use Rattle.std.specs.Prelude.{slice_index}
use Rattle.plain_state.specs.Records.{word_of_bytes, eight_bytes}
use Rattle.plain_state.proofs.record.record_of.Given as goal

abbrev pub invariant-loop-k : goal.invariant-loop-k
invariant-loop-k l = record {
  words : length l.payload ≡ 16;
  size : slice_index l.payload 0 ≡ length l.text;
  bytes : (j : ℕ) → j < l.k → slice_index l.payload (j + 1) ≡ word_of_bytes (eight_bytes l.text j);
}
