use Rattle.std.proofs.Common.{◌≡◌, ◌<◌, ◌^◌, drop}
use Rattle.directory_law.specs.Places.{hash_on}
use Rattle.record_texts.proofs.texts.hash_of.Given as goal

abbrev pub invariant-loop-byte : goal.invariant-loop-byte
invariant-loop-byte l = record {
  same : hash_on l.hash (drop l.byte-index l.text) ≡ hash_on 0 l.text;
  small : l.hash < 2 ^ 32;
}
