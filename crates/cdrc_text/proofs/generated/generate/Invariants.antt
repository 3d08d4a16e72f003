use Rattle.std.proofs.Common.{◌≡◌}
use Rattle.std.specs.List.{flat_map, range_with_len}
use Rattle.cdrc_text.specs.Generated.{draw, drawn_part}
use Rattle.cdrc_text.proofs.generated.generate.Given as goal

-- the words before are written, and this is the number that the last draw gave
abbrev pub invariant-loop-before : goal.invariant-loop-before
invariant-loop-before l = record {
  drawn : l.drawn ≡ draw l.seed l.before;
  written : l.text.items ≡ flat_map (drawn_part l.seed l.words l.vocabulary) (range_with_len 1 l.before);
}
