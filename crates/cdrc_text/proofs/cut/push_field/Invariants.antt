use Rattle.std.proofs.Common.{◌≡◌, ◌++◌, ◌≤◌, length, map}
use Rattle.std.specs.List.{range_with_len}
use Rattle.cdrc_text.proofs.Cutting.{run_at}
use Rattle.cdrc_text.proofs.cut.push_field.Given as goal

-- the first runs stand behind what was there
abbrev pub invariant-loop-index : goal.invariant-loop-index
invariant-loop-index l = record {
  pushed : l.places.items ≡ l.initial.places.items ++ map (run_at l.first l.end) (range_with_len 0 l.index);
  room : length l.places.items ≤ l.limit;
}
