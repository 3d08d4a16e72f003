use Rattle.std.proofs.Common.{◌+◌, ◌-◌, ◌≤◌}
use Rattle.lane_gate.specs.Streams.{Moved}
use Rattle.lane_gate.proofs.stream.fill.Given as goal

abbrev pub invariant-loop-got : goal.invariant-loop-got
invariant-loop-got g l = record {
  within : l.got ≤ l.limit + 1;
  moved : Moved l.got (g.S.Source.left l.initial.source) (g.S.Source.left l.source)
      l.initial.out.items l.out.items;
  faults : g.S.Source.faults l.initial.source ≤ g.S.Source.faults l.source;
}

abbrev pub decreases-loop-got : goal.decreases-loop-got
decreases-loop-got g l = l.limit + 1 - l.got
