use Rattle.std.specs.Io.KnownBytes.{Keeps}
use Rattle.lane_gate.proofs.host_sink.write_front.Given as goal

abbrev pub invariant-loop : goal.invariant-loop
invariant-loop g l = Keeps (g.W.Write.contents l.initial.output) (g.W.Write.contents l.output)
