use Rattle.std.proofs.Common.{◌≡◌, drop}
use Rattle.lane_gate.specs.Contents.{content_of, entries_of}
use Rattle.lane_gate.proofs.contents.find.Given as goal

abbrev pub invariant-loop-entry : goal.invariant-loop-entry
invariant-loop-entry l =
    content_of (entries_of (drop l.entry-index l.entries)) l.name
    ≡ content_of (entries_of l.entries) l.name
