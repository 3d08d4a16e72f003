use Rattle.std.proofs.Common.{◌≡◌, ◌++◌}
use Rattle.domain_audit.specs.core_events.Steps.{HasRoom}
use Rattle.domain_audit.specs.control_word.Resting.{IsAtRest}
use Rattle.lane_domain.specs.lane_files.Keeping.{GivesUp, slots_of}
use Rattle.lane_reports.specs.Trails.{GoesOnAlone}
use Rattle.lane_reports.proofs.giving.give_all.Given as goal

abbrev pub invariant-loop-handle : goal.invariant-loop-handle
invariant-loop-handle l = record {
  all : l.yielded ++ l.handle-iterator.rest.items ≡ l.fn.kept.items;
  gives : GivesUp (slots_of l.yielded) l.fn.root l.root;
  client : l.root.view.client ≡ l.fn.root.view.client;
  trail : GoesOnAlone l.fn.root.view.core l.root.view.core;
  room : HasRoom l.root.view.core;
  rest : IsAtRest l.domain l.root;
}
