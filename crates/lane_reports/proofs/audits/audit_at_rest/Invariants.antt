use Rattle.std.proofs.Common.{◌≡◌}
use Rattle.domain_audit.specs.core_events.Steps.{HasRoom}
use Rattle.domain_audit.specs.acquire_retire.Collecting.{rest_of}
use Rattle.domain_audit.specs.control_word.Resting.{IsAtRest}
use Rattle.domain_audit.specs.domain_rule.Views.{IsAlone}
use Rattle.lane_reports.specs.Audits.{KnowsOwned}
use Rattle.lane_reports.specs.Trails.{GoesOnAlone}
use Rattle.lane_reports.proofs.audits.audit_at_rest.Given as goal

abbrev pub invariant-loop-try : goal.invariant-loop-try
invariant-loop-try g l = record {
  rest : IsAtRest l.domain l.root;
  room : HasRoom l.root.view.core;
  alone : IsAlone l.root.view;
  same : rest_of l.root.view.core ≡ rest_of l.fn.root.view.core;
  objects : KnowsOwned l.fn.root l.root;
  client : l.root.view.client ≡ l.fn.root.view.client;
  trail : GoesOnAlone l.fn.root.view.core l.root.view.core;
}
