use Rattle.lane_domain.specs.directory_calls.Learning.{LearnsIn}
use Rattle.lane_domain.specs.directory_calls.Steps.{Leaves}
use Rattle.lane_reports.specs.Holders.{IsRoot, texts, with_texts}
use Rattle.lane_reports.proofs.records.find_record.Given as goal

abbrev pub invariant-loop : goal.invariant-loop
invariant-loop g l =
    (goal.iterator-loop g).can_next l.iterator' × (goal.iterator-loop g).is_finite l.iterator'
    × IsRoot l.domain l.shared l.root
    × Leaves l.fn.root.view.core.owned l.fn.root.view.core.weaks l.fn.root l.root
    × LearnsIn texts with_texts 0 l.fn.root.view.client l.root.view.client
