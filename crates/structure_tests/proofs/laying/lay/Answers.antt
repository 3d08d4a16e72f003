use Rattle.std.proofs.Common.{◌≡◌, ap}
use Rattle.part_calls.specs.core_events.declared.view.CoreView.{CoreView}
use Rattle.hand_queues.specs.queue_law.declared.view.View.{View as QueueView}
use Rattle.structure_tests.specs.Ready.{IsReady}
use Rattle.structure_tests.proofs.Enclosed.{then_ok}
use Rattle.structure_tests.proofs.Kept.{free_as, left_notes}
use Rattle.structure_tests.proofs.laying.lay.Goals as goal

pub returns-clause-ready : goal.returns-clause-ready
returns-clause-ready c =
    then_ok _ (λ queue. IsReady c.args.domain.now c.lay.new.seat) c.lay.result
    (λ queue attached. record {
      free = free_as c.args.domain.now c.args.root.now c.lay.new.seat c.requires.new.free
          (left_notes c.args.root.now c.lay.new.seat c.args.root.now.view.core.owned
          c.lay.ensures.leaves)
          c.lay.ensures.room c.lay.ensures.rest;
      attached = attached;
    })
    c.lay.ensures.attached

pub returns-clause-laid : goal.returns-clause-laid
returns-clause-laid c =
    then_ok _ (λ queue. c.lay.new.seat.view.client.0.stand.laid ≡ 2) c.lay.result
    (λ queue deeds. ap (λ (v : QueueView). v.stand.laid) deeds) c.lay.ensures.laid

pub returns-clause-same : goal.returns-clause-same
returns-clause-same c = ap (λ (v : CoreView). v.seat) c.lay.ensures.leaves.same
