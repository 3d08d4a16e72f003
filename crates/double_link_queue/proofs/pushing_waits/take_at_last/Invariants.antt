use Rattle.std.specs.Prelude.{◌≡◌}
use Rattle.weak_part_calls.specs.core_events.Steps.{HasRoom}
use Rattle.weak_part_calls.specs.control_word.Resting.{IsAtRest}
use Rattle.linked_queue.specs.queue_law.Pushes.{carried_item}
use Rattle.linked_queue.specs.queue_law.Views.{first_view}
use Rattle.weak_part_calls.specs.part_calls.Parts.{HasBeside, as_part, seen_by}
use Rattle.linked_queue.specs.Pushes.{HasLoad}
use Rattle.linked_queue.specs.Queues.{IsAttached}
use Rattle.linked_queue.proofs.Shortages.{HasTried}
use Rattle.double_link_queue.specs.Waits.{LosesAnyNode, TriesNothing}
use Rattle.double_link_queue.proofs.pushing_waits.take_at_last.Given as goal

abbrev pub invariant-loop-try : goal.invariant-loop-try
invariant-loop-try g l =
    IsAtRest l.domain l.seat × HasRoom l.seat.view.core
    × IsAttached (g.P.Part.seen l.seat.view.client)
    × HasLoad l.fn.node (seen_by g.P.Part.seen l.seat)
    × g.P.HasQueue.may_push l.domain.protocol l.seat.view.client
    (carried_item (g.P.Part.seen l.seat.view.client))
    × TriesNothing (seen_by g.P.Part.seen l.fn.seat) (seen_by g.P.Part.seen l.seat)
    × HasBeside g.P.Part.with_seen first_view l.fn.seat l.seat
    × (l.seat.view.core.makes ≡ l.fn.seat.view.core.makes)
    × HasTried (LosesAnyNode g.P.Kind.PayloadKind.fits (as_part g.P.Part.part l.domain))
    (seen_by g.P.Part.seen l.fn.seat) (seen_by g.P.Part.seen l.seat)
