use Rattle.std.specs.Prelude.{◌≡◌}
use Rattle.slot_store.specs.core_events.Steps.{HasRoom}
use Rattle.slot_store.specs.control_word.Resting.{IsAtRest}
use Rattle.queue_protocol.specs.queue_law.Pushes.{carried_item}
use Rattle.queue_protocol.specs.queue_law.Views.{first_view}
use Rattle.part_calls.specs.Parts.{HasBeside, as_part, seen_by}
use Rattle.linked_queue.specs.Pushes.{HasLoad}
use Rattle.linked_queue.specs.Queues.{IsAttached}
use Rattle.linked_queue.specs.Waits.{LinksNothing, LosesAnyNode}
use Rattle.linked_queue.proofs.Shortages.{HasTried}
use Rattle.linked_queue.proofs.pushing_waits.link_at_last.Given as goal

abbrev pub invariant-loop-try : goal.invariant-loop-try
invariant-loop-try g l =
    IsAtRest l.domain l.seat × HasRoom l.seat.view.core
    × IsAttached (g.P.Part.seen l.seat.view.client)
    × HasLoad l.fn.node (seen_by g.P.Part.seen l.seat)
    × g.P.HasQueue.may_push l.domain.protocol l.seat.view.client
    (carried_item (g.P.Part.seen l.seat.view.client))
    × LinksNothing (seen_by g.P.Part.seen l.fn.seat) (seen_by g.P.Part.seen l.seat)
    × HasBeside g.P.Part.with_seen first_view l.fn.seat l.seat
    × (l.seat.view.core.makes ≡ l.fn.seat.view.core.makes)
    × HasTried (LosesAnyNode g.P.Kind.PayloadKind.fits (as_part g.P.Part.part l.domain))
    (seen_by g.P.Part.seen l.fn.seat) (seen_by g.P.Part.seen l.seat)
