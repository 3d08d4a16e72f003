use Rattle.std.specs.Prelude.{◌≡◌, None}
use Rattle.weak_part_calls.specs.core_events.Steps.{HasRoom}
use Rattle.weak_part_calls.specs.control_word.Resting.{IsAtRest}
use Rattle.weak_part_calls.specs.part_calls.Parts.{StaysBeside, as_part, seen_by}
use Rattle.linked_queue.specs.Losses.{LosesAtHead}
use Rattle.linked_queue.specs.Pops.{Pops}
use Rattle.linked_queue.specs.Queues.{IsAttached}
use Rattle.linked_queue.proofs.Shortages.{HasTried}
use Rattle.double_link_queue.proofs.queue.DoubleQueue.pop.Given as goal

abbrev pub invariant-loop-try : goal.invariant-loop-try
invariant-loop-try g l =
    IsAtRest l.domain l.seat × HasRoom l.seat.view.core
    × IsAttached (g.P.Part.seen l.seat.view.client)
    × Pops None (seen_by g.P.Part.seen l.fn.seat) (seen_by g.P.Part.seen l.seat)
    × StaysBeside g.P.Part.seen g.P.Part.with_seen l.fn.seat l.seat
    × (l.seat.view.core.makes ≡ l.fn.seat.view.core.makes)
    × HasTried (LosesAtHead g.P.Kind.PayloadKind.fits (as_part g.P.Part.part l.domain) None)
    (seen_by g.P.Part.seen l.fn.seat) (seen_by g.P.Part.seen l.seat)
