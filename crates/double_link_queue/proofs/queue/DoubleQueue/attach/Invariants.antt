use Rattle.std.specs.Prelude.{◌≡◌}
use Rattle.weak_part_calls.specs.core_events.Steps.{HasRoom}
use Rattle.weak_part_calls.specs.control_word.Resting.{IsAtRest}
use Rattle.weak_part_calls.specs.part_calls.Parts.{StaysBeside, seen_by}
use Rattle.linked_queue.specs.Leaving.{Leaves}
use Rattle.double_link_queue.proofs.queue.DoubleQueue.attach.Given as goal

abbrev pub invariant-loop-try : goal.invariant-loop-try
invariant-loop-try g l =
    IsAtRest l.domain l.seat × HasRoom l.seat.view.core
    × (g.P.Part.seen l.seat.view.client ≡ g.P.Part.seen l.fn.seat.view.client)
    × Leaves l.fn.seat.view.core.owned (seen_by g.P.Part.seen l.fn.seat)
    (seen_by g.P.Part.seen l.seat)
    × StaysBeside g.P.Part.seen g.P.Part.with_seen l.fn.seat l.seat
    × (l.seat.view.core.makes ≡ l.fn.seat.view.core.makes)
