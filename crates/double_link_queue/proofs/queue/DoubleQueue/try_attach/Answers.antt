use Rattle.linked_queue.specs.queue_law.Views.{first_view}
use Rattle.weak_part_calls.proofs.Below.part_calls_Beside.{stays_beside}
use Rattle.double_link_queue.proofs.queue.DoubleQueue.try_attach.Goals as goal

pub returns-clause-beside : goal.returns-clause-beside
returns-clause-beside g c =
    stays_beside g.P.Part.seen g.P.Part.with_seen first_view g.P.Part.puts_back
    g.P.Part.puts_over c.args.seat.now c.look_at_head.new.seat
    c.look_at_head.ensures.beside_part
