use Rattle.queue_protocol.specs.queue_law.Views.{first_view}
use Rattle.part_calls.proofs.Beside.{stays_beside}
use Rattle.part_calls.specs.Parts.{seen_by}
use Rattle.linked_queue.proofs.HandedBack.{handed_back}
use Rattle.linked_queue.proofs.Attached.{push_attached}
use Rattle.linked_queue.proofs.queue.LinkedQueue.try_push.Goals as goal

pub returns-clause-attached : goal.returns-clause-attached
returns-clause-attached g c =
    push_attached c.args.item.slot c.push_item.result (seen_by g.P.Part.seen c.args.seat.now) (seen_by g.P.Part.seen c.push_item.new.seat)
    c.push_item.ensures.pushed c.push_item.ensures.refused c.requires.attached

pub returns-clause-owned : goal.returns-clause-owned
returns-clause-owned g c =
    handed_back c.push_item.result c.args.item (seen_by g.P.Part.seen c.args.seat.now) (seen_by g.P.Part.seen c.push_item.new.seat)
    c.requires.item c.push_item.ensures.refused c.push_item.ensures.back

pub returns-clause-beside : goal.returns-clause-beside
returns-clause-beside g c =
    stays_beside g.P.Part.seen g.P.Part.with_seen first_view g.P.Part.puts_back
    g.P.Part.puts_over c.args.seat.now c.push_item.new.seat
    c.push_item.ensures.beside_part
