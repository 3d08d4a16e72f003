use Rattle.linked_queue.specs.queue_law.Views.{first_view}
use Rattle.weak_part_calls.proofs.Below.part_calls_Beside.{stays_beside}
use Rattle.weak_part_calls.specs.part_calls.Parts.{seen_by}
use Rattle.double_link_queue.proofs.Pushings.{handed_back, push_attached}
use Rattle.double_link_queue.proofs.queue.DoubleQueue.try_push.Goals as goal

pub returns-clause-attached : goal.returns-clause-attached
returns-clause-attached g c =
    push_attached c.args.item.slot c.push_item.result (seen_by g.P.Part.seen c.args.seat.now)
    (seen_by g.P.Part.seen c.push_item.new.seat) c.push_item.ensures.pushed
    c.push_item.ensures.refused c.requires.attached

pub returns-clause-owned : goal.returns-clause-owned
returns-clause-owned g c =
    handed_back c.push_item.result c.args.item (seen_by g.P.Part.seen c.args.seat.now)
    (seen_by g.P.Part.seen c.push_item.new.seat) c.requires.item c.push_item.ensures.refused
    c.push_item.ensures.back

pub returns-clause-beside : goal.returns-clause-beside
returns-clause-beside g c =
    stays_beside g.P.Part.seen g.P.Part.with_seen first_view g.P.Part.puts_back
    g.P.Part.puts_over c.args.seat.now c.push_item.new.seat
    c.push_item.ensures.beside_part
