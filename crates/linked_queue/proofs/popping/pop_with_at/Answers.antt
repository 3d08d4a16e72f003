use Rattle.part_calls.specs.Parts.{seen_by}
use Rattle.linked_queue.specs.Pops.{both_by}
use Rattle.linked_queue.proofs.Attached.{pops_with_attached, pops_with_owned}
use Rattle.linked_queue.proofs.popping.pop_with_at.Goals as goal

pub returns-clause-owned : goal.returns-clause-owned
returns-clause-owned g c =
    pops_with_owned c.pop_first.result (seen_by g.P.Part.seen c.args.seat.now)
    (seen_by g.P.Part.seen c.pop_first.new.seat) c.pop_first.ensures.popped

pub returns-clause-attached : goal.returns-clause-attached
returns-clause-attached g c =
    pops_with_attached (both_by c.pop_first.result) (seen_by g.P.Part.seen c.args.seat.now)
    (seen_by g.P.Part.seen c.pop_first.new.seat) c.pop_first.ensures.popped c.requires.attached
