use Rattle.queue_protocol.specs.queue_law.Lessons.{attach_next}
use Rattle.linked_queue.proofs.Accepting.{attach_kept, kept_all}
use Rattle.part_calls.specs.Parts.{as_part, seen_by}
use Rattle.std.proofs.Common.{ap}
use Rattle.queue_protocol.specs.plain_state.declared.act.EventPlace.TheVariants.{Cell}
use Rattle.linked_queue.proofs.Looks.{looked, looked_there, step_as}
use Rattle.linked_queue.proofs.attaching.look_at_head.Goals as goal

pub returns-in-Found-clause-looks : goal.returns-in-Found-clause-looks
returns-in-Found-clause-looks g c =
    let head = Cell (as_part g.P.Part.part c.args.domain.now).protocol.head in
    let step = step_as (as_part g.P.Part.part c.args.domain.now) (Cell c.args.head) head c.look.result _ (seen_by g.P.Part.seen c.args.seat.now)
    (seen_by g.P.Part.seen c.look.new.seat) (ap Cell c.requires.head) c.in-Found.is c.look.ensures.steps in
    let by = looked (as_part g.P.Part.part c.args.domain.now) head c.in-Found.found (seen_by g.P.Part.seen c.args.seat.now) (seen_by g.P.Part.seen c.look.new.seat) step in
    record {
      becomes = by;
      there = looked_there (as_part g.P.Part.part c.args.domain.now) head c.in-Found.found (seen_by g.P.Part.seen c.args.seat.now)
          (seen_by g.P.Part.seen c.look.new.seat) by;
    }

pub look-requires-clause-accepted : goal.look-requires-clause-accepted
look-requires-clause-accepted g c =
    kept_all g.P.Part.seen g.P.Part.suits g.met.P.HasQueue.accepts
    c.args.domain.now.protocol c.args.seat.now.view.client attach_next
    attach_kept
