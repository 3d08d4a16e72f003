use Rattle.linked_queue.specs.queue_law.Lessons.{attach_next}
use Rattle.linked_queue.proofs.Accepting.{attach_kept, kept_all}
use Rattle.weak_part_calls.specs.part_calls.Parts.{as_part, seen_by}
use Rattle.std.proofs.Common.{ap}
use Rattle.weak_part_calls.specs.plain_state.declared.act.EventPlace.TheVariants.{Cell}
use Rattle.linked_queue.proofs.Looks.{looked, looked_there, step_as}
use Rattle.double_link_queue.proofs.attaching.look_at_head.Goals as goal

pub returns-in-Found-clause-looks : goal.returns-in-Found-clause-looks
returns-in-Found-clause-looks g c =
    let d = as_part g.P.Part.part c.args.domain.now in
    let before = seen_by g.P.Part.seen c.args.seat.now in
    let after_look = seen_by g.P.Part.seen c.look.new.seat in
    let head = Cell d.protocol.head in
    let step = step_as d (Cell c.args.head) head c.look.result _ before
    after_look (ap Cell c.requires.head) c.in-Found.is c.look.ensures.steps in
    let by = looked d head c.in-Found.found before after_look step in
    record {
      becomes = by;
      there = looked_there d head c.in-Found.found before
          after_look by;
    }

pub look-requires-clause-accepted : goal.look-requires-clause-accepted
look-requires-clause-accepted g c =
    kept_all g.P.Part.seen g.P.Part.suits g.met.P.HasQueue.accepts
    c.args.domain.now.protocol c.args.seat.now.view.client attach_next
    attach_kept
