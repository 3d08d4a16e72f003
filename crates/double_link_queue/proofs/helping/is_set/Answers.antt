use Rattle.weak_part_calls.specs.part_calls.Parts.{as_part, seen_by}
use Rattle.linked_queue.specs.queue_law.Lessons.{set_next}
use Rattle.linked_queue.proofs.Accepting.{kept_all}
use Rattle.double_link_queue.proofs.Accepting.{set_kept}
use Rattle.double_link_queue.proofs.Helps.{set_before, set_notes, set_ready}
use Rattle.double_link_queue.proofs.helping.is_set.Goals as goal

pub look-requires-clause-deed : goal.look-requires-clause-deed
look-requires-clause-deed g c =
    set_ready g.P.Kind.PayloadKind.fits (as_part g.P.Part.part c.args.domain.now) c.args.last
    c.args.before (seen_by g.P.Part.seen c.args.seat.now) c.requires.before c.requires.queue

pub look-requires-clause-accepted : goal.look-requires-clause-accepted
look-requires-clause-accepted g c =
    kept_all g.P.Part.seen g.P.Part.suits g.met.P.HasQueue.accepts
    c.args.domain.now.protocol c.args.seat.now.view.client set_next set_kept

pub returns-in-Found-clause-before : goal.returns-in-Found-clause-before
returns-in-Found-clause-before g c =
    set_before g.P.Kind.PayloadKind.fits (as_part g.P.Part.part c.args.domain.now) c.args.last
    c.args.before (seen_by g.P.Part.seen c.args.seat.now) c.requires.before
    (seen_by g.P.Part.seen c.look.new.seat) c.look.result c.look.ensures.steps

pub returns-in-Found-clause-notes : goal.returns-in-Found-clause-notes
returns-in-Found-clause-notes g c =
    set_notes g.P.Kind.PayloadKind.fits (as_part g.P.Part.part c.args.domain.now) c.args.last
    c.args.before (seen_by g.P.Part.seen c.args.seat.now) c.requires.before
    (seen_by g.P.Part.seen c.look.new.seat) c.look.result c.look.ensures.steps

pub returns-in-Found-clause-events : goal.returns-in-Found-clause-events
returns-in-Found-clause-events g c = (c.look.result, c.look.ensures.steps)
