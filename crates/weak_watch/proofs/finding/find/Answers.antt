use Rattle.weak_part_calls.specs.atomic_weak.Places.{named}
use Rattle.weak_watch.proofs.Found.{found_at_last}
use Rattle.weak_watch.proofs.finding.find.Goals as goal

pub returns-in-Ok-clause-keeps : goal.returns-in-Ok-clause-keeps
returns-in-Ok-clause-keeps g c =
    found_at_last (named c.in-Ok.found) c.args.seat.now c.loop-try.seat c.try_find.new.seat
    c.loop-try.invariant.2 c.in-Ok.ensures.keeps
