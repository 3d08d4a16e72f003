use Rattle.linked_queue.specs.Pops.{both_by}
use Rattle.weak_watch.proofs.Growing.{only_reads}
use Rattle.weak_watch.proofs.Noted.{takes_noted}
use Rattle.weak_watch.proofs.Taken.{pop_keeps}
use Rattle.weak_watch.proofs.taking.take.Goals as goal

pub returns-clause-notes : goal.returns-clause-notes
returns-clause-notes g c =
    takes_noted c.args.domain.now c.try_pop_with.result c.args.seat.now c.try_pop_with.new.seat
    c.try_pop_with.ensures.beside

pub returns-clause-beside : goal.returns-clause-beside
returns-clause-beside g c =
    only_reads c.args.domain.now (both_by c.try_pop_with.result) c.args.seat.now
    c.try_pop_with.new.seat c.try_pop_with.ensures.beside

pub returns-clause-keeps : goal.returns-clause-keeps
returns-clause-keeps g c =
    pop_keeps (both_by c.try_pop_with.result) c.args.seat.now c.try_pop_with.new.seat
    c.try_pop_with.ensures.popped c.try_pop_with.ensures.makes
