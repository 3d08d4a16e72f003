use Rattle.version_reading.proofs.Rooting.{all_held, all_moved, all_reads, null_look}
use Rattle.version_reading.proofs.root.hold_root.Goals as goal

pub returns-clause-null : goal.returns-clause-null
returns-clause-null c = λ is.
    null_look c.args.domain.now c.args.cell c.args.word c.requires.over.law c.requires.free.1 c.args.seat.now
    c.acquire.new.seat (c.acquire.ensures.null is)

pub returns-clause-held : goal.returns-clause-held
returns-clause-held c =
    all_held c.args.domain.now c.args.cell c.args.word c.requires.over.law c.requires.free.1 c.args.seat.now
    c.acquire.new.seat c.acquire.result c.acquire.ensures.protected

pub returns-clause-moved : goal.returns-clause-moved
returns-clause-moved c =
    all_moved c.args.domain.now c.args.cell c.args.word c.requires.over.law c.requires.free.1 c.args.seat.now
    c.acquire.new.seat c.acquire.result c.acquire.ensures.moved

pub returns-clause-reads : goal.returns-clause-reads
returns-clause-reads c =
    all_reads c.args.domain.now c.args.cell c.args.word c.requires.over.law c.requires.free.1 c.args.seat.now
    c.acquire.new.seat c.acquire.result c.acquire.ensures.null c.acquire.ensures.protected
    c.acquire.ensures.moved
