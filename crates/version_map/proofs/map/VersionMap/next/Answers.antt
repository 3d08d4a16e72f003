use Rattle.version_reading.specs.Reading.{HasNext, pair_by}
use Rattle.version_map.proofs.Playing.{has_read}
use Rattle.version_map.proofs.Again.{again_look, again_reads, tried_again}
use Rattle.version_map.proofs.map.VersionMap.next.Goals as goal

pub returns-in-Ok-clause-answer : goal.returns-in-Ok-clause-answer
returns-in-Ok-clause-answer g c =
    again_look c.args.domain.now c.args.seat.now c.loop-try.seat c.loop-try.invariant
    c.try_next.new.seat c.try_next.ensures.reads c.try_next.ensures.knows c.args.self.now.cell
    (HasNext c.args.self.now.cell c.args.key (pair_by c.in-Ok.found)) c.in-Ok.ensures.answer

pub returns-in-Ok-clause-reads : goal.returns-in-Ok-clause-reads
returns-in-Ok-clause-reads g c =
    again_reads c.args.domain.now c.args.seat.now c.loop-try.seat c.loop-try.invariant
    c.try_next.new.seat c.try_next.ensures.reads c.try_next.ensures.knows

pub returns-in-Ok-clause-plays : goal.returns-in-Ok-clause-plays
returns-in-Ok-clause-plays g c plays =
    has_read c.args.domain.now c.args.seat.now c.try_next.new.seat plays
    (returns-in-Ok-clause-reads g c) c.try_next.ensures.rest

pub loop-try-preserved : goal.loop-try-preserved
loop-try-preserved g c =
    tried_again c.args.domain.now c.args.seat.now c.loop-try.seat c.loop-try.invariant
    c.try_next.new.seat c.try_next.ensures.reads c.try_next.ensures.knows c.try_next.ensures.rest
