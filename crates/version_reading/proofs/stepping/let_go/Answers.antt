use Rattle.version_reading.proofs.Releasing.{free_knows, free_reads}
use Rattle.version_reading.proofs.stepping.let_go.Goals as goal

pub returns-in-Some-clause-reads : goal.returns-in-Some-clause-reads
returns-in-Some-clause-reads c =
    free_reads c.args.domain.now c.args.word c.in-Some.word c.in-Some.is c.args.slot
    c.args.seat.now c.release.new.seat c.requires.within c.requires.held c.release.result
    c.release.ensures

pub returns-in-Some-clause-knows : goal.returns-in-Some-clause-knows
returns-in-Some-clause-knows c =
    free_knows c.args.domain.now c.args.word c.in-Some.word c.in-Some.is c.args.slot
    c.args.seat.now c.release.new.seat c.requires.within c.requires.held c.release.result
    c.release.ensures
