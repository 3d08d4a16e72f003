use Rattle.domain_audit.proofs.Learning.{knows_on, learns, may_announce, rests, stays, stays_alone, whole_stays}
use Rattle.domain_audit.proofs.auditing.learn.Goals as goal

pub announce-requires-clause-may : goal.announce-requires-clause-may
announce-requires-clause-may g c =
    may_announce c.args.domain.now c.search_start-slot.result c.args.seat.now c.requires.rest
    c.search_start-slot.ensures

pub returns-clause-stays : goal.returns-clause-stays
returns-clause-stays g c =
    stays c.args.domain.now c.search_start-slot.result c.args.seat.now c.announce.new.seat
    c.release.new.seat c.requires.rest c.announce.result c.announce.ensures c.release.result
    c.release.ensures

pub returns-clause-client : goal.returns-clause-client
returns-clause-client g c =
    (knows_on c.args.domain.now c.search_start-slot.result c.args.seat.now c.announce.new.seat
    c.release.new.seat c.requires.rest c.announce.result c.announce.ensures c.release.result
    c.release.ensures).0

pub returns-clause-objects : goal.returns-clause-objects
returns-clause-objects g c =
    (knows_on c.args.domain.now c.search_start-slot.result c.args.seat.now c.announce.new.seat
    c.release.new.seat c.requires.rest c.announce.result c.announce.ensures c.release.result
    c.release.ensures).1

pub returns-clause-whole : goal.returns-clause-whole
returns-clause-whole g c =
    whole_stays c.args.domain.now c.search_start-slot.result c.args.seat.now c.announce.new.seat
    c.release.new.seat c.requires.rest c.announce.result c.announce.ensures c.release.result
    c.release.ensures c.requires.alone (c.alone-alone.ensures.knows c.requires.alone)

pub returns-clause-knows : goal.returns-clause-knows
returns-clause-knows g c =
    learns c.args.domain.now c.search_start-slot.result c.args.seat.now c.announce.new.seat
    c.release.new.seat c.requires.rest c.announce.result c.announce.ensures c.release.result
    c.release.ensures c.requires.alone (c.alone-alone.ensures.knows c.requires.alone)

pub returns-clause-alone : goal.returns-clause-alone
returns-clause-alone g c =
    stays_alone c.args.domain.now c.search_start-slot.result c.args.seat.now c.announce.new.seat
    c.release.new.seat c.requires.rest c.announce.result c.announce.ensures c.release.result
    c.release.ensures c.requires.alone (c.alone-alone.ensures.knows c.requires.alone)

pub returns-clause-rest : goal.returns-clause-rest
returns-clause-rest g c =
    rests c.args.domain.now c.search_start-slot.result c.args.seat.now c.announce.new.seat
    c.release.new.seat c.requires.rest c.announce.result c.announce.ensures c.release.result
    c.release.ensures
