use Rattle.epoch_alone.proofs.Known.{core_of}
use Rattle.epoch_alone.proofs.Learns.{alone_still, free_still, knows_law, stays}
use Rattle.epoch_alone.proofs.learning.learn_law.Goals as goal

pub returns-clause-law : goal.returns-clause-law
returns-clause-law g c =
    let k = core_of c.args.seat.now.view (c.alone-alone.ensures.knows c.requires.alone) in
    knows_law _ c.args.domain.now _ _ _ c.args.seat.now c.enter.new.seat c.e_look-found.new.seat
    c.exit.new.seat _ c.enter.ensures.entered c.e_look-found.ensures.looked c.exit.ensures.exited
    c.requires.free k.0 k.1

pub returns-clause-stays : goal.returns-clause-stays
returns-clause-stays g c =
    let k = core_of c.args.seat.now.view (c.alone-alone.ensures.knows c.requires.alone) in
    stays _ c.args.domain.now (g.P.Protocol.law c.args.domain.now.protocol) g.P.Protocol.gone _
    c.args.seat.now c.enter.new.seat c.e_look-found.new.seat c.exit.new.seat _
    c.enter.ensures.entered c.e_look-found.ensures.looked c.exit.ensures.exited c.requires.free k.0 k.1

pub returns-clause-free : goal.returns-clause-free
returns-clause-free g c =
    let k = core_of c.args.seat.now.view (c.alone-alone.ensures.knows c.requires.alone) in
    free_still _ c.args.domain.now (g.P.Protocol.law c.args.domain.now.protocol) g.P.Protocol.gone _
    c.args.seat.now c.enter.new.seat c.e_look-found.new.seat c.exit.new.seat _
    c.enter.ensures.entered c.e_look-found.ensures.looked c.exit.ensures.exited c.requires.free k.0 k.1
    c.exit.ensures.rest

pub returns-clause-alone : goal.returns-clause-alone
returns-clause-alone g c =
    let k = core_of c.args.seat.now.view (c.alone-alone.ensures.knows c.requires.alone) in
    alone_still _ c.args.domain.now (g.P.Protocol.law c.args.domain.now.protocol) g.P.Protocol.gone _
    c.args.seat.now c.enter.new.seat c.e_look-found.new.seat c.exit.new.seat _
    c.enter.ensures.entered c.e_look-found.ensures.looked c.exit.ensures.exited c.requires.free k.0 k.1
    c.requires.alone
