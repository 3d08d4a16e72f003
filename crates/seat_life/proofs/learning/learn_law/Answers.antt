use Rattle.seat_life.proofs.Learned.{knows_law, learn_alone, learn_free, same_core, same_whole}
use Rattle.seat_life.proofs.learning.learn_law.Goals as goal

pub returns-clause-law : goal.returns-clause-law
returns-clause-law g c =
    knows_law _ (g.P.Protocol.law c.args.domain.now.protocol) g.P.Protocol.gone c.args.domain.now 0
    c.args.root.now c.look.new.seat c.look.result c.look.ensures c.requires.free c.requires.alone
    (c.alone-alone.ensures.knows c.requires.alone)

pub returns-clause-whole : goal.returns-clause-whole
returns-clause-whole g c =
    same_whole _ (g.P.Protocol.law c.args.domain.now.protocol) g.P.Protocol.gone c.args.domain.now 0
    c.args.root.now c.look.new.seat c.look.result c.look.ensures c.requires.free c.requires.alone
    (c.alone-alone.ensures.knows c.requires.alone)

pub returns-clause-core : goal.returns-clause-core
returns-clause-core g c =
    same_core _ (g.P.Protocol.law c.args.domain.now.protocol) g.P.Protocol.gone c.args.domain.now 0
    c.args.root.now c.look.new.seat c.look.result c.look.ensures c.requires.free c.requires.alone
    (c.alone-alone.ensures.knows c.requires.alone)

pub returns-clause-alone : goal.returns-clause-alone
returns-clause-alone g c =
    learn_alone _ (g.P.Protocol.law c.args.domain.now.protocol) g.P.Protocol.gone c.args.domain.now 0
    c.args.root.now c.look.new.seat c.look.result c.look.ensures c.requires.free c.requires.alone
    (c.alone-alone.ensures.knows c.requires.alone)

pub returns-clause-free : goal.returns-clause-free
returns-clause-free g c =
    learn_free _ (g.P.Protocol.law c.args.domain.now.protocol) g.P.Protocol.gone c.args.domain.now 0
    c.args.root.now c.look.new.seat c.look.result c.look.ensures c.requires.free c.requires.alone
    (c.alone-alone.ensures.knows c.requires.alone)
