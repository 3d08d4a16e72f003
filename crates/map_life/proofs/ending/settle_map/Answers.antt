use Rattle.map_life.proofs.Left.{leaves_tree}
use Rattle.map_life.proofs.ending.settle_map.Goals as goal

pub returns-clause-left : goal.returns-clause-left
returns-clause-left c =
    leaves_tree c.args.domain.now _ _ _ c.args.root.now c.settle_and_audit.new.root
    c.learn_law.new.root c.requires.owns c.requires.over.0 c.requires.over.1
    c.in_ok-settled.ensures.settled c.learn_law.ensures.law c.learn_law.ensures.whole
    c.learn_law.ensures.core c.learn_law.ensures.free
