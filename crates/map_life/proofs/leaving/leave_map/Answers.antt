use Rattle.map_life.proofs.Played.{all_bare, all_free, is_free}
use Rattle.map_life.proofs.leaving.leave_map.Goals as goal

pub leave_all-requires-clause-root : goal.leave_all-requires-clause-root
leave_all-requires-clause-root c =
    (is_free c.args.domain.now c.args.root.now c.requires.root.0, c.requires.root.1)

pub leave_all-requires-clause-others : goal.leave_all-requires-clause-others
leave_all-requires-clause-others c =
    all_free c.args.domain.now c.args.others.items c.requires.others

pub returns-clause-owns : goal.returns-clause-owns
returns-clause-owns c =
    c.leave_all.ensures.owns (c.requires.root.0.owned, c.requires.root.0.weaks)
    (all_bare c.args.domain.now c.args.others.items c.requires.others)
