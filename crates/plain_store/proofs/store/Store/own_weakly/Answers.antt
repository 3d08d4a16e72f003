use Rattle.std.proofs.Common.{rules, arith, refl}
use Rattle.plain_store.proofs.Gains.{weak_room, kept_own_weakly}
use Rattle.plain_store.proofs.store.Store.own_weakly.Goals as goal

pub count_more-requires-clause-fits : goal.count_more-requires-clause-fits
count_more-requires-clause-fits c =
    weak_room c.args.self.now c.args.slot c.requires.kept c.requires.there (omega (arith, c.in_ok-adds.ensures))

pub returns-clause-kept : goal.returns-clause-kept
returns-clause-kept c =
    kept_own_weakly c.args.self.now _ c.args.slot c.requires.kept c.requires.there c.requires.sound (search rules) (omega (arith, c.in_ok-adds.ensures))
    refl c.count_more.ensures refl
