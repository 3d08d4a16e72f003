use Rattle.std.proofs.Common.{rules, arith, refl}
use Rattle.plain_store.proofs.Gains.{strong_room, kept_own}
use Rattle.plain_store.proofs.store.Store.own.Goals as goal

pub count_more-requires-clause-fits : goal.count_more-requires-clause-fits
count_more-requires-clause-fits c =
    strong_room c.args.self.now c.args.slot c.requires.kept c.requires.there (omega (arith, c.in_ok-adds.ensures))

pub returns-clause-kept : goal.returns-clause-kept
returns-clause-kept c =
    kept_own c.args.self.now _ c.args.slot c.requires.kept c.requires.there c.requires.sound (search rules) (omega (arith, c.in_ok-adds.ensures))
    c.count_more.ensures refl refl
