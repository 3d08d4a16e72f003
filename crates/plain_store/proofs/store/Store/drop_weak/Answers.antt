use Rattle.std.proofs.Common.{rules, arith, refl}
use Rattle.plain_store.proofs.Gains.{kept_weak_drop, weak_owned_there, weak_owned_counted}
use Rattle.plain_store.proofs.store.Store.drop_weak.Goals as goal

pub count_less-requires-clause-there : goal.count_less-requires-clause-there
count_less-requires-clause-there c =
    omega (arith, weak_owned_there c.args.self.now c.args.slot c.requires.kept c.requires.owns, c.requires.kept.tallied.weak_size)

pub count_less-requires-clause-some : goal.count_less-requires-clause-some
count_less-requires-clause-some c = weak_owned_counted c.args.self.now c.args.slot c.requires.kept c.requires.owns

pub returns-clause-kept : goal.returns-clause-kept
returns-clause-kept c =
    kept_weak_drop c.args.self.now _ c.args.slot c.requires.kept c.requires.owns (search rules) refl refl c.count_less.ensures refl
