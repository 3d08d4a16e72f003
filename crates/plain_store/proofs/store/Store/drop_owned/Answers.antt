use Rattle.std.proofs.Common.{rules, arith, refl}
use Rattle.plain_store.proofs.Kepts.{kept_drop}
use Rattle.plain_store.proofs.Stores.{owned_there, owned_counted}
use Rattle.plain_store.proofs.store.Store.drop_owned.Goals as goal

pub count_less-requires-clause-there : goal.count_less-requires-clause-there
count_less-requires-clause-there c =
    omega (arith, owned_there c.args.self.now c.args.slot c.requires.kept c.requires.owns, c.requires.kept.tallied.strong_size)

pub count_less-requires-clause-some : goal.count_less-requires-clause-some
count_less-requires-clause-some c = owned_counted c.args.self.now c.args.slot c.requires.kept c.requires.owns

pub returns-clause-kept : goal.returns-clause-kept
returns-clause-kept c =
    kept_drop c.args.self.now _ c.args.slot c.requires.kept c.requires.owns (search rules) (search rules) c.count_less.ensures refl
