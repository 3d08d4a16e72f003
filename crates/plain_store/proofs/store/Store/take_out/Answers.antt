use Rattle.std.proofs.Common.{refl, arith}
use Rattle.std.proofs.lemmas.Grind.{common_steps}
use Rattle.plain_store.proofs.SettlingStores.{kept_after}
use Rattle.plain_store.proofs.SettlingEntries.{strong_asked, weak_asked, take_settles, take_tallied, take_calm}
use Rattle.plain_store.proofs.store.Store.take_out.Goals as goal

pub count_one_less-requires-clause-strong : goal.count_one_less-requires-clause-strong
count_one_less-requires-clause-strong c =
    strong_asked c.args.self.now c.args.at c.args.entry c.requires.kept c.requires.there c.requires.entry

pub count_one_less-requires-clause-weak : goal.count_one_less-requires-clause-weak
count_one_less-requires-clause-weak c =
    weak_asked c.args.self.now c.args.at c.args.entry c.requires.kept c.requires.there c.requires.entry

pub returns-clause-deferred : goal.returns-clause-deferred
returns-clause-deferred c = grind (arith, common_steps)

pub returns-clause-settles : goal.returns-clause-settles
returns-clause-settles c =
    rw (returns-clause-deferred c)
    (take_settles c.args.self.now c.args.at c.args.entry c.requires.kept c.requires.there c.requires.entry c.requires.later)

pub returns-clause-kept : goal.returns-clause-kept
returns-clause-kept c =
    kept_after c.args.self.now _ c.requires.kept (returns-clause-settles c)
    (rw (returns-clause-deferred c, c.count_one_less.ensures.strong, c.count_one_less.ensures.weak)
    (take_tallied c.args.self.now c.args.at c.args.entry c.requires.kept c.requires.there c.requires.entry))
    (record { adds = refl; slots = refl; next = refl })

pub returns-clause-calm : goal.returns-clause-calm
returns-clause-calm c s ne calm =
    rw (returns-clause-deferred c)
    (take_calm c.args.self.now c.args.at c.args.entry c.requires.kept c.requires.there c.requires.entry s ne calm)
