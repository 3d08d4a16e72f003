use Rattle.std.proofs.Common.{rules, refl}
use Rattle.plain_store.proofs.Loading.{kept_end}
use Rattle.plain_store.proofs.store.Store.end_snapshot.Goals as goal

pub returns-clause-kept : goal.returns-clause-kept
returns-clause-kept c =
    kept_end c.args.self.now _ c.args.slot c.requires.kept (search rules) refl refl refl refl
