use Rattle.std.proofs.Common.{rules, arith, refl}
use Rattle.plain_store.proofs.Opening.{kept_new}
use Rattle.plain_store.proofs.store.Store.new.Goals as goal

pub returns-clause-kept : goal.returns-clause-kept
returns-clause-kept c =
    kept_new c.args.slots c.args.cells c.args.weak_cells _ (search rules)
    c.in_ok-copies-4.ensures c.in_ok-copies-5.ensures refl (omega arith) refl
