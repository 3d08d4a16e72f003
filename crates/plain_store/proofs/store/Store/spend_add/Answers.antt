use Rattle.std.proofs.Common.{rules, arith, refl}
use Rattle.plain_store.proofs.Gains.{kept_spend}
use Rattle.plain_store.proofs.store.Store.spend_add.Goals as goal

pub returns-clause-kept : goal.returns-clause-kept
returns-clause-kept c =
    kept_spend c.args.self.now _ c.requires (search rules) (omega (arith, c.in_ok-self.ensures)) refl refl refl
