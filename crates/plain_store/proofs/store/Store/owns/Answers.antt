use Rattle.std.proofs.Common.{◌<◌, List, Bool, sym, subst}
use Rattle.std.specs.Prelude.{◌↔◌, IsTrue}
use Rattle.plain_state.specs.declared.slot.SlotId.{SlotId}
use Rattle.plain_state.specs.Lists.{times}
use Rattle.plain_store.proofs.Listed.{listed_if}
use Rattle.plain_store.proofs.store.Store.owns.Goals as goal

pub returns : goal.returns
returns c =
    subst (λ (xs : List SlotId). IsTrue c.is_some.result ↔ (0 < times c.args.slot xs)) c.deref.ensures.value
    (subst (λ (b : Bool). IsTrue b ↔ (0 < times c.args.slot c.deref.result.now)) (sym c.is_some.ensures)
    (listed_if c.args.slot c.deref.result.now c.index_of.result c.index_of.ensures.none c.index_of.ensures.found))
