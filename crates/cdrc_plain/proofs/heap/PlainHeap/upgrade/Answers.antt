use Rattle.std.proofs.Common.{rules}
use Rattle.plain_store.specs.Stores.{plain_of}
use Rattle.plain_store.proofs.CallsCalm.{call_calm, upgrades_calm}
use Rattle.cdrc_plain.proofs.Watched.{restless_on}
use Rattle.cdrc_plain.proofs.heap.PlainHeap.upgrade.Goals as goal

pub invariant_of-self : goal.invariant_of-self
invariant_of-self g c =
    let p = plain_of c.self.inside.store in
    let q = plain_of c.upgrade.new.self in (
      c.upgrade.ensures.kept,
      search rules,
      restless_on c.self.inside.restless p q
          (call_calm c.upgrade.result _ p q c.upgrade.ensures.upgrades c.upgrade.ensures.err (upgrades_calm p q c.self.invariant.0.sound c.slot.result)) c.self.invariant.2,
    )
