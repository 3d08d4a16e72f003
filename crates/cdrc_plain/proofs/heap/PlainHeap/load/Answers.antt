use Rattle.std.proofs.Common.{rules}
use Rattle.plain_store.specs.Stores.{plain_of}
use Rattle.plain_store.proofs.CallsCalm.{call_calm, loads_calm}
use Rattle.cdrc_plain.proofs.Watched.{restless_on}
use Rattle.cdrc_plain.proofs.heap.PlainHeap.load.Goals as goal

pub invariant_of-self : goal.invariant_of-self
invariant_of-self g c =
    let p = plain_of c.self.inside.store in
    let q = plain_of c.load.new.self in (
      c.load.ensures.kept,
      search rules,
      restless_on c.self.inside.restless p q
          (call_calm c.load.result _ p q c.load.ensures.loads c.load.ensures.err (loads_calm p q c.self.invariant.0.sound c.event.result)) c.self.invariant.2,
    )
