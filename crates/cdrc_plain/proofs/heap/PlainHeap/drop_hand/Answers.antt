use Rattle.std.proofs.Common.{ap}
use Rattle.plain_protocol.specs.plain_state.State.{Plain}
use Rattle.plain_store.specs.Stores.{plain_of}
use Rattle.plain_store.proofs.Fits.{fit_same}
use Rattle.cdrc_plain.proofs.Watched.{restless_drop}
use Rattle.cdrc_plain.proofs.heap.PlainHeap.drop_hand.Goals as goal

pub invariant_of-self : goal.invariant_of-self
invariant_of-self g c =
    let p = plain_of c.self.inside.store in
    let q = plain_of c.drop_owned.new.self in
    let does = c.drop_owned.ensures.does in (
      c.drop_owned.ensures.kept,
      fit_same g.W.PayloadKind.fits p q (ap (λ (r : Plain). r.slots) does.1.3) c.self.invariant.1,
      rw c.also-self-inside.ensures
          (restless_drop c.self.inside.restless c.self.inside.store c.slot-slot.result 0 q c.self.invariant.0 does c.self.invariant.2),
    )
