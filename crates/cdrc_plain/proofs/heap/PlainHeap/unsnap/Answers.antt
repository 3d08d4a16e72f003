use Rattle.std.proofs.Common.{ap}
use Rattle.plain_protocol.specs.plain_state.declared.act.PlainAct.TheVariants as act
use Rattle.plain_protocol.specs.plain_state.declared.slot.Kind.TheVariants.{Strong}
use Rattle.plain_protocol.specs.plain_state.State.{Plain}
use Rattle.plain_store.specs.Stores.{plain_of}
use Rattle.plain_store.proofs.Calming.{step_calm}
use Rattle.plain_store.proofs.Fits.{fit_same}
use Rattle.cdrc_plain.proofs.Watched.{restless_on, restless_drop}
use Rattle.cdrc_plain.proofs.heap.PlainHeap.unsnap.Goals as goal

pub invariant_of-self : goal.invariant_of-self
invariant_of-self g c =
    let p = plain_of c.self.inside.store in
    let q = plain_of c.drop_owned.new.self in
    let does = c.drop_owned.ensures.does in (
      c.drop_owned.ensures.kept,
      fit_same g.W.PayloadKind.fits p q (ap (λ (r : Plain). r.slots) does.1.3) c.self.invariant.1,
      rw c.also-self-inside.ensures
          (restless_drop c.self.inside.restless c.self.inside.store c.slot-slot.result 0 q c.self.invariant.0 does c.self.invariant.2),
    )

pub invariant_of-self-else-counted : goal.invariant_of-self-else-counted
invariant_of-self-else-counted g c =
    let p = plain_of c.self.inside.store in
    let q = plain_of c.end_snapshot.new.self in
    let does = c.end_snapshot.ensures.does in (
      c.end_snapshot.ensures.kept,
      fit_same g.W.PayloadKind.fits p q c.end_snapshot.ensures.slots c.self.invariant.1,
      restless_on c.self.inside.restless p q
          (step_calm p q (act.EndSnapshot Strong c.slot-slot.result) 0 c.self.invariant.0.sound tt does) c.self.invariant.2,
    )
