use Rattle.std.proofs.Common.{ap, subst}
use Rattle.plain_protocol.specs.plain_state.declared.act.PlainAct.TheVariants as act
use Rattle.plain_protocol.specs.plain_state.declared.slot.SlotId.{SlotId}
use Rattle.plain_protocol.specs.plain_state.State.{Plain}
use Rattle.plain_protocol.specs.plain_state.Steps.{Does}
use Rattle.plain_store.specs.Stores.{plain_of}
use Rattle.plain_store.proofs.Fits.{fit_same}
use Rattle.cdrc_plain.proofs.Watched.{restless_weak_drop}
use Rattle.cdrc_plain.proofs.heap.PlainHeap.drop_weak.Goals as goal

pub invariant_of-self : goal.invariant_of-self
invariant_of-self g c =
    let p = plain_of c.self.inside.store in
    let q = plain_of c.drop_weak.new.self in
    let does = c.drop_weak.ensures.does in (
      c.drop_weak.ensures.kept,
      fit_same g.W.PayloadKind.fits p q (ap (λ (r : Plain). r.slots) does.1.3) c.self.invariant.1,
      rw c.also-self-inside.ensures
          (restless_weak_drop c.self.inside.restless c.self.inside.store c.slot-slot.result 0 q c.self.invariant.0 does c.self.invariant.2),
    )

pub returns : goal.returns
returns g c =
    let q = plain_of c.drop_weak.new.self in
    subst (λ (p : Plain). Does p 0 (act.WeakDrop c.args.w) 0 q) c.self.view_is
    (subst (λ (s : SlotId). Does (plain_of c.self.inside.store) 0 (act.WeakDrop s) 0 q) c.slot-slot.ensures c.drop_weak.ensures.does)
