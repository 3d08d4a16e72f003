use Rattle.std.proofs.Common.{◌≡◌, subst, Err}
use Rattle.std.specs.Prelude.{◌↔◌}
use Rattle.plain_store.specs.declared.refusal.MakeRefused.TheVariants.{Full}
use Rattle.plain_protocol.specs.plain_state.State.{Plain}
use Rattle.plain_store.specs.Heaps.{NoneFree}
use Rattle.plain_store.specs.Stores.{plain_of}
use Rattle.plain_store.proofs.CallsCalm.{call_calm, makes_calm}
use Rattle.plain_store.proofs.Fits.{fit_made}
use Rattle.cdrc_plain.proofs.Watched.{restless_on}
use Rattle.cdrc_plain.proofs.heap.PlainHeap.make.Goals as goal

pub invariant_of-self : goal.invariant_of-self
invariant_of-self g c =
    let p = plain_of c.self.inside.store in
    let q = plain_of c.make.new.self in (
      c.make.ensures.kept,
      fit_made g.W.PayloadKind.fits p q c.args.payload c.make.result c.self.invariant.1 c.requires c.make.ensures.slots c.make.ensures.err,
      restless_on c.self.inside.restless p q
          (call_calm c.make.result _ p q c.make.ensures.made c.make.ensures.err (λ s. makes_calm p q c.self.invariant.0.sound s c.args.payload)) c.self.invariant.2,
    )

pub returns-clause-full : goal.returns-clause-full
returns-clause-full g c = subst (λ (p : Plain). (c.make.result ≡ Err Full) ↔ NoneFree p) c.self.view_is c.make.ensures.full
