use Rattle.std.proofs.Common.{subst, sym, arith, ◌∙◌}
use Rattle.plain_protocol.specs.plain_state.State.{Plain}
use Rattle.plain_protocol.specs.plain_state.Fits.{AllFit}
use Rattle.plain_store.specs.Settling.{SettlesTo}
use Rattle.plain_store.specs.Stores.{plain_of}
use Rattle.plain_store.proofs.Ejecting.{ejects_as_announced}
use Rattle.plain_store.proofs.Settlings.{then_settles}
use Rattle.plain_store.proofs.SettlingRounds.{fit_after}
use Rattle.cdrc_plain.proofs.heap.PlainHeap.settle.Goals as goal

pub drain-requires-clause-fit : goal.drain-requires-clause-fit
drain-requires-clause-fit g c =
    let W = g.W.PayloadKind in
    fit_after W.fits W.weight g.met.W.PayloadKind.bounded c.make_room.new.self c.calm_down.new.store 0 c.make_room.ensures.kept
    (subst (AllFit W.fits) (sym c.make_room.ensures.plain) c.self.invariant.1)
    (c.calm_down.ensures.settles W.weight)

pub invariant_of-self-2 : goal.invariant_of-self-2
invariant_of-self-2 g c =
    let W = g.W.PayloadKind in (
      c.drain.ensures.kept,
      fit_after W.fits W.weight g.met.W.PayloadKind.bounded c.calm_down.new.store c.drain.new.store c.drain.result c.calm_down.ensures.kept
          (fit_after W.fits W.weight g.met.W.PayloadKind.bounded c.make_room.new.self c.calm_down.new.store 0 c.make_room.ensures.kept
          (subst (AllFit W.fits) (sym c.make_room.ensures.plain) c.self.invariant.1)
          (c.calm_down.ensures.settles W.weight))
          c.drain.ensures.settles,
      λ s. (c.drain.ensures.settled.ended s, c.drain.ensures.settled.given s),
    )

pub returns-clause-settles : goal.returns-clause-settles
returns-clause-settles g c =
    let W = g.W.PayloadKind in
    subst (λ (p : Plain). SettlesTo W.weight p c.drain.result (plain_of c.drain.new.store)) (c.make_room.ensures.plain ∙ c.self.view_is)
    (then_settles W.weight (plain_of c.make_room.new.self) (plain_of c.calm_down.new.store) (plain_of c.drain.new.store) 0 c.drain.result c.drain.result
    (c.calm_down.ensures.settles W.weight) c.drain.ensures.settles (omega arith))

pub returns-clause-ejects : goal.returns-clause-ejects
returns-clause-ejects g c =
    let W = g.W.PayloadKind in
    let by = returns-clause-settles g c in
    (by.0, by.1, ejects_as_announced W.weight by.0 c.args.self.now (plain_of c.drain.new.store) c.drain.result by.1 c.drain.ensures.settled)
