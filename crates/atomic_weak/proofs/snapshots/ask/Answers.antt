use Rattle.std.proofs.Common.{ℕ, subst}
use Rattle.std.specs.Prelude.{Option}
use Rattle.atomic_weak.specs.Questions.{IsReadyFor}
use Rattle.atomic_weak.proofs.snapshots.ask.Goals as goal

pub guard-requires-clause-deed : goal.guard-requires-clause-deed
guard-requires-clause-deed g c =
    subst (λ (w : Option ℕ).
    IsReadyFor g.P.Kind.PayloadKind.fits c.args.domain.now w c.args.slot
    (g.D.Deed.ready c.args.deed c.args.domain.now.protocol) c.args.seat.now)
    c.in-Some.is c.requires.deed

pub count-requires-clause-deed : goal.count-requires-clause-deed
count-requires-clause-deed g c =
    subst (λ (w : Option ℕ).
    IsReadyFor g.P.Kind.PayloadKind.fits c.args.domain.now w c.args.slot
    (g.D.Deed.ready c.args.deed c.args.domain.now.protocol) c.args.seat.now)
    c.in-None.is c.requires.deed
