use Rattle.std.proofs.Common.{subst, sym}
use Rattle.std.specs.Prelude.{All, IfSome}
use Rattle.std.proofs.lemmas.List.Elements.{All-pop, All-push}
use Rattle.seat_life.specs.Free.{IsFree}
use Rattle.seat_life.proofs.threads.list_last.Goals as goal

pub returns-in_default-push-2-clause-done : goal.returns-in_default-push-2-clause-done
returns-in_default-push-2-clause-done g c =
    let d = c.args.domain.now in
    let last = (All-pop (λ pair. IsFree d pair.0) c.args.pairs.now.items c.pop.new.self.items
    c.pop.result c.pop.ensures.items c.requires.pairs).1 in
    let free = subst (λ r. IfSome r (λ pair. IsFree d pair.0)) c.in-Some.is last in
    subst (All (IsFree d)) (sym c.in_default-push.ensures.items)
    (All-push (IsFree d) c.args.done.now.seats.items c.in-Some.seat c.requires.done free)
