use Rattle.std.proofs.Common.{◌≡◌, ◌<◌, ◌+◌, length, rules, subst, sym, arith}
use Rattle.std.specs.Prelude.{All, IfSome}
use Rattle.std.proofs.lemmas.List.Elements.{All-pop, All-push}
use Rattle.seat_life.specs.Free.{IsFree}
use Rattle.seat_life.proofs.Rests.{one_longer}
use Rattle.seat_life.proofs.threads.number_last.Goals as goal

pub returns-in_default-push-clause-jobs : goal.returns-in_default-push-clause-jobs
returns-in_default-push-clause-jobs g c =
    let d = c.args.domain.now in
    let last = (All-pop (IsFree d) c.args.seats.now.items c.pop.new.self.items c.pop.result
    c.pop.ensures.items c.requires.seats).1 in
    let free = subst (λ r. IfSome r (IsFree d)) c.in-Some.is last in
    let items = c.in_default-push.ensures.items in
    let more = one_longer c.args.jobs.now.items c.push.new.self.items
    (c.len-number.result, c.in-Some.seat) items in
    let fewer = one_longer c.pop.new.self.items c.args.seats.now.items c.in-Some.seat
    c.in-Some.ensures.items in
    let is : c.len-number.result ≡ length c.pop.new.self.items =
    search (rules, c.len-number.ensures) in
    subst (All (λ job. IsFree d job.1
    × (job.0 < length c.pop.new.self.items + length c.push.new.self.items))) (sym items)
    (All-push (λ job. IsFree d job.1
    × (job.0 < length c.pop.new.self.items + length c.push.new.self.items)) c.args.jobs.now.items
    (c.len-number.result, c.in-Some.seat)
    (λ k other low.
    let had = c.requires.jobs k other low in (had.0, let below = had.1 in omega arith))
    (free, omega arith))
