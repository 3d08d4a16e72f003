use Rattle.std.proofs.Common.{inr, ap, subst, ◌∙◌}
use Rattle.std.specs.Prelude.{None}
use Rattle.weak_part_calls.specs.core_events.declared.view.CoreView.{CoreView}
use Rattle.weak_part_calls.specs.atomic_shared.Places.{named}
use Rattle.weak_part_calls.specs.part_calls.Parts.{as_part, seen_by}
use Rattle.linked_queue.specs.declared.queue.PopError.{PopError}
use Rattle.linked_queue.specs.Losses.{IsWhyUnpopped, LosesAtHead}
use Rattle.linked_queue.proofs.Accepting.{stays_then}
use Rattle.linked_queue.proofs.Poppings.{pops_then}
use Rattle.linked_queue.proofs.Shortages.{lost_now, short_last}
use Rattle.double_link_queue.proofs.queue.DoubleQueue.pop.Goals as goal

pub returns-in-Ok-clause-popped : goal.returns-in-Ok-clause-popped
returns-in-Ok-clause-popped g c =
    pops_then (named c.in-Ok.found) (seen_by g.P.Part.seen c.args.seat.now)
    (seen_by g.P.Part.seen c.loop-try.seat) (seen_by g.P.Part.seen c.try_pop.new.seat)
    c.loop-try.invariant.3 c.in-Ok.ensures.popped

pub returns-in-Ok-clause-beside : goal.returns-in-Ok-clause-beside
returns-in-Ok-clause-beside g c =
    stays_then g.P.Part.seen g.P.Part.with_seen g.P.Part.puts_over c.args.seat.now
    c.loop-try.seat c.try_pop.new.seat c.loop-try.invariant.4 c.try_pop.ensures.beside

pub returns-in-Err-Spent-clause-why : goal.returns-in-Err-Spent-clause-why
returns-in-Err-Spent-clause-why g c = c.in-Err-Spent.ensures.spent c.in-Err-Spent.field-0-is

pub loop-try-preserved : goal.loop-try-preserved
loop-try-preserved g c =
    let d = as_part g.P.Part.part c.args.domain.now in
    let fits = g.P.Kind.PayloadKind.fits in
    let before = seen_by g.P.Part.seen c.args.seat.now in
    let mid = seen_by g.P.Part.seen c.loop-try.seat in
    let after = seen_by g.P.Part.seen c.try_pop.new.seat in
    let was = c.loop-try.invariant in (
      c.try_pop.ensures.rest,
      c.try_pop.ensures.room,
      c.try_pop.ensures.attached,
      pops_then None before mid after was.3 c.in-Err-Again.ensures.popped,
      stays_then g.P.Part.seen g.P.Part.with_seen g.P.Part.puts_over c.args.seat.now
          c.loop-try.seat c.try_pop.new.seat was.4 c.try_pop.ensures.beside,
      c.try_pop.ensures.makes ∙ was.5,
      inr (lost_now (LosesAtHead fits d None) before mid after was.3.leaves.trail _ _
          (subst (λ (e : PopError). IsWhyUnpopped fits d None 3 e mid after)
          c.in-Err-Again.field-0-is c.in-Err-Again.ensures.why)),
    )

pub returns-in-Err-Spent-clause-short : goal.returns-in-Err-Spent-clause-short
returns-in-Err-Spent-clause-short g c =
    let d = as_part g.P.Part.part c.args.domain.now in
    let fits = g.P.Kind.PayloadKind.fits in
    let mid = seen_by g.P.Part.seen c.loop-try.seat in
    let after = seen_by g.P.Part.seen c.try_pop.new.seat in
    let was = c.loop-try.invariant in
    short_last (LosesAtHead fits d None) (seen_by g.P.Part.seen c.args.seat.now) mid after 3 was.6
    (ap (λ (v : CoreView). v.quota.adds) was.3.leaves.same)
    (subst (λ (e : PopError). IsWhyUnpopped fits d None 3 e mid after)
    c.in-Err-Spent.field-0-is c.in-Err-Spent.ensures.why)
    c.in-Err-Spent.ensures.popped.leaves.trail
