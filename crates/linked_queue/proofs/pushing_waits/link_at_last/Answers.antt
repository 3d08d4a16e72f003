use Rattle.std.proofs.Common.{inr, ap, sym, subst, ◌∙◌}
use Rattle.std.specs.Prelude.{Some, None}
use Rattle.queue_protocol.specs.queue_law.declared.view.View.{View}
use Rattle.queue_protocol.specs.queue_law.Pushes.{carried_item}
use Rattle.slot_store.specs.core_events.declared.view.CoreView.{CoreView}
use Rattle.slot_store.specs.counted_handles.declared.refusal.LoadError.{LoadError}
use Rattle.part_calls.specs.Parts.{as_part, seen_by}
use Rattle.linked_queue.specs.Pushes.{IsWhyUnlinked}
use Rattle.linked_queue.specs.PushLosses.{LosesLast}
use Rattle.linked_queue.specs.Waits.{LosesAnyNode}
use Rattle.linked_queue.proofs.Accepting.{may_still}
use Rattle.linked_queue.proofs.Poppings.{leaves_then}
use Rattle.linked_queue.proofs.Shortages.{lost_now, short_last}
use Rattle.linked_queue.proofs.pushing_waits.link_at_last.Goals as goal

pub returns-in-Ok-clause-leaves : goal.returns-in-Ok-clause-leaves
returns-in-Ok-clause-leaves g c =
    leaves_then (Some c.in-Ok.last.slot) (seen_by g.P.Part.seen c.args.seat.now)
    (seen_by g.P.Part.seen c.loop-try.seat) (seen_by g.P.Part.seen c.link_last.new.seat)
    c.loop-try.invariant.5.leaves c.in-Ok.ensures.leaves

pub loop-try-preserved : goal.loop-try-preserved
loop-try-preserved g c =
    let d = as_part g.P.Part.part c.args.domain.now in
    let fits = g.P.Kind.PayloadKind.fits in
    let before = seen_by g.P.Part.seen c.args.seat.now in
    let mid = seen_by g.P.Part.seen c.loop-try.seat in
    let after = seen_by g.P.Part.seen c.link_last.new.seat in
    let was = c.loop-try.invariant in
    let same = c.in-Err-Moved.ensures.refused in (
      c.link_last.ensures.rest,
      c.link_last.ensures.room,
      record {
        here = ap (λ (v : View). v.here) same ∙ was.2.here;
        attached = ap (λ (v : View). v.attached) same ∙ was.2.attached;
      },
      c.in-Err-Moved.ensures.load,
      may_still g.P.Part.seen g.P.Part.with_seen g.P.Part.puts_back g.P.Part.puts_over
          g.P.HasQueue.may_push g.met.P.HasQueue.stays c.args.domain.now.protocol
          c.loop-try.seat c.link_last.new.seat
          (carried_item (g.P.Part.seen c.loop-try.seat.view.client))
          (carried_item (g.P.Part.seen c.link_last.new.seat.view.client))
          c.link_last.ensures.beside_part (ap carried_item (sym same)) was.4,
      record {
        leaves = leaves_then None (seen_by g.P.Part.seen c.args.seat.now)
            (seen_by g.P.Part.seen c.loop-try.seat)
            (seen_by g.P.Part.seen c.link_last.new.seat) was.5.leaves c.in-Err-Moved.ensures.leaves;
        beside = same ∙ was.5.beside;
      },
      c.link_last.ensures.beside_part ∙ was.6,
      c.link_last.ensures.makes ∙ was.7,
      inr (lost_now (LosesAnyNode fits d) before mid after was.5.leaves.trail _ _ (
        c.args.node,
        subst (λ (e : LoadError). IsWhyUnlinked
            (λ seen now. LosesLast fits d c.args.node seen now mid after) 3 e mid)
            c.in-Err-Moved.field-0-is c.in-Err-Moved.ensures.why,
      )),
    )

pub returns-in-Err-Spent-clause-why : goal.returns-in-Err-Spent-clause-why
returns-in-Err-Spent-clause-why g c = c.in-Err-Spent.ensures.spent c.in-Err-Spent.field-0-is

pub returns-in-Err-Spent-clause-short : goal.returns-in-Err-Spent-clause-short
returns-in-Err-Spent-clause-short g c =
    let d = as_part g.P.Part.part c.args.domain.now in
    let fits = g.P.Kind.PayloadKind.fits in
    let mid = seen_by g.P.Part.seen c.loop-try.seat in
    let after = seen_by g.P.Part.seen c.link_last.new.seat in
    let was = c.loop-try.invariant in
    short_last (LosesAnyNode fits d) (seen_by g.P.Part.seen c.args.seat.now) mid after 3 was.8
    (ap (λ (v : CoreView). v.quota.adds) was.5.leaves.same)
    (subst (λ (e : LoadError). IsWhyUnlinked
    (λ seen now. LosesLast fits d c.args.node seen now mid after) 3 e mid)
    c.in-Err-Spent.field-0-is c.in-Err-Spent.ensures.why)
    c.link_last.ensures.leaves.trail
