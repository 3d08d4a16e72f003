use Rattle.linked_queue.proofs.Linkings.{why_later}
use Rattle.double_link_queue.specs.Steps.{Lands, LosesLast, LosesNode, TakesLast}
use Rattle.weak_part_calls.specs.plain_state.declared.slot.SlotId.{SlotId}
use Rattle.std.proofs.Common.{refl, subst, arith, ◌∙◌}
use Rattle.weak_part_calls.specs.core_events.Views.{without}
use Rattle.weak_part_calls.specs.part_calls.Parts.{seen_by, as_part}
use Rattle.linked_queue.proofs.Leavings.{drop_leaves, drop_spent, drop_makes}
use Rattle.double_link_queue.proofs.Owning.{both_of, gives_both, l_there, nothing_gives}
use Rattle.double_link_queue.proofs.chaining.push_node.Goals as goal

pub drop_strong-requires-clause-owned : goal.drop_strong-requires-clause-owned
drop_strong-requires-clause-owned g c =
    let old = seen_by g.P.Part.seen c.args.seat.now in
    let mid = seen_by g.P.Part.seen c.take_last.new.seat in
    let late = seen_by g.P.Part.seen c.land.new.seat in
    let node = c.args.node.slot in
    l_there node c.in-Ok.last.slot old mid late late c.requires.load.owns c.in-Ok.ensures.leaves
    (both_of (without node mid.view.core.owned) mid late c.land.ensures.leaves)

pub returns-in-Ok-clause-leaves : goal.returns-in-Ok-clause-leaves
returns-in-Ok-clause-leaves g c =
    let old = seen_by g.P.Part.seen c.args.seat.now in
    let mid = seen_by g.P.Part.seen c.take_last.new.seat in
    let late = seen_by g.P.Part.seen c.land.new.seat in
    let new = seen_by g.P.Part.seen c.drop_strong.new.seat in
    let node = c.args.node.slot in
    let last = c.in-Ok.last.slot in
    let lands = both_of (without node mid.view.core.owned) mid late c.land.ensures.leaves in
    gives_both node last old mid late new c.requires.load.owns c.in-Ok.ensures.leaves lands
    (l_there node last old mid late late c.requires.load.owns c.in-Ok.ensures.leaves lands)
    (both_of (without last late.view.core.owned) late new
    (drop_leaves last late new c.drop_strong.ensures.dropped c.drop_strong.ensures.objects))

pub returns-in-Err-clause-leaves : goal.returns-in-Err-clause-leaves
returns-in-Err-clause-leaves g c =
    let old = seen_by g.P.Part.seen c.args.seat.now in
    let mid = seen_by g.P.Part.seen c.take_last.new.seat in
    let new = seen_by g.P.Part.seen c.drop_strong-in-Err.new.seat in
    let node = c.args.node.slot in
    nothing_gives node old mid new c.requires.load.owns c.in-Err.ensures.leaves
    (both_of (without node mid.view.core.owned) mid new
    (drop_leaves node mid new c.drop_strong-in-Err.ensures.dropped
    c.drop_strong-in-Err.ensures.objects))

pub returns-in-Err-clause-spent : goal.returns-in-Err-clause-spent
returns-in-Err-clause-spent g c = λ is.
    drop_spent c.args.node.slot (seen_by g.P.Part.seen c.take_last.new.seat)
    (seen_by g.P.Part.seen c.drop_strong-in-Err.new.seat) c.drop_strong-in-Err.ensures.dropped
    (c.in-Err.ensures.spent is)

pub returns-in-Ok-clause-events : goal.returns-in-Ok-clause-events
returns-in-Ok-clause-events g c =
    let d = as_part g.P.Part.part c.args.domain.now in
    let fits = g.P.Kind.PayloadKind.fits in
    let before = seen_by g.P.Part.seen c.args.seat.now in
    let taken = seen_by g.P.Part.seen c.take_last.new.seat in
    let landed = seen_by g.P.Part.seen c.land.new.seat in
    record {
      last = c.in-Ok.last.slot;
      taken = taken;
      landed = landed;
      takes = subst (λ (s : SlotId). TakesLast fits d c.in-Ok.last.slot s before taken)
          c.slot.ensures c.in-Ok.ensures.events;
      lands = subst (λ (s : SlotId). Lands fits d s c.args.node.slot taken landed)
          c.slot-in-Ok.ensures c.land.ensures.events;
      drops = c.drop_strong.ensures.dropped;
    }

pub returns-in-Err-clause-why : goal.returns-in-Err-clause-why
returns-in-Err-clause-why g c =
    let d = as_part g.P.Part.part c.args.domain.now in
    let fits = g.P.Kind.PayloadKind.fits in
    let before = seen_by g.P.Part.seen c.args.seat.now in
    let lost = seen_by g.P.Part.seen c.take_last.new.seat in
    let after = seen_by g.P.Part.seen c.drop_strong-in-Err.new.seat in
    why_later (λ was now. LosesLast fits d c.slot.result was now before lost)
    (λ was now. LosesNode fits d c.args.node.slot was now before after) 5 5 0 refl c.in-Err.error
    before before (omega arith) refl
    (λ was now m. record {
      lost = lost;
      loses = subst (λ (s : SlotId). LosesLast fits d s was now before lost) c.slot.ensures m;
      drops = c.drop_strong-in-Err.ensures.dropped;
    })
    c.in-Err.ensures.why

pub returns-in-Ok-clause-makes : goal.returns-in-Ok-clause-makes
returns-in-Ok-clause-makes g c =
    drop_makes c.in-Ok.last.slot (seen_by g.P.Part.seen c.land.new.seat)
    (seen_by g.P.Part.seen c.drop_strong.new.seat) c.drop_strong.ensures.dropped
    ∙ c.land.ensures.makes ∙ c.take_last.ensures.makes
