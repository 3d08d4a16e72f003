use Rattle.std.proofs.Common.{refl, ◌∙◌, subst, arith}
use Rattle.queue_protocol.specs.plain_state.declared.slot.SlotId.{SlotId}
use Rattle.part_calls.specs.Parts.{as_part, seen_by}
use Rattle.linked_queue.specs.Pushes.{Advances, Links}
use Rattle.linked_queue.proofs.Leavings.{drop_leaves, drop_makes, drop_spent, leaves_same}
use Rattle.linked_queue.proofs.Linkings.{then_gives}
use Rattle.linked_queue.proofs.Pushings.{gives_both, l_there}
use Rattle.linked_queue.specs.PushLosses.{LosesLast, LosesNode}
use Rattle.linked_queue.proofs.Linkings.{why_later}
use Rattle.linked_queue.proofs.pushing.push_node.Goals as goal

pub drop_strong-requires-clause-owned : goal.drop_strong-requires-clause-owned
drop_strong-requires-clause-owned g c =
    let old = (seen_by g.P.Part.seen c.args.seat.now) in
    let linked = (seen_by g.P.Part.seen c.link_last.new.seat) in
    let late = (seen_by g.P.Part.seen c.advance.new.seat) in
    l_there c.args.node.slot c.in-Ok.last.slot old linked linked late late c.requires.load.owns
    c.in-Ok.ensures.leaves (leaves_same linked linked refl) c.advance.ensures.leaves

pub returns-in-Ok-clause-leaves : goal.returns-in-Ok-clause-leaves
returns-in-Ok-clause-leaves g c =
    let old = (seen_by g.P.Part.seen c.args.seat.now) in
    let linked = (seen_by g.P.Part.seen c.link_last.new.seat) in
    let late = (seen_by g.P.Part.seen c.advance.new.seat) in
    let new = (seen_by g.P.Part.seen c.drop_strong.new.seat) in
    gives_both c.args.node.slot c.in-Ok.last.slot old linked linked late new
    c.requires.load.owns c.in-Ok.ensures.leaves (leaves_same linked linked refl)
    c.advance.ensures.leaves
    (drop_leaves c.in-Ok.last.slot late new c.drop_strong.ensures.dropped
    c.drop_strong.ensures.objects)

pub returns-in-Ok-clause-makes : goal.returns-in-Ok-clause-makes
returns-in-Ok-clause-makes g c =
    drop_makes c.in-Ok.last.slot (seen_by g.P.Part.seen c.advance.new.seat)
    (seen_by g.P.Part.seen c.drop_strong.new.seat) c.drop_strong.ensures.dropped
    ∙ (c.advance.ensures.makes ∙ c.in-Ok.ensures.makes)

pub returns-in-Err-clause-leaves : goal.returns-in-Err-clause-leaves
returns-in-Err-clause-leaves g c =
    let late = (seen_by g.P.Part.seen c.link_last.new.seat) in
    let new = (seen_by g.P.Part.seen c.drop_strong-in-Err.new.seat) in
    then_gives c.args.node.slot (seen_by g.P.Part.seen c.args.seat.now) late new
    c.requires.load.owns c.in-Err.ensures.leaves
    (drop_leaves c.args.node.slot late new c.drop_strong-in-Err.ensures.dropped
    c.drop_strong-in-Err.ensures.objects)

pub returns-in-Ok-clause-events : goal.returns-in-Ok-clause-events
returns-in-Ok-clause-events g c = record {
  last = c.in-Ok.last.slot;
  found = c.in-Ok.ensures.events.found;
  linked = (seen_by g.P.Part.seen c.link_last.new.seat);
  late = (seen_by g.P.Part.seen c.advance.new.seat);
  finds = c.in-Ok.ensures.events.finds;
  links = subst (λ (s : SlotId). Links g.P.Kind.PayloadKind.fits (as_part g.P.Part.part c.args.domain.now)
      c.in-Ok.last.slot s c.in-Ok.ensures.events.found (seen_by g.P.Part.seen c.link_last.new.seat))
      c.slot.ensures c.in-Ok.ensures.events.links;
  advances = subst (λ (s : SlotId). Advances g.P.Kind.PayloadKind.fits (as_part g.P.Part.part c.args.domain.now)
      s c.args.node.slot (seen_by g.P.Part.seen c.link_last.new.seat)
      (seen_by g.P.Part.seen c.advance.new.seat)) c.slot-in-Ok.ensures c.advance.ensures.advances;
  drops = c.drop_strong.ensures.dropped;
}

pub returns-in-Err-clause-spent : goal.returns-in-Err-clause-spent
returns-in-Err-clause-spent g c = λ is.
    drop_spent c.args.node.slot (seen_by g.P.Part.seen c.link_last.new.seat)
    (seen_by g.P.Part.seen c.drop_strong-in-Err.new.seat) c.drop_strong-in-Err.ensures.dropped
    (c.in-Err.ensures.spent is)

pub returns-in-Err-clause-why : goal.returns-in-Err-clause-why
returns-in-Err-clause-why g c =
    let d = as_part g.P.Part.part c.args.domain.now in
    let fits = g.P.Kind.PayloadKind.fits in
    let before = seen_by g.P.Part.seen c.args.seat.now in
    let lost = seen_by g.P.Part.seen c.link_last.new.seat in
    let after = seen_by g.P.Part.seen c.drop_strong-in-Err.new.seat in
    why_later (λ was now. LosesLast fits d c.slot.result was now before lost)
    (λ was now. LosesNode fits d c.args.node.slot was now before after) 3 3 0 refl c.in-Err.error
    before before (omega arith) refl
    (λ was now m. record {
      lost = lost;
      loses = subst (λ (s : SlotId). LosesLast fits d s was now before lost) c.slot.ensures m;
      drops = c.drop_strong-in-Err.ensures.dropped;
    })
    c.in-Err.ensures.why
