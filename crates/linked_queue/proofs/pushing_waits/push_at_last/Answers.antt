use Rattle.std.proofs.Common.{refl, subst, ◌∙◌}
use Rattle.queue_protocol.specs.plain_state.declared.slot.SlotId.{SlotId}
use Rattle.part_calls.specs.Parts.{as_part, seen_by}
use Rattle.linked_queue.specs.Pushes.{Advances}
use Rattle.linked_queue.specs.Waits.{LinksAtLast, LosesAnyNode}
use Rattle.linked_queue.proofs.Leavings.{drop_leaves, drop_spent, leaves_same, drop_makes}
use Rattle.linked_queue.proofs.Linkings.{then_gives}
use Rattle.linked_queue.proofs.Pushings.{gives_both, l_there}
use Rattle.linked_queue.proofs.Shortages.{short_then}
use Rattle.linked_queue.proofs.pushing_waits.push_at_last.Goals as goal

pub drop_strong-requires-clause-owned : goal.drop_strong-requires-clause-owned
drop_strong-requires-clause-owned g c =
    let old = (seen_by g.P.Part.seen c.args.seat.now) in
    let linked = (seen_by g.P.Part.seen c.link_at_last.new.seat) in
    let late = (seen_by g.P.Part.seen c.advance.new.seat) in
    l_there c.args.node.slot c.in-Ok.last.slot old linked linked late late c.requires.load.owns
    c.in-Ok.ensures.leaves (leaves_same linked linked refl) c.advance.ensures.leaves

pub returns-in-Ok-clause-leaves : goal.returns-in-Ok-clause-leaves
returns-in-Ok-clause-leaves g c =
    let old = (seen_by g.P.Part.seen c.args.seat.now) in
    let linked = (seen_by g.P.Part.seen c.link_at_last.new.seat) in
    let late = (seen_by g.P.Part.seen c.advance.new.seat) in
    let new = (seen_by g.P.Part.seen c.drop_strong.new.seat) in
    gives_both c.args.node.slot c.in-Ok.last.slot old linked linked late new
    c.requires.load.owns c.in-Ok.ensures.leaves (leaves_same linked linked refl)
    c.advance.ensures.leaves
    (drop_leaves c.in-Ok.last.slot late new c.drop_strong.ensures.dropped
    c.drop_strong.ensures.objects)

pub returns-in-Err-clause-leaves : goal.returns-in-Err-clause-leaves
returns-in-Err-clause-leaves g c =
    let late = (seen_by g.P.Part.seen c.link_at_last.new.seat) in
    let new = (seen_by g.P.Part.seen c.drop_strong-in-Err.new.seat) in
    then_gives c.args.node.slot (seen_by g.P.Part.seen c.args.seat.now) late new
    c.requires.load.owns c.in-Err.ensures.leaves
    (drop_leaves c.args.node.slot late new c.drop_strong-in-Err.ensures.dropped
    c.drop_strong-in-Err.ensures.objects)

pub returns-in-Ok-clause-events : goal.returns-in-Ok-clause-events
returns-in-Ok-clause-events g c = record {
  last = c.in-Ok.last.slot;
  linked = (seen_by g.P.Part.seen c.link_at_last.new.seat);
  late = (seen_by g.P.Part.seen c.advance.new.seat);
  links = subst (λ (s : SlotId). LinksAtLast g.P.Kind.PayloadKind.fits (as_part g.P.Part.part c.args.domain.now)
      c.in-Ok.last.slot s (seen_by g.P.Part.seen c.args.seat.now)
      (seen_by g.P.Part.seen c.link_at_last.new.seat)) c.slot.ensures c.in-Ok.ensures.events;
  advances = subst (λ (s : SlotId). Advances g.P.Kind.PayloadKind.fits (as_part g.P.Part.part c.args.domain.now)
      s c.args.node.slot (seen_by g.P.Part.seen c.link_at_last.new.seat)
      (seen_by g.P.Part.seen c.advance.new.seat)) c.slot-in-Ok.ensures c.advance.ensures.advances;
  drops = c.drop_strong.ensures.dropped;
}

pub returns-in-Err-clause-why : goal.returns-in-Err-clause-why
returns-in-Err-clause-why g c =
    drop_spent c.args.node.slot (seen_by g.P.Part.seen c.link_at_last.new.seat)
    (seen_by g.P.Part.seen c.drop_strong-in-Err.new.seat) c.drop_strong-in-Err.ensures.dropped
    c.in-Err.ensures.why

pub returns-in-Ok-clause-makes : goal.returns-in-Ok-clause-makes
returns-in-Ok-clause-makes g c =
    drop_makes c.in-Ok.last.slot (seen_by g.P.Part.seen c.advance.new.seat)
    (seen_by g.P.Part.seen c.drop_strong.new.seat) c.drop_strong.ensures.dropped
    ∙ c.advance.ensures.makes ∙ c.link_at_last.ensures.makes

pub returns-in-Err-clause-short : goal.returns-in-Err-clause-short
returns-in-Err-clause-short g c =
    let linked = seen_by g.P.Part.seen c.link_at_last.new.seat in
    let new = seen_by g.P.Part.seen c.drop_strong-in-Err.new.seat in
    short_then
    (LosesAnyNode g.P.Kind.PayloadKind.fits (as_part g.P.Part.part c.args.domain.now))
    (seen_by g.P.Part.seen c.args.seat.now) linked new 3
    c.in-Err.ensures.short
    (drop_leaves c.args.node.slot linked new c.drop_strong-in-Err.ensures.dropped
    c.drop_strong-in-Err.ensures.objects).trail
