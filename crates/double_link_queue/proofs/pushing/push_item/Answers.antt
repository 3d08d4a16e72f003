use Rattle.std.proofs.Common.{ap, ◌∙◌, arith}
use Rattle.weak_part_calls.specs.part_calls.Parts.{seen_by}
use Rattle.weak_part_calls.specs.core_events.Views.{without}
use Rattle.linked_queue.specs.Queues.{deeds_in}
use Rattle.linked_queue.proofs.Leavings.{drop_leaves, drop_makes}
use Rattle.double_link_queue.proofs.Owning.{both_of, nothing_gives}
use Rattle.double_link_queue.proofs.pushing.push_item.Goals as goal

pub returns-in-Ok-clause-pushed : goal.returns-in-Ok-clause-pushed
returns-in-Ok-clause-pushed g c =
    let old = seen_by g.P.Part.seen c.args.seat.now in
    let mid = seen_by g.P.Part.seen c.push_copy.new.seat in
    let new = seen_by g.P.Part.seen c.drop_strong.new.seat in
    let item = c.args.item.slot in
    record {
      leaves = nothing_gives item old mid new c.requires.item c.push_copy.ensures.leaves
          (both_of (without item mid.view.core.owned) mid new
          (drop_leaves item mid new c.drop_strong.ensures.dropped c.drop_strong.ensures.objects));
      deeds = ap deeds_in c.drop_strong.ensures.seen ∙ c.in-Ok.ensures.pushed;
    }

pub returns-in-Ok-clause-events : goal.returns-in-Ok-clause-events
returns-in-Ok-clause-events g c = record {
  pushed = seen_by g.P.Part.seen c.push_copy.new.seat;
  copy = c.in-Ok.ensures.events;
  drops = c.drop_strong.ensures.dropped;
}

pub returns-in-Ok-clause-makes : goal.returns-in-Ok-clause-makes
returns-in-Ok-clause-makes g c =
    let same = drop_makes c.args.item.slot (seen_by g.P.Part.seen c.push_copy.new.seat)
    (seen_by g.P.Part.seen c.drop_strong.new.seat) c.drop_strong.ensures.dropped in
    let makes = c.push_copy.ensures.makes in omega arith

pub returns-in-Ok-clause-makes_kept : goal.returns-in-Ok-clause-makes_kept
returns-in-Ok-clause-makes_kept g c =
    let same = drop_makes c.args.item.slot (seen_by g.P.Part.seen c.push_copy.new.seat)
    (seen_by g.P.Part.seen c.drop_strong.new.seat) c.drop_strong.ensures.dropped in
    let makes = c.push_copy.ensures.makes_kept in omega arith
