use Rattle.std.proofs.Common.{inl, [], ◌∷◌, ◌++◌, refl, ap, sym, ◌∙◌, arith}
use Rattle.std.specs.Prelude.{None}
use Rattle.weak_part_calls.specs.core_events.declared.view.CoreView.{CoreView}
use Rattle.linked_queue.specs.queue_law.declared.view.Item.{Item}
use Rattle.linked_queue.specs.queue_law.declared.view.View.{View}
use Rattle.linked_queue.specs.queue_law.Pushes.{carried_item}
use Rattle.linked_queue.specs.queue_law.Views.{first_view}
use Rattle.weak_part_calls.specs.part_calls.Parts.{seen_by, as_part}
use Rattle.weak_part_calls.proofs.Below.part_calls_Beside.{stays_beside}
use Rattle.linked_queue.specs.Pops.{item_in}
use Rattle.linked_queue.specs.Pushes.{pushed_too}
use Rattle.linked_queue.specs.Queues.{deeds_in}
use Rattle.linked_queue.proofs.Accepting.{may_still}
use Rattle.weak_part_calls.specs.core_events.Views.{without}
use Rattle.linked_queue.proofs.Leavings.{drop_leaves, drop_makes}
use Rattle.double_link_queue.specs.Pushes.{landed_in}
use Rattle.double_link_queue.proofs.Leavings.{both_same}
use Rattle.double_link_queue.proofs.Owning.{both_of, nothing_gives, through_both}
use Rattle.linked_queue.proofs.Pushings.{few_made, never_pushed}
use Rattle.linked_queue.proofs.Shortages.{short_after}
use Rattle.double_link_queue.specs.Waits.{LosesAnyNode}
use Rattle.double_link_queue.proofs.queue.DoubleQueue.push.Goals as goal

pub returns-in-Err-clause-beside : goal.returns-in-Err-clause-beside
returns-in-Err-clause-beside g c =
    stays_beside g.P.Part.seen g.P.Part.with_seen first_view g.P.Part.puts_back
    g.P.Part.puts_over c.args.seat.now c.load_node.new.seat
    c.load_node.ensures.beside_part

pub push_at_last-requires-clause-may : goal.push_at_last-requires-clause-may
push_at_last-requires-clause-may g c =
    may_still g.P.Part.seen g.P.Part.with_seen g.P.Part.puts_back g.P.Part.puts_over
    g.P.HasQueue.may_push g.met.P.HasQueue.stays c.args.domain.now.protocol c.args.seat.now
    c.load_node.new.seat (item_in (seen_by g.P.Part.seen c.args.seat.now) c.args.item.slot)
    (carried_item (g.P.Part.seen c.load_node.new.seat.view.client))
    c.load_node.ensures.beside_part (sym c.in-Ok.ensures.carried) c.requires.may

pub drop_strong-requires-clause-owned : goal.drop_strong-requires-clause-owned
drop_strong-requires-clause-owned g c =
    let old = (seen_by g.P.Part.seen c.args.seat.now) in
    let loaded = (seen_by g.P.Part.seen c.load_node.new.seat) in
    let pushed = (seen_by g.P.Part.seen c.push_at_last.new.seat) in
    let all = through_both c.in-Ok.node.slot None old loaded loaded pushed
    (both_of (old.view.core.owned ++ c.in-Ok.node.slot ∷ []) old loaded c.in-Ok.ensures.leaves)
    (both_same loaded loaded refl) c.push_at_last.ensures.leaves in
    let at = all.owns c.args.item.slot in
    let some' = c.requires.item in omega arith

pub returns-in-Ok-push_at_last-clause-pushed : goal.returns-in-Ok-push_at_last-clause-pushed
returns-in-Ok-push_at_last-clause-pushed g c =
    let before = seen_by g.P.Part.seen c.args.seat.now in
    let after_drop_strong = seen_by g.P.Part.seen c.drop_strong.new.seat in
    let after_load_node = seen_by g.P.Part.seen c.load_node.new.seat in
    let after_push_at_last = seen_by g.P.Part.seen c.push_at_last.new.seat in
    let old = before in
    let loaded = after_load_node in
    let pushed = after_push_at_last in
    let all = through_both c.in-Ok.node.slot None old loaded loaded pushed
    (both_of (old.view.core.owned ++ c.in-Ok.node.slot ∷ []) old loaded c.in-Ok.ensures.leaves)
    (both_same loaded loaded refl) c.push_at_last.ensures.leaves in
    let new = after_drop_strong in
    let item = c.args.item.slot in
    record {
      leaves = nothing_gives item old pushed new c.requires.item all
          (both_of (without item pushed.view.core.owned) pushed new
          (drop_leaves item pushed new c.drop_strong.ensures.dropped
          c.drop_strong.ensures.objects));
      deeds = ap deeds_in c.drop_strong.ensures.seen ∙ c.in-Ok-push_at_last.ensures.pushed
          ∙ ap (λ (i : Item). pushed_too i (landed_in (deeds_in loaded.view.client)))
          c.in-Ok.ensures.carried
          ∙ ap (λ (v : View). pushed_too (item_in old item) (landed_in v))
          c.load_node.ensures.deeds;
    }

pub returns-in-Ok-push_at_last-clause-beside : goal.returns-in-Ok-push_at_last-clause-beside
returns-in-Ok-push_at_last-clause-beside g c =
    stays_beside g.P.Part.seen g.P.Part.with_seen first_view g.P.Part.puts_back
    g.P.Part.puts_over c.args.seat.now c.drop_strong.new.seat
    (c.drop_strong.ensures.beside ∙ c.push_at_last.ensures.beside_part
    ∙ c.load_node.ensures.beside_part)

pub returns-in-Err-push_at_last-clause-refused : goal.returns-in-Err-push_at_last-clause-refused
returns-in-Err-push_at_last-clause-refused g c =
    let old = (seen_by g.P.Part.seen c.args.seat.now) in
    let loaded = (seen_by g.P.Part.seen c.load_node.new.seat) in
    let pushed = (seen_by g.P.Part.seen c.push_at_last.new.seat) in
    let all = through_both c.in-Ok.node.slot None old loaded loaded pushed
    (both_of (old.view.core.owned ++ c.in-Ok.node.slot ∷ []) old loaded c.in-Ok.ensures.leaves)
    (both_same loaded loaded refl) c.push_at_last.ensures.leaves in
    record {
      leaves = all;
      deeds = c.in-Err-push_at_last.ensures.refused ∙ c.load_node.ensures.deeds;
    }

pub returns-in-Err-push_at_last-clause-beside : goal.returns-in-Err-push_at_last-clause-beside
returns-in-Err-push_at_last-clause-beside g c =
    stays_beside g.P.Part.seen g.P.Part.with_seen first_view g.P.Part.puts_back
    g.P.Part.puts_over c.args.seat.now c.push_at_last.new.seat
    (c.push_at_last.ensures.beside_part ∙ c.load_node.ensures.beside_part)

pub returns-in-Err-clause-why : goal.returns-in-Err-clause-why
returns-in-Err-clause-why g c =
    never_pushed g.P.Kind.PayloadKind.fits (as_part g.P.Part.part c.args.domain.now) 1 c.in-Err.why
    (seen_by g.P.Part.seen c.args.seat.now) (seen_by g.P.Part.seen c.load_node.new.seat)
    c.in-Err.ensures.why c.in-Err.ensures.spent

pub returns-in-Ok-push_at_last-clause-makes : goal.returns-in-Ok-push_at_last-clause-makes
returns-in-Ok-push_at_last-clause-makes g c =
    let same = drop_makes c.args.item.slot (seen_by g.P.Part.seen c.push_at_last.new.seat)
    (seen_by g.P.Part.seen c.drop_strong.new.seat) c.drop_strong.ensures.dropped in
    let none = c.push_at_last.ensures.makes in
    let makes = c.load_node.ensures.makes in omega arith

pub returns-in-Ok-push_at_last-clause-makes_kept : goal.returns-in-Ok-push_at_last-clause-makes_kept
returns-in-Ok-push_at_last-clause-makes_kept g c =
    let same = drop_makes c.args.item.slot (seen_by g.P.Part.seen c.push_at_last.new.seat)
    (seen_by g.P.Part.seen c.drop_strong.new.seat) c.drop_strong.ensures.dropped in
    let none = c.push_at_last.ensures.makes in
    let makes = c.load_node.ensures.makes_kept in omega arith

pub returns-in-Ok-push_at_last-clause-events : goal.returns-in-Ok-push_at_last-clause-events
returns-in-Ok-push_at_last-clause-events g c = record {
  node = c.in-Ok.node.slot;
  loaded = seen_by g.P.Part.seen c.load_node.new.seat;
  pushed = seen_by g.P.Part.seen c.push_at_last.new.seat;
  loads = c.in-Ok.ensures.events;
  pushes = c.in-Ok-push_at_last.ensures.events;
  drops = c.drop_strong.ensures.dropped;
}

pub returns-in-Err-clause-short : goal.returns-in-Err-clause-short
returns-in-Err-clause-short g c = λ is.
    inl (few_made g.P.Kind.PayloadKind.fits (as_part g.P.Part.part c.args.domain.now) 1 7
    (omega arith) c.in-Err.why (seen_by g.P.Part.seen c.args.seat.now)
    (seen_by g.P.Part.seen c.load_node.new.seat) is c.in-Err.ensures.why)

pub returns-in-Err-push_at_last-clause-short : goal.returns-in-Err-push_at_last-clause-short
returns-in-Err-push_at_last-clause-short g c = λ is.
    short_after
    (LosesAnyNode g.P.Kind.PayloadKind.fits (as_part g.P.Part.part c.args.domain.now))
    (seen_by g.P.Part.seen c.args.seat.now) (seen_by g.P.Part.seen c.load_node.new.seat)
    (seen_by g.P.Part.seen c.push_at_last.new.seat) 5 7 2 refl c.load_node.ensures.adds
    (ap (λ (v : CoreView). v.quota.adds) c.in-Ok.ensures.leaves.same) c.in-Ok.ensures.leaves.trail
    c.in-Err-push_at_last.ensures.short
