use Rattle.std.proofs.Common.{inl, refl, ap, sym, ◌∙◌, arith}
use Rattle.std.specs.Prelude.{None}
use Rattle.slot_store.specs.core_events.declared.view.CoreView.{CoreView}
use Rattle.queue_protocol.specs.queue_law.declared.view.Item.{Item}
use Rattle.queue_protocol.specs.queue_law.declared.view.View.{View}
use Rattle.queue_protocol.specs.queue_law.Pushes.{carried_item}
use Rattle.queue_protocol.specs.queue_law.Views.{first_view}
use Rattle.part_calls.specs.Parts.{as_part, seen_by}
use Rattle.part_calls.proofs.Beside.{stays_beside}
use Rattle.linked_queue.specs.Pops.{item_in}
use Rattle.linked_queue.specs.Pushes.{pushed_too}
use Rattle.linked_queue.specs.Queues.{deeds_in}
use Rattle.linked_queue.specs.Waits.{LosesAnyNode}
use Rattle.linked_queue.proofs.Accepting.{may_still}
use Rattle.linked_queue.proofs.Leavings.{drop_leaves, leaves_same, drop_makes}
use Rattle.linked_queue.proofs.Linkings.{then_gives}
use Rattle.linked_queue.proofs.Owning.{through}
use Rattle.linked_queue.proofs.Pushings.{few_made, never_pushed}
use Rattle.linked_queue.proofs.Shortages.{short_after}
use Rattle.linked_queue.proofs.queue.LinkedQueue.push.Goals as goal

pub returns-in-Err-clause-beside : goal.returns-in-Err-clause-beside
returns-in-Err-clause-beside g c =
    stays_beside g.P.Part.seen g.P.Part.with_seen first_view g.P.Part.puts_back
    g.P.Part.puts_over c.args.seat.now c.load_node.new.seat
    c.load_node.ensures.beside_part

pub push_at_last-requires-clause-may : goal.push_at_last-requires-clause-may
push_at_last-requires-clause-may g c =
    may_still g.P.Part.seen g.P.Part.with_seen g.P.Part.puts_back g.P.Part.puts_over
    g.P.HasQueue.may_push g.met.P.HasQueue.stays c.args.domain.now.protocol c.args.seat.now
    c.load_node.new.seat (item_in (seen_by g.P.Part.seen c.args.seat.now) c.args.item.slot)
    (carried_item (g.P.Part.seen c.load_node.new.seat.view.client))
    c.load_node.ensures.beside_part (sym c.in-Ok.ensures.carried) c.requires.may

pub drop_strong-requires-clause-owned : goal.drop_strong-requires-clause-owned
drop_strong-requires-clause-owned g c =
    let old = (seen_by g.P.Part.seen c.args.seat.now) in
    let loaded = (seen_by g.P.Part.seen c.load_node.new.seat) in
    let pushed = (seen_by g.P.Part.seen c.push_at_last.new.seat) in
    let all = through c.in-Ok.node.slot None old loaded loaded pushed c.in-Ok.ensures.leaves
    (leaves_same loaded loaded refl) c.push_at_last.ensures.leaves in
    let at = all.owns c.args.item.slot in
    let some' = c.requires.item in omega arith

pub returns-in-Ok-push_at_last-clause-pushed : goal.returns-in-Ok-push_at_last-clause-pushed
returns-in-Ok-push_at_last-clause-pushed g c =
    let old = (seen_by g.P.Part.seen c.args.seat.now) in
    let loaded = (seen_by g.P.Part.seen c.load_node.new.seat) in
    let pushed = (seen_by g.P.Part.seen c.push_at_last.new.seat) in
    let all = through c.in-Ok.node.slot None old loaded loaded pushed c.in-Ok.ensures.leaves
    (leaves_same loaded loaded refl) c.push_at_last.ensures.leaves in
    let new = (seen_by g.P.Part.seen c.drop_strong.new.seat) in
    let item = c.args.item.slot in
    record {
      leaves = then_gives item old pushed new c.requires.item all
          (drop_leaves item pushed new c.drop_strong.ensures.dropped c.drop_strong.ensures.objects);
      deeds = ap deeds_in c.drop_strong.ensures.seen ∙ c.in-Ok-push_at_last.ensures.pushed
          ∙ ap (λ (i : Item). pushed_too i (deeds_in loaded.view.client)) c.in-Ok.ensures.carried
          ∙ ap (λ (v : View). pushed_too (item_in old item) v) c.load_node.ensures.deeds;
    }

pub returns-in-Ok-push_at_last-clause-beside : goal.returns-in-Ok-push_at_last-clause-beside
returns-in-Ok-push_at_last-clause-beside g c =
    stays_beside g.P.Part.seen g.P.Part.with_seen first_view g.P.Part.puts_back
    g.P.Part.puts_over c.args.seat.now c.drop_strong.new.seat
    (c.drop_strong.ensures.beside ∙ c.push_at_last.ensures.beside_part
    ∙ c.load_node.ensures.beside_part)

pub returns-in-Err-push_at_last-clause-refused : goal.returns-in-Err-push_at_last-clause-refused
returns-in-Err-push_at_last-clause-refused g c =
    let old = (seen_by g.P.Part.seen c.args.seat.now) in
    let loaded = (seen_by g.P.Part.seen c.load_node.new.seat) in
    let pushed = (seen_by g.P.Part.seen c.push_at_last.new.seat) in
    let all = through c.in-Ok.node.slot None old loaded loaded pushed c.in-Ok.ensures.leaves
    (leaves_same loaded loaded refl) c.push_at_last.ensures.leaves in
    record {
      leaves = all;
      deeds = c.in-Err-push_at_last.ensures.refused ∙ c.load_node.ensures.deeds;
    }

pub returns-in-Err-push_at_last-clause-beside : goal.returns-in-Err-push_at_last-clause-beside
returns-in-Err-push_at_last-clause-beside g c =
    stays_beside g.P.Part.seen g.P.Part.with_seen first_view g.P.Part.puts_back
    g.P.Part.puts_over c.args.seat.now c.push_at_last.new.seat
    (c.push_at_last.ensures.beside_part ∙ c.load_node.ensures.beside_part)

pub returns-in-Err-clause-why : goal.returns-in-Err-clause-why
returns-in-Err-clause-why g c =
    never_pushed g.P.Kind.PayloadKind.fits (as_part g.P.Part.part c.args.domain.now) 1 c.in-Err.why
    (seen_by g.P.Part.seen c.args.seat.now) (seen_by g.P.Part.seen c.load_node.new.seat)
    c.in-Err.ensures.why c.in-Err.ensures.spent

pub returns-in-Ok-push_at_last-clause-makes : goal.returns-in-Ok-push_at_last-clause-makes
returns-in-Ok-push_at_last-clause-makes g c =
    let same = drop_makes c.args.item.slot (seen_by g.P.Part.seen c.push_at_last.new.seat)
    (seen_by g.P.Part.seen c.drop_strong.new.seat) c.drop_strong.ensures.dropped in
    let none = c.push_at_last.ensures.makes in
    let makes = c.load_node.ensures.makes in omega arith

pub returns-in-Ok-push_at_last-clause-makes_kept : goal.returns-in-Ok-push_at_last-clause-makes_kept
returns-in-Ok-push_at_last-clause-makes_kept g c =
    let same = drop_makes c.args.item.slot (seen_by g.P.Part.seen c.push_at_last.new.seat)
    (seen_by g.P.Part.seen c.drop_strong.new.seat) c.drop_strong.ensures.dropped in
    let none = c.push_at_last.ensures.makes in
    let makes = c.load_node.ensures.makes_kept in omega arith

pub returns-in-Err-clause-short : goal.returns-in-Err-clause-short
returns-in-Err-clause-short g c = λ is.
    inl (few_made g.P.Kind.PayloadKind.fits (as_part g.P.Part.part c.args.domain.now) 1 5
    (omega arith) c.in-Err.why (seen_by g.P.Part.seen c.args.seat.now)
    (seen_by g.P.Part.seen c.load_node.new.seat) is c.in-Err.ensures.why)

pub returns-in-Err-push_at_last-clause-short : goal.returns-in-Err-push_at_last-clause-short
returns-in-Err-push_at_last-clause-short g c = λ is.
    short_after
    (LosesAnyNode g.P.Kind.PayloadKind.fits (as_part g.P.Part.part c.args.domain.now))
    (seen_by g.P.Part.seen c.args.seat.now) (seen_by g.P.Part.seen c.load_node.new.seat)
    (seen_by g.P.Part.seen c.push_at_last.new.seat) 3 5 2 refl c.load_node.ensures.adds
    (ap (λ (v : CoreView). v.quota.adds) c.in-Ok.ensures.leaves.same) c.in-Ok.ensures.leaves.trail
    c.in-Err-push_at_last.ensures.short
