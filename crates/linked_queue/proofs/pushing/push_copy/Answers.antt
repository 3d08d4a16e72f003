use Rattle.linked_queue.specs.Pops.{item_in}
use Rattle.queue_protocol.specs.queue_law.Pushes.{carried_item}
use Rattle.linked_queue.proofs.Accepting.{may_still}
use Rattle.part_calls.specs.Parts.{as_part, seen_by}
use Rattle.std.proofs.Common.{refl, sym, subst}
use Rattle.std.specs.Prelude.{None}
use Rattle.linked_queue.proofs.Leavings.{leaves_same}
use Rattle.linked_queue.proofs.Owning.{through}
use Rattle.slot_store.specs.counted_handles.declared.refusal.LoadError.{LoadError}
use Rattle.linked_queue.specs.PushLosses.{LosesNode}
use Rattle.linked_queue.specs.Pushes.{IsWhyUnlinked}
use Rattle.linked_queue.proofs.pushing.push_copy.Goals as goal

pub returns-in-Ok-push_node-clause-leaves : goal.returns-in-Ok-push_node-clause-leaves
returns-in-Ok-push_node-clause-leaves g c =
    through c.in-Ok.node.slot None (seen_by g.P.Part.seen c.args.seat.now) (seen_by g.P.Part.seen c.load_node.new.seat) (seen_by g.P.Part.seen c.load_node.new.seat)
    (seen_by g.P.Part.seen c.push_node.new.seat) c.in-Ok.ensures.leaves
    (leaves_same (seen_by g.P.Part.seen c.load_node.new.seat) (seen_by g.P.Part.seen c.load_node.new.seat) refl) c.push_node.ensures.leaves

pub returns-in-Err-Moved-clause-leaves : goal.returns-in-Err-Moved-clause-leaves
returns-in-Err-Moved-clause-leaves g c =
    through c.in-Ok.node.slot None (seen_by g.P.Part.seen c.args.seat.now) (seen_by g.P.Part.seen c.load_node.new.seat) (seen_by g.P.Part.seen c.load_node.new.seat)
    (seen_by g.P.Part.seen c.push_node.new.seat) c.in-Ok.ensures.leaves
    (leaves_same (seen_by g.P.Part.seen c.load_node.new.seat) (seen_by g.P.Part.seen c.load_node.new.seat) refl) c.push_node.ensures.leaves

pub returns-in-Err-Spent-clause-leaves : goal.returns-in-Err-Spent-clause-leaves
returns-in-Err-Spent-clause-leaves g c =
    through c.in-Ok.node.slot None (seen_by g.P.Part.seen c.args.seat.now) (seen_by g.P.Part.seen c.load_node.new.seat) (seen_by g.P.Part.seen c.load_node.new.seat)
    (seen_by g.P.Part.seen c.push_node.new.seat) c.in-Ok.ensures.leaves
    (leaves_same (seen_by g.P.Part.seen c.load_node.new.seat) (seen_by g.P.Part.seen c.load_node.new.seat) refl) c.push_node.ensures.leaves

pub returns-in-Ok-push_node-clause-events : goal.returns-in-Ok-push_node-clause-events
returns-in-Ok-push_node-clause-events g c = record {
  node = c.in-Ok.node.slot;
  loaded = (seen_by g.P.Part.seen c.load_node.new.seat);
  loads = c.in-Ok.ensures.events;
  pushes = c.in-Ok-push_node.ensures.events;
}

pub push_node-requires-clause-may : goal.push_node-requires-clause-may
push_node-requires-clause-may g c =
    may_still g.P.Part.seen g.P.Part.with_seen g.P.Part.puts_back g.P.Part.puts_over
    g.P.HasQueue.may_push g.met.P.HasQueue.stays c.args.domain.now.protocol c.args.seat.now
    c.load_node.new.seat (item_in (seen_by g.P.Part.seen c.args.seat.now) c.args.item.now.slot)
    (carried_item (g.P.Part.seen c.load_node.new.seat.view.client)) c.load_node.ensures.beside_part
    (sym c.in-Ok.ensures.carried) c.requires.may

pub returns-in-Err-clause-spent : goal.returns-in-Err-clause-spent
returns-in-Err-clause-spent g c = λ is. c.in-Err.ensures.spent (cc (is))

pub returns-in-Err-Spent-clause-spent : goal.returns-in-Err-Spent-clause-spent
returns-in-Err-Spent-clause-spent g c = λ is. c.in-Err-Spent.ensures.spent c.in-Err-Spent.field-0-is

pub returns-in-Err-Moved-clause-why : goal.returns-in-Err-Moved-clause-why
returns-in-Err-Moved-clause-why g c =
    let d = as_part g.P.Part.part c.args.domain.now in
    let fits = g.P.Kind.PayloadKind.fits in
    let loaded = seen_by g.P.Part.seen c.load_node.new.seat in
    let after = seen_by g.P.Part.seen c.push_node.new.seat in
    record {
      node = c.in-Ok.node.slot;
      loaded = loaded;
      loads = c.in-Ok.ensures.events;
      loses = subst (λ (e : LoadError). IsWhyUnlinked
          (λ was now. LosesNode fits d c.in-Ok.node.slot was now loaded after) 3 e loaded)
          c.in-Err-Moved.field-0-is c.in-Err-Moved.ensures.why;
    }
