use Rattle.linked_queue.specs.Queues.{beside_eyes}
use Rattle.std.proofs.Common.{[], ◌∷◌, ◌++◌, refl, ap, sym, ◌∙◌, subst, arith, inl, inr}
use Rattle.std.specs.Prelude.{None}
use Rattle.queue_protocol.specs.plain_state.declared.slot.SlotId.{SlotId}
use Rattle.slot_store.specs.core_events.declared.view.CoreView.{CoreView}
use Rattle.slot_store.proofs.Below.core_law_Kit.{times_push}
use Rattle.queue_protocol.specs.queue_law.Pushes.{carried_item}
use Rattle.part_calls.specs.Parts.{as_part, seen_by}
use Rattle.linked_queue.specs.Pushes.{Links, SeesBehind}
use Rattle.linked_queue.proofs.Accepting.{may_still}
use Rattle.linked_queue.proofs.Leavings.{drop_leaves, drop_spent, drop_makes}
use Rattle.linked_queue.proofs.Linkings.{why_later}
use Rattle.linked_queue.proofs.Owning.{through}
use Rattle.linked_queue.proofs.Poppings.{leaves_on, some_found}
use Rattle.linked_queue.proofs.Pushings.{load_still}
use Rattle.linked_queue.specs.PushLosses.{LosesEnd, LosesLast, LosesLink}
use Rattle.linked_queue.proofs.chaining.link_last.Goals as goal

pub link-requires-clause-load : goal.link-requires-clause-load
link-requires-clause-load g c =
    let node = c.args.node in
    let leaves = c.in-Ok.ensures.leaves in
    let is = leaves.owns node in
    let push = times_push node c.in-Ok.last.slot c.args.seat.now.view.core.owned in
    let some' = c.requires.load.owns in
    load_still node (seen_by g.P.Part.seen c.args.seat.now) (seen_by g.P.Part.seen c.find_last.new.seat) c.requires.load (omega arith)
    (leaves.knows node (omega arith) (omega arith)) c.find_last.ensures.beside

pub link-requires-clause-may : goal.link-requires-clause-may
link-requires-clause-may g c =
    may_still g.P.Part.seen g.P.Part.with_seen g.P.Part.puts_back g.P.Part.puts_over
    g.P.HasQueue.may_push g.met.P.HasQueue.stays c.args.domain.now.protocol c.args.seat.now
    c.find_last.new.seat (carried_item (g.P.Part.seen c.args.seat.now.view.client))
    (carried_item (g.P.Part.seen c.find_last.new.seat.view.client)) c.find_last.ensures.beside_part
    (ap carried_item (sym c.find_last.ensures.beside)) c.requires.may

pub drop_strong-requires-clause-owned : goal.drop_strong-requires-clause-owned
drop_strong-requires-clause-owned g c =
    let last = c.in-Ok.last.slot in
    let a = c.in-Ok.ensures.leaves.owns last in
    let b = c.link.ensures.leaves.owns last in
    let some' = some_found last c.args.seat.now.view.core.owned in omega arith

pub returns-in-Err-clause-load : goal.returns-in-Err-clause-load
returns-in-Err-clause-load g c =
    let node = c.args.node in
    let leaves = c.in-Err.ensures.leaves in
    let is = leaves.owns node in
    let some' = c.requires.load.owns in
    load_still node (seen_by g.P.Part.seen c.args.seat.now) (seen_by g.P.Part.seen c.find_last.new.seat) c.requires.load (omega arith)
    (leaves.knows node (omega arith) (omega arith)) c.find_last.ensures.beside

pub returns-in-Err-link-clause-leaves : goal.returns-in-Err-link-clause-leaves
returns-in-Err-link-clause-leaves g c =
    through c.in-Ok.last.slot None (seen_by g.P.Part.seen c.args.seat.now) (seen_by g.P.Part.seen c.find_last.new.seat)
    (seen_by g.P.Part.seen c.link.new.seat) (seen_by g.P.Part.seen c.drop_strong.new.seat) c.in-Ok.ensures.leaves
    c.link.ensures.leaves
    (drop_leaves c.in-Ok.last.slot (seen_by g.P.Part.seen c.link.new.seat) (seen_by g.P.Part.seen c.drop_strong.new.seat)
    c.drop_strong.ensures.dropped c.drop_strong.ensures.objects)

pub returns-in-Err-link-clause-load : goal.returns-in-Err-link-clause-load
returns-in-Err-link-clause-load g c =
    let node = c.args.node in
    let leaves = through c.in-Ok.last.slot None (seen_by g.P.Part.seen c.args.seat.now) (seen_by g.P.Part.seen c.find_last.new.seat)
    (seen_by g.P.Part.seen c.link.new.seat) (seen_by g.P.Part.seen c.drop_strong.new.seat) c.in-Ok.ensures.leaves
    c.link.ensures.leaves
    (drop_leaves c.in-Ok.last.slot (seen_by g.P.Part.seen c.link.new.seat) (seen_by g.P.Part.seen c.drop_strong.new.seat)
    c.drop_strong.ensures.dropped c.drop_strong.ensures.objects) in
    let is = leaves.owns node in
    let some' = c.requires.load.owns in
    load_still node (seen_by g.P.Part.seen c.args.seat.now) (seen_by g.P.Part.seen c.drop_strong.new.seat) c.requires.load (omega arith)
    (leaves.knows node (omega arith) (omega arith))
    (ap beside_eyes (c.drop_strong.ensures.seen ∙ c.in-Err-link.ensures.refused)
    ∙ c.find_last.ensures.beside)

pub returns-in-Err-link-clause-refused : goal.returns-in-Err-link-clause-refused
returns-in-Err-link-clause-refused g c =
    ap beside_eyes (c.drop_strong.ensures.seen ∙ c.in-Err-link.ensures.refused)
    ∙ c.find_last.ensures.beside

pub returns-in-Err-clause-why : goal.returns-in-Err-clause-why
returns-in-Err-clause-why g c =
    let d = as_part g.P.Part.part c.args.domain.now in
    let fits = g.P.Kind.PayloadKind.fits in
    let before = seen_by g.P.Part.seen c.args.seat.now in
    let after = seen_by g.P.Part.seen c.find_last.new.seat in
    why_later (λ seen now. LosesEnd fits d seen now before after)
    (λ seen now. LosesLast fits d c.args.node seen now before after) 2 3 1 refl c.in-Err.error before
    before (omega arith) refl (λ seen now m. inl m) c.in-Err.ensures.why

pub returns-in-Err-link-clause-why : goal.returns-in-Err-link-clause-why
returns-in-Err-link-clause-why g c =
    let d = as_part g.P.Part.part c.args.domain.now in
    let fits = g.P.Kind.PayloadKind.fits in
    let before = seen_by g.P.Part.seen c.args.seat.now in
    let found = seen_by g.P.Part.seen c.find_last.new.seat in
    let lost = seen_by g.P.Part.seen c.link.new.seat in
    let after = seen_by g.P.Part.seen c.drop_strong.new.seat in
    why_later (λ was now. LosesLink fits d c.slot.result c.args.node was now found lost)
    (λ was now. LosesLast fits d c.args.node was now before after) 0 3 3 refl c.in-Err-link.error
    before found c.find_last.ensures.adds
    (ap (λ (v : CoreView). v.quota.adds) c.in-Ok.ensures.leaves.same)
    (λ was now m. inr (record {
      last = c.in-Ok.last.slot;
      found = found;
      lost = lost;
      finds = c.in-Ok.ensures.events;
      loses = subst (λ (s : SlotId). LosesLink fits d s c.args.node was now found lost)
          c.slot.ensures m;
      drops = c.drop_strong.ensures.dropped;
    }))
    c.in-Err-link.ensures.why

pub returns-clause-leaves : goal.returns-clause-leaves
returns-clause-leaves g c =
    leaves_on (c.args.seat.now.view.core.owned ++ c.in-Ok.last.slot ∷ []) (seen_by g.P.Part.seen c.args.seat.now)
    (seen_by g.P.Part.seen c.find_last.new.seat) (seen_by g.P.Part.seen c.link.new.seat) c.in-Ok.ensures.leaves c.link.ensures.leaves

pub returns-clause-events : goal.returns-clause-events
returns-clause-events g c = record {
  found = (seen_by g.P.Part.seen c.find_last.new.seat);
  finds = c.in-Ok.ensures.events;
  links = subst (λ (s : SlotId). Links g.P.Kind.PayloadKind.fits (as_part g.P.Part.part c.args.domain.now) s c.args.node
      (seen_by g.P.Part.seen c.find_last.new.seat) (seen_by g.P.Part.seen c.link.new.seat)) c.slot.ensures c.in_default.ensures.links;
}

pub returns-clause-behind : goal.returns-clause-behind
returns-clause-behind g c =
    subst (λ (s : SlotId). SeesBehind s c.args.node (seen_by g.P.Part.seen c.link.new.seat)) c.slot.ensures
    c.in_default.ensures.behind

pub returns-in-Err-link-clause-spent : goal.returns-in-Err-link-clause-spent
returns-in-Err-link-clause-spent g c = λ is.
    drop_spent c.in-Ok.last.slot (seen_by g.P.Part.seen c.link.new.seat)
    (seen_by g.P.Part.seen c.drop_strong.new.seat) c.drop_strong.ensures.dropped
    (c.in-Err-link.ensures.spent is)

pub returns-in-Err-link-clause-makes : goal.returns-in-Err-link-clause-makes
returns-in-Err-link-clause-makes g c =
    drop_makes c.in-Ok.last.slot (seen_by g.P.Part.seen c.link.new.seat)
    (seen_by g.P.Part.seen c.drop_strong.new.seat) c.drop_strong.ensures.dropped
    ∙ c.link.ensures.makes ∙ c.find_last.ensures.makes
