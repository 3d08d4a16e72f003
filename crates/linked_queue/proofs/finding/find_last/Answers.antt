use Rattle.part_calls.specs.Parts.{as_part, seen_by}
use Rattle.std.proofs.Common.{rules, false, inl, inr, ◌++◌, [], ◌∷◌, refl, ap, subst, arith, ◌∙◌}
use Rattle.std.specs.Prelude.{IfSome, None, Option, Some}
use Rattle.slot_store.specs.core_events.declared.view.CoreView.{CoreView}
use Rattle.slot_store.specs.counted_handles.Handles.{Handle}
use Rattle.queue_protocol.specs.plain_state.declared.act.EventPlace.TheVariants.{Cell}
use Rattle.queue_protocol.specs.plain_state.declared.slot.SlotId.{SlotId}
use Rattle.part_calls.specs.atomic_shared.Places.{named}
use Rattle.part_calls.specs.protected_loads.References.{Loads}
use Rattle.queue_protocol.specs.queue_law.Lessons.{learn_next}
use Rattle.linked_queue.specs.Cells.{TailTells}
use Rattle.linked_queue.specs.Leaving.{Leaves, with_found}
use Rattle.linked_queue.specs.Pushes.{FindsBehind, SeesTail}
use Rattle.linked_queue.specs.PushLosses.{LosesBehind, LosesEnd, MissesTail}
use Rattle.linked_queue.specs.Queues.{ends_of}
use Rattle.linked_queue.proofs.Leavings.{drop_adds, drop_leaves, drop_makes, drop_spent}
use Rattle.linked_queue.proofs.Linkings.{tail_still, why_later, why_read}
use Rattle.linked_queue.proofs.Owning.{some_left, through}
use Rattle.linked_queue.proofs.Poppings.{leaves_on, some_found}
use Rattle.linked_queue.proofs.finding.find_last.Goals as goal

-- the tail cell's node is the last one
pub returns-in-Ok-None-follow-clause-leaves : goal.returns-in-Ok-None-follow-clause-leaves
returns-in-Ok-None-follow-clause-leaves g c =
    let before = seen_by g.P.Part.seen c.args.seat.now in
    let tail = seen_by g.P.Part.seen c.load_tail.new.seat in
    let after = seen_by g.P.Part.seen c.follow.new.seat in
    let gains = subst (λ (o : Option Handle). Leaves
    (with_found (named o) c.args.seat.now.view.core.owned) before tail)
    c.in-Ok-Some.field-0-is c.in-Ok-Some.ensures.leaves in
    let more = subst (λ (o : Option Handle). Leaves
    (with_found (named o) c.load_tail.new.seat.view.core.owned) tail after)
    c.in-Ok-None-follow.field-0-is c.in-Ok-None-follow.ensures.leaves in
    leaves_on (c.args.seat.now.view.core.owned ++ c.in-Ok-Some.first.slot ∷ []) before tail after
    gains more

pub returns-in-Ok-None-follow-clause-sees : goal.returns-in-Ok-None-follow-clause-sees
returns-in-Ok-None-follow-clause-sees g c =
    subst (λ (s : SlotId). SeesTail s (seen_by g.P.Part.seen c.follow.new.seat)) c.slot.ensures
    (c.in-Ok-None-follow.ensures.last (ap named c.in-Ok-None-follow.field-0-is))

pub returns-in-Ok-None-follow-clause-events : goal.returns-in-Ok-None-follow-clause-events
returns-in-Ok-None-follow-clause-events g c =
    let d = as_part g.P.Part.part c.args.domain.now in
    let fits = g.P.Kind.PayloadKind.fits in
    let before = seen_by g.P.Part.seen c.args.seat.now in
    let tail = seen_by g.P.Part.seen c.load_tail.new.seat in
    let after = seen_by g.P.Part.seen c.follow.new.seat in
    record {
      first = c.in-Ok-Some.first.slot;
      seen = tail;
      loads = subst (λ (o : Option Handle). Loads fits d (Cell d.protocol.tail) (learn_next false)
          (TailTells (ends_of d)) (named o) before tail)
          c.in-Ok-Some.field-0-is c.in-Ok-Some.ensures.loads;
      which = inl (
        refl,
        subst (λ (x : Option Handle × SlotId). FindsBehind fits d x.1 (named x.0) tail after)
            (λ i. (c.in-Ok-None-follow.field-0-is i, c.slot.ensures i))
            c.in-Ok-None-follow.ensures.events,
      );
    }

-- it isn't, and is given up
pub drop_strong-requires-clause-owned : goal.drop_strong-requires-clause-owned
drop_strong-requires-clause-owned g c =
    let gains = subst (λ (o : Option Handle). Leaves
    (with_found (named o) c.args.seat.now.view.core.owned) (seen_by g.P.Part.seen c.args.seat.now)
    (seen_by g.P.Part.seen c.load_tail.new.seat))
    c.in-Ok-Some.field-0-is c.in-Ok-Some.ensures.leaves in
    let goes = subst (λ (o : Option Handle). Leaves
    (with_found (named o) c.load_tail.new.seat.view.core.owned)
    (seen_by g.P.Part.seen c.load_tail.new.seat) (seen_by g.P.Part.seen c.follow.new.seat))
    c.in-Ok-Some-follow.field-0-is c.in-Ok-Some-follow.ensures.leaves in
    some_left c.in-Ok-Some.first.slot (Some c.in-Ok-Some-follow.next.slot)
    c.args.seat.now.view.core.owned c.load_tail.new.seat.view.core.owned
    c.follow.new.seat.view.core.owned gains.owns goes.owns

pub returns-in-Ok-Some-follow : goal.returns-in-Ok-Some-follow
returns-in-Ok-Some-follow g c =
    let d = as_part g.P.Part.part c.args.domain.now in
    let fits = g.P.Kind.PayloadKind.fits in
    let before = seen_by g.P.Part.seen c.args.seat.now in
    let tail = seen_by g.P.Part.seen c.load_tail.new.seat in
    let helped = seen_by g.P.Part.seen c.follow.new.seat in
    let after = seen_by g.P.Part.seen c.drop_strong.new.seat in
    let first = c.in-Ok-Some.first.slot in
    let next = c.in-Ok-Some-follow.next.slot in
    let gains = subst (λ (o : Option Handle). Leaves
    (with_found (named o) c.args.seat.now.view.core.owned) before tail)
    c.in-Ok-Some.field-0-is c.in-Ok-Some.ensures.leaves in
    let goes = subst (λ (o : Option Handle). Leaves
    (with_found (named o) c.load_tail.new.seat.view.core.owned) tail helped)
    c.in-Ok-Some-follow.field-0-is c.in-Ok-Some-follow.ensures.leaves in
    let gives = drop_leaves first helped after c.drop_strong.ensures.dropped
    c.drop_strong.ensures.objects in
    let all = through first (Some next) before tail helped after gains goes gives in
    record {
      events = record {
        first = first;
        seen = tail;
        loads = subst (λ (o : Option Handle). Loads fits d (Cell d.protocol.tail)
            (learn_next false) (TailTells (ends_of d)) (named o) before tail)
            c.in-Ok-Some.field-0-is c.in-Ok-Some.ensures.loads;
        which = inr (record {
          helped = helped;
          follows = subst (λ (x : Option Handle × SlotId).
              FindsBehind fits d x.1 (named x.0) tail helped)
              (λ i. (c.in-Ok-Some-follow.field-0-is i, c.slot.ensures i))
              c.in-Ok-Some-follow.ensures.events;
          drops = c.drop_strong.ensures.dropped;
        });
      };
      sees = let at = all.owns next in
          let some' = some_found next c.args.seat.now.view.core.owned in
          let sees = subst (λ (o : Option Handle). IfSome o (λ h. SeesTail h.slot helped))
          c.in-Ok-Some-follow.field-0-is c.in-Ok-Some-follow.ensures.sees in
          let owns = sees.owns in
          tail_still next helped after sees (omega arith)
          (gives.knows next (omega arith) (omega arith))
          (ap (λ (v : CoreView). v.shape) gives.same) c.drop_strong.ensures.seen;
      adds = let one = c.load_tail.ensures.adds in
          let two = c.follow.ensures.adds in
          let a = drop_adds first helped after c.drop_strong.ensures.dropped in
          omega arith;
      beside = search rules;
      leaves = all;
      why = tt;
      makes = drop_makes first helped after c.drop_strong.ensures.dropped
          ∙ c.follow.ensures.makes ∙ c.load_tail.ensures.makes;
      spent = tt;
      room = search rules;
      beside_part = c.drop_strong.ensures.beside ∙ c.follow.ensures.beside_part
          ∙ c.load_tail.ensures.beside_part;
      rest = c.drop_strong.ensures.rest;
    }

-- the try was lost
pub returns-in-Err-clause-why : goal.returns-in-Err-clause-why
returns-in-Err-clause-why g c =
    let d = as_part g.P.Part.part c.args.domain.now in
    let fits = g.P.Kind.PayloadKind.fits in
    let before = seen_by g.P.Part.seen c.args.seat.now in
    let after = seen_by g.P.Part.seen c.load_tail.new.seat in
    why_read (λ seen now. MissesTail fits d seen now before after)
    (λ seen now. LosesEnd fits d seen now before after) 2 c.in-Err.error before (λ seen now m. inl m)
    c.in-Err.ensures.why

pub returns-in-Err-follow-clause-leaves : goal.returns-in-Err-follow-clause-leaves
returns-in-Err-follow-clause-leaves g c =
    let before = seen_by g.P.Part.seen c.args.seat.now in
    let tail = seen_by g.P.Part.seen c.load_tail.new.seat in
    let lost = seen_by g.P.Part.seen c.follow.new.seat in
    let after = seen_by g.P.Part.seen c.drop_strong-in-Err-follow.new.seat in
    let gains = subst (λ (o : Option Handle). Leaves
    (with_found (named o) c.args.seat.now.view.core.owned) before tail)
    c.in-Ok-Some.field-0-is c.in-Ok-Some.ensures.leaves in
    through c.in-Ok-Some.first.slot None before tail lost after gains
    c.in-Err-follow.ensures.leaves
    (drop_leaves c.in-Ok-Some.first.slot lost after c.drop_strong-in-Err-follow.ensures.dropped
    c.drop_strong-in-Err-follow.ensures.objects)

pub returns-in-Err-follow-clause-adds : goal.returns-in-Err-follow-clause-adds
returns-in-Err-follow-clause-adds g c =
    let one = c.load_tail.ensures.adds in
    let two = c.follow.ensures.adds in
    let a = drop_adds c.in-Ok-Some.first.slot (seen_by g.P.Part.seen c.follow.new.seat)
    (seen_by g.P.Part.seen c.drop_strong-in-Err-follow.new.seat) c.drop_strong-in-Err-follow.ensures.dropped in
    omega arith

pub returns-in-Err-follow-clause-spent : goal.returns-in-Err-follow-clause-spent
returns-in-Err-follow-clause-spent g c = λ is.
    drop_spent c.in-Ok-Some.first.slot (seen_by g.P.Part.seen c.follow.new.seat)
    (seen_by g.P.Part.seen c.drop_strong-in-Err-follow.new.seat) c.drop_strong-in-Err-follow.ensures.dropped
    (c.in-Err-follow.ensures.spent is)

pub returns-in-Err-follow-clause-makes : goal.returns-in-Err-follow-clause-makes
returns-in-Err-follow-clause-makes g c =
    drop_makes c.in-Ok-Some.first.slot (seen_by g.P.Part.seen c.follow.new.seat)
    (seen_by g.P.Part.seen c.drop_strong-in-Err-follow.new.seat) c.drop_strong-in-Err-follow.ensures.dropped
    ∙ c.follow.ensures.makes ∙ c.load_tail.ensures.makes

pub returns-in-Err-follow-clause-why : goal.returns-in-Err-follow-clause-why
returns-in-Err-follow-clause-why g c =
    let d = as_part g.P.Part.part c.args.domain.now in
    let fits = g.P.Kind.PayloadKind.fits in
    let before = seen_by g.P.Part.seen c.args.seat.now in
    let tail = seen_by g.P.Part.seen c.load_tail.new.seat in
    let lost = seen_by g.P.Part.seen c.follow.new.seat in
    let after = seen_by g.P.Part.seen c.drop_strong-in-Err-follow.new.seat in
    let gains = subst (λ (o : Option Handle). Leaves
    (with_found (named o) c.args.seat.now.view.core.owned) before tail)
    c.in-Ok-Some.field-0-is c.in-Ok-Some.ensures.leaves in
    why_later (λ was now. LosesBehind fits d c.slot.result was now tail lost)
    (λ was now. LosesEnd fits d was now before after) 1 2 1 refl
    c.in-Err-follow.error before tail c.load_tail.ensures.adds
    (ap (λ (v : CoreView). v.quota.adds) gains.same)
    (λ was now loses. inr (record {
      first = c.in-Ok-Some.first.slot;
      loaded = tail;
      lost = lost;
      loads = subst (λ (o : Option Handle). Loads fits d (Cell d.protocol.tail) (learn_next false)
          (TailTells (ends_of d)) (named o) before tail)
          c.in-Ok-Some.field-0-is c.in-Ok-Some.ensures.loads;
      loses = subst (λ (s : SlotId). LosesBehind fits d s was now tail lost) c.slot.ensures loses;
      drops = c.drop_strong-in-Err-follow.ensures.dropped;
    }))
    c.in-Err-follow.ensures.why
