use Rattle.linked_queue.proofs.Linkings.{why_later, why_read}
use Rattle.linked_queue.specs.PushLosses.{MissesTail}
use Rattle.double_link_queue.specs.Steps.{LoadsTail, LosesLast, LosesTake}
use Rattle.weak_part_calls.specs.core_events.declared.view.CoreView.{CoreView}
use Rattle.std.proofs.Common.{ap, sym, ◌∙◌, subst, [], ◌∷◌, ◌++◌, arith, inl, inr, refl}
use Rattle.std.specs.Prelude.{None, Option}
use Rattle.weak_part_calls.specs.atomic_shared.Places.{named}
use Rattle.weak_part_calls.specs.core_events.Views.{without}
use Rattle.weak_part_calls.proofs.Below.core_law_Kit.{times_push}
use Rattle.weak_part_calls.specs.counted_handles.Handles.{Handle}
use Rattle.linked_queue.specs.queue_law.declared.view.View.{View}
use Rattle.linked_queue.specs.queue_law.Pushes.{carried_item}
use Rattle.weak_part_calls.specs.part_calls.Parts.{seen_by, as_part}
use Rattle.linked_queue.specs.Leaving.{Leaves, with_found}
use Rattle.linked_queue.proofs.Accepting.{may_still}
use Rattle.linked_queue.proofs.Leavings.{drop_leaves, drop_spent}
use Rattle.double_link_queue.specs.Pushes.{beside_back}
use Rattle.double_link_queue.proofs.Backs.{load_kept}
use Rattle.double_link_queue.proofs.Owning.{both_of, through_both, goes_on}
use Rattle.double_link_queue.proofs.Takes.{load_on}
use Rattle.double_link_queue.proofs.chaining.take_last.Goals as goal

pub take_tail-requires-clause-load : goal.take_tail-requires-clause-load
take_tail-requires-clause-load g c =
    let old = seen_by g.P.Part.seen c.args.seat.now in
    let mid = seen_by g.P.Part.seen c.load_tail.new.seat in
    let last = c.in-Ok-Some.last.slot in
    let owned = old.view.core.owned ++ last ∷ [] in
    let gains = subst (λ (o : Option Handle). Leaves (with_found (named o) old.view.core.owned) old
    mid)
    c.in-Ok-Some.field-0-is c.in-Ok-Some.ensures.leaves in
    let push = times_push c.args.node last old.view.core.owned in
    let owns = c.requires.load.owns in
    let same = c.load_tail.ensures.beside in
    load_kept owned old.view.core.weaks c.args.node old mid c.requires.load
    (both_of owned old mid gains) (omega arith) (ap (λ (v : View). v.load.node) same)
    (ap (λ (v : View). v.load.life) same) (ap (λ (v : View). v.load.item) same)

pub take_tail-requires-clause-may : goal.take_tail-requires-clause-may
take_tail-requires-clause-may g c =
    may_still g.P.Part.seen g.P.Part.with_seen g.P.Part.puts_back g.P.Part.puts_over
    g.P.HasQueue.may_push g.met.P.HasQueue.stays c.args.domain.now.protocol c.args.seat.now
    c.load_tail.new.seat (carried_item (g.P.Part.seen c.args.seat.now.view.client))
    (carried_item (g.P.Part.seen c.load_tail.new.seat.view.client))
    c.load_tail.ensures.beside_part (ap carried_item (sym c.load_tail.ensures.beside))
    c.requires.may

pub returns-in-Err-take_tail-clause-leaves : goal.returns-in-Err-take_tail-clause-leaves
returns-in-Err-take_tail-clause-leaves g c =
    let old = seen_by g.P.Part.seen c.args.seat.now in
    let mid = seen_by g.P.Part.seen c.load_tail.new.seat in
    let late = seen_by g.P.Part.seen c.take_tail.new.seat in
    let new = seen_by g.P.Part.seen c.drop_strong.new.seat in
    let last = c.in-Ok-Some.last.slot in
    let gains = subst (λ (o : Option Handle). Leaves (with_found (named o) old.view.core.owned) old
    mid)
    c.in-Ok-Some.field-0-is c.in-Ok-Some.ensures.leaves in
    through_both last None old mid late new
    (both_of (old.view.core.owned ++ last ∷ []) old mid gains) c.take_tail.ensures.leaves
    (both_of (without last late.view.core.owned) late new
    (drop_leaves last late new c.drop_strong.ensures.dropped c.drop_strong.ensures.objects))

pub returns-in-Err-take_tail-clause-load : goal.returns-in-Err-take_tail-clause-load
returns-in-Err-take_tail-clause-load g c =
    load_on c.args.node (seen_by g.P.Part.seen c.args.seat.now)
    (seen_by g.P.Part.seen c.drop_strong.new.seat) c.requires.load
    (returns-in-Err-take_tail-clause-leaves g c)
    (ap beside_back c.drop_strong.ensures.seen ∙ c.in-Err-take_tail.ensures.refused
    ∙ ap beside_back c.load_tail.ensures.beside)

pub returns-in-Err-take_tail-clause-spent : goal.returns-in-Err-take_tail-clause-spent
returns-in-Err-take_tail-clause-spent g c = λ is.
    drop_spent c.in-Ok-Some.last.slot (seen_by g.P.Part.seen c.take_tail.new.seat)
    (seen_by g.P.Part.seen c.drop_strong.new.seat) c.drop_strong.ensures.dropped
    (c.in-Err-take_tail.ensures.spent is)

pub returns-in-Err-clause-why : goal.returns-in-Err-clause-why
returns-in-Err-clause-why g c =
    let d = as_part g.P.Part.part c.args.domain.now in
    let fits = g.P.Kind.PayloadKind.fits in
    let before = seen_by g.P.Part.seen c.args.seat.now in
    let loaded = seen_by g.P.Part.seen c.load_tail.new.seat in
    why_read (λ seen now. MissesTail fits d seen now before loaded)
    (λ seen now. LosesLast fits d c.args.node seen now before loaded) 5 c.in-Err.error before
    (λ seen now m. inl m) c.in-Err.ensures.why

pub returns-in-Err-take_tail-clause-why : goal.returns-in-Err-take_tail-clause-why
returns-in-Err-take_tail-clause-why g c =
    let d = as_part g.P.Part.part c.args.domain.now in
    let fits = g.P.Kind.PayloadKind.fits in
    let before = seen_by g.P.Part.seen c.args.seat.now in
    let loaded = seen_by g.P.Part.seen c.load_tail.new.seat in
    let lost = seen_by g.P.Part.seen c.take_tail.new.seat in
    let after = seen_by g.P.Part.seen c.drop_strong.new.seat in
    let gains = subst (λ (o : Option Handle). Leaves (with_found (named o) before.view.core.owned)
    before loaded)
    c.in-Ok-Some.field-0-is c.in-Ok-Some.ensures.leaves in
    why_later (λ was now. LosesTake fits d c.in-Ok-Some.last.slot c.args.node was now loaded lost)
    (λ was now. LosesLast fits d c.args.node was now before after) 4 5 1 refl
    c.in-Err-take_tail.error before loaded c.load_tail.ensures.adds
    (ap (λ (v : CoreView). v.quota.adds) gains.same)
    (λ was now m. inr (record {
      last = c.in-Ok-Some.last.slot;
      loaded = loaded;
      lost = lost;
      loads = subst (λ (o : Option Handle). LoadsTail fits d (named o) before loaded)
          c.in-Ok-Some.field-0-is c.in-Ok-Some.ensures.events;
      loses = m;
      drops = c.drop_strong.ensures.dropped;
    }))
    c.in-Err-take_tail.ensures.why

pub returns-clause-events : goal.returns-clause-events
returns-clause-events g c =
    let d = as_part g.P.Part.part c.args.domain.now in
    let fits = g.P.Kind.PayloadKind.fits in
    let before = seen_by g.P.Part.seen c.args.seat.now in
    let loaded = seen_by g.P.Part.seen c.load_tail.new.seat in
    record {
      loaded = loaded;
      loads = subst (λ (o : Option Handle). LoadsTail fits d (named o) before loaded)
          c.in-Ok-Some.field-0-is c.in-Ok-Some.ensures.events;
      takes = c.in_default.ensures.events;
    }

pub returns-clause-leaves : goal.returns-clause-leaves
returns-clause-leaves g c =
    let old = seen_by g.P.Part.seen c.args.seat.now in
    let mid = seen_by g.P.Part.seen c.load_tail.new.seat in
    let late = seen_by g.P.Part.seen c.take_tail.new.seat in
    let last = c.in-Ok-Some.last.slot in
    let gains = subst (λ (o : Option Handle). Leaves (with_found (named o) old.view.core.owned) old
    mid)
    c.in-Ok-Some.field-0-is c.in-Ok-Some.ensures.leaves in
    goes_on last None old mid late late (both_of (old.view.core.owned ++ last ∷ []) old mid gains)
    c.take_tail.ensures.leaves
