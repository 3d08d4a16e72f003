use Rattle.weak_part_calls.specs.atomic_shared.Places.{named as strongly_named}
use Rattle.double_link_queue.specs.Steps.{FindsBefore, LoadsBack, MissesBack, UpgradesBack}
use Rattle.weak_part_calls.specs.core_events.declared.view.CoreView.{CoreView}
use Rattle.linked_queue.specs.Pushes.{IsWhyUnlinked}
use Rattle.linked_queue.proofs.Linkings.{why_later, why_read}
use Rattle.linked_queue.proofs.Leavings.{then_err}
use Rattle.weak_part_calls.proofs.Below.acquire_retire_Wholes.{then_ok}
use Rattle.std.proofs.Common.{subst, inl, inr, refl, ap}
use Rattle.std.specs.Prelude.{Option}
use Rattle.weak_part_calls.specs.atomic_weak.Places.{named}
use Rattle.weak_part_calls.specs.counted_handles.Handles.{Handle}
use Rattle.weak_part_calls.specs.part_calls.Parts.{seen_by, as_part}
use Rattle.linked_queue.specs.Leaving.{found_by, with_found}
use Rattle.double_link_queue.specs.Leaving.{LeavesBoth}
use Rattle.double_link_queue.proofs.Owning.{weak_through}
use Rattle.double_link_queue.proofs.looking_back.find_before.Goals as goal

pub returns-in-Ok-Some-clause-leaves : goal.returns-in-Ok-Some-clause-leaves
returns-in-Ok-Some-clause-leaves g c =
    let old = seen_by g.P.Part.seen c.args.seat.now in
    let mid = seen_by g.P.Part.seen c.load_back.new.seat in
    let new = seen_by g.P.Part.seen c.upgrade_back.new.seat in
    weak_through c.in-Ok-Some.back.slot (found_by c.upgrade_back.result) old mid new
    (subst (λ (o : Option Handle). LeavesBoth old.view.core.owned
    (with_found (named o) old.view.core.weaks) old mid)
    c.in-Ok-Some.field-0-is c.in-Ok-Some.ensures.leaves)
    c.upgrade_back.ensures.leaves

pub returns-in-Ok-None-clause-events : goal.returns-in-Ok-None-clause-events
returns-in-Ok-None-clause-events g c =
    let d = as_part g.P.Part.part c.args.domain.now in
    let fits = g.P.Kind.PayloadKind.fits in
    let before = seen_by g.P.Part.seen c.args.seat.now in
    let after = seen_by g.P.Part.seen c.load_back.new.seat in
    inl (
      refl,
      subst (λ (o : Option Handle). LoadsBack fits d c.args.last (named o) before after)
          c.in-Ok-None.field-0-is c.in-Ok-None.ensures.events,
    )

pub returns-in-Ok-Some-clause-events : goal.returns-in-Ok-Some-clause-events
returns-in-Ok-Some-clause-events g c =
    let d = as_part g.P.Part.part c.args.domain.now in
    let fits = g.P.Kind.PayloadKind.fits in
    let before = seen_by g.P.Part.seen c.args.seat.now in
    let loaded = seen_by g.P.Part.seen c.load_back.new.seat in
    let after = seen_by g.P.Part.seen c.upgrade_back.new.seat in
    then_ok (λ found. UpgradesBack fits d c.in-Ok-Some.back.slot (strongly_named found) loaded after)
    (λ found. FindsBefore fits d c.args.last (strongly_named found) before after)
    c.upgrade_back.result
    (λ found upgrades. inr (record {
      back = c.in-Ok-Some.back.slot;
      loaded = loaded;
      loads = subst (λ (o : Option Handle). LoadsBack fits d c.args.last (named o) before loaded)
          c.in-Ok-Some.field-0-is c.in-Ok-Some.ensures.events;
      upgrades = upgrades;
    }))
    c.upgrade_back.ensures.events

pub returns-in-Err-clause-why : goal.returns-in-Err-clause-why
returns-in-Err-clause-why g c =
    let d = as_part g.P.Part.part c.args.domain.now in
    let fits = g.P.Kind.PayloadKind.fits in
    let before = seen_by g.P.Part.seen c.args.seat.now in
    let after = seen_by g.P.Part.seen c.load_back.new.seat in
    why_read (λ seen now. MissesBack fits d c.args.last seen now before after)
    (λ seen now. MissesBack fits d c.args.last seen now before after) 1 c.in-Err.error before
    (λ seen now m. m) c.in-Err.ensures.why

pub returns-in-Ok-Some-clause-why : goal.returns-in-Ok-Some-clause-why
returns-in-Ok-Some-clause-why g c =
    let d = as_part g.P.Part.part c.args.domain.now in
    let fits = g.P.Kind.PayloadKind.fits in
    let before = seen_by g.P.Part.seen c.args.seat.now in
    let loaded = seen_by g.P.Part.seen c.load_back.new.seat in
    let after = seen_by g.P.Part.seen c.upgrade_back.new.seat in
    let gains = subst (λ (o : Option Handle). LeavesBoth before.view.core.owned
    (with_found (named o) before.view.core.weaks) before loaded)
    c.in-Ok-Some.field-0-is c.in-Ok-Some.ensures.leaves in
    then_err (λ error. IsWhyUnlinked (λ seen now. ⊥) 0 error loaded)
    (λ error. IsWhyUnlinked (λ seen now. MissesBack fits d c.args.last seen now before after) 1 error
    before)
    c.upgrade_back.result
    (λ error why. why_later (λ seen now. ⊥)
    (λ seen now. MissesBack fits d c.args.last seen now before after) 0 1 1 refl error before loaded
    c.load_back.ensures.adds (ap (λ (v : CoreView). v.quota.adds) gains.same)
    (λ seen now none. absurd none) why)
    c.upgrade_back.ensures.why
