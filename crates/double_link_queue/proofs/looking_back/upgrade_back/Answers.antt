use Rattle.weak_part_calls.specs.atomic_shared.Places.{named}
use Rattle.double_link_queue.specs.Steps.{CountsBefore, UpgradesBack}
use Rattle.weak_part_calls.proofs.Below.acquire_retire_Wholes.{then_ok}
use Rattle.std.proofs.Common.{ap, ◌∙◌, ◌≡◌}
use Rattle.weak_part_calls.specs.core_events.Views.{without}
use Rattle.linked_queue.specs.queue_law.declared.view.View.{View}
use Rattle.weak_part_calls.specs.part_calls.Parts.{as_part, seen_by}
use Rattle.linked_queue.specs.Leaving.{found_by}
use Rattle.linked_queue.specs.Queues.{beside_eyes}
use Rattle.double_link_queue.specs.Pushes.{SeesBefore}
use Rattle.double_link_queue.proofs.Backs.{tail_left}
use Rattle.double_link_queue.proofs.Leavings.{drop_weak_leaves, drop_weak_spent}
use Rattle.double_link_queue.proofs.Owning.{found_gives}
use Rattle.double_link_queue.proofs.Upgrades.{before_left}
use Rattle.double_link_queue.proofs.Whys.{found_then}
use Rattle.linked_queue.proofs.Leavings.{then_err}
use Rattle.weak_part_calls.specs.control_word.Resting.{IsSpent}
use Rattle.weak_part_calls.specs.counted_handles.declared.refusal.LoadError.TheVariants as unloaded
use Rattle.double_link_queue.proofs.looking_back.upgrade_back.Goals as goal

pub returns-clause-sees : goal.returns-clause-sees
returns-clause-sees g c =
    let fits = g.P.Kind.PayloadKind.fits in
    let d = as_part g.P.Part.part c.args.domain.now in
    let mid = seen_by g.P.Part.seen c.count_before-found.new.seat in
    let new = seen_by g.P.Part.seen c.drop_weak.new.seat in
    let back = c.args.back.slot in
    let gives = drop_weak_leaves fits d back mid new c.drop_weak.ensures.dropped
    c.drop_weak.ensures.objects in
    found_then (λ s. SeesBefore c.args.last s mid) (λ s. SeesBefore c.args.last s new)
    c.count_before-found.result
    (λ s sees. before_left mid.view.core.owned (without back mid.view.core.weaks) c.args.last s mid
    new sees gives sees.tail.owns sees.owns c.drop_weak.ensures.seen)
    c.count_before-found.ensures.sees

pub returns-clause-tail : goal.returns-clause-tail
returns-clause-tail g c =
    let fits = g.P.Kind.PayloadKind.fits in
    let d = as_part g.P.Part.part c.args.domain.now in
    let mid = seen_by g.P.Part.seen c.count_before-found.new.seat in
    let new = seen_by g.P.Part.seen c.drop_weak.new.seat in
    let back = c.args.back.slot in
    let sees = c.count_before-found.ensures.back.tail in
    tail_left mid.view.core.owned (without back mid.view.core.weaks) c.args.last mid new sees
    (drop_weak_leaves fits d back mid new c.drop_weak.ensures.dropped c.drop_weak.ensures.objects)
    sees.owns (ap (λ (v : View). v.eyes) c.drop_weak.ensures.seen)

pub returns-clause-beside : goal.returns-clause-beside
returns-clause-beside g c =
    ap beside_eyes c.drop_weak.ensures.seen ∙ c.count_before-found.ensures.beside

pub returns-clause-leaves : goal.returns-clause-leaves
returns-clause-leaves g c =
    let fits = g.P.Kind.PayloadKind.fits in
    let d = as_part g.P.Part.part c.args.domain.now in
    let old = seen_by g.P.Part.seen c.args.seat.now in
    let mid = seen_by g.P.Part.seen c.count_before-found.new.seat in
    let new = seen_by g.P.Part.seen c.drop_weak.new.seat in
    let back = c.args.back.slot in
    found_gives back (found_by c.count_before-found.result) old mid new c.requires.back.owns
    c.count_before-found.ensures.leaves
    (drop_weak_leaves fits d back mid new c.drop_weak.ensures.dropped c.drop_weak.ensures.objects)

pub returns-clause-spent : goal.returns-clause-spent
returns-clause-spent g c =
    then_err (λ error. error ≡ unloaded.Spent → IsSpent c.count_before-found.new.seat.view.core)
    (λ error. error ≡ unloaded.Spent → IsSpent c.drop_weak.new.seat.view.core)
    c.count_before-found.result
    (λ error spent is. drop_weak_spent g.P.Kind.PayloadKind.fits (as_part g.P.Part.part c.args.domain.now)
    c.args.back.slot (seen_by g.P.Part.seen c.count_before-found.new.seat)
    (seen_by g.P.Part.seen c.drop_weak.new.seat) c.drop_weak.ensures.dropped (spent is))
    c.count_before-found.ensures.spent

pub returns-clause-events : goal.returns-clause-events
returns-clause-events g c =
    let d = as_part g.P.Part.part c.args.domain.now in
    let fits = g.P.Kind.PayloadKind.fits in
    let before = seen_by g.P.Part.seen c.args.seat.now in
    let counted = seen_by g.P.Part.seen c.count_before-found.new.seat in
    let after = seen_by g.P.Part.seen c.drop_weak.new.seat in
    then_ok (λ found. CountsBefore fits d c.args.back.slot (named found) before counted)
    (λ found. UpgradesBack fits d c.args.back.slot (named found) before after)
    c.count_before-found.result
    (λ found counts. record {
      counted = counted;
      counts = counts;
      drops = c.drop_weak.ensures.dropped;
    })
    c.count_before-found.ensures.events
