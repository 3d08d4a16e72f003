use Rattle.std.proofs.Common.{◌≡◌, refl, ap, sym, ◌∙◌, subst, inl, inr}
use Rattle.std.specs.Prelude.{None, Some}
use Rattle.weak_part_calls.specs.plain_state.declared.act.EventPlace.TheVariants.{Field}
use Rattle.weak_part_calls.specs.counted_handles.Handles.{Handle}
use Rattle.weak_part_calls.specs.acquire_retire.Seats.{SeatState}
use Rattle.weak_part_calls.specs.control_word.Calls.{DropsStrong, without_strong}
use Rattle.weak_part_calls.specs.control_word.Moves.{KnowsStill}
use Rattle.linked_queue.specs.queue_law.declared.view.View.{View}
use Rattle.linked_queue.specs.queue_law.Pushes.{land_next}
use Rattle.weak_part_calls.specs.part_calls.Parts.{as_part, seen_by}
use Rattle.linked_queue.proofs.Accepting.{kept_all}
use Rattle.linked_queue.proofs.Leavings.{drop_leaves, exchange_leaves}
use Rattle.linked_queue.proofs.Linkings.{lost_keeps, then_gives}
use Rattle.linked_queue.proofs.Owning.{owned_node}
use Rattle.double_link_queue.proofs.Exchanges.{land_ready}
use Rattle.double_link_queue.proofs.exchanging.land.Goals as goal

pub try_replace-requires-clause-deed : goal.try_replace-requires-clause-deed
try_replace-requires-clause-deed g c =
    land_ready (as_part g.P.Part.part c.args.domain.now) c.args.last c.args.node.slot
    (seen_by g.P.Part.seen c.args.seat.now) c.requires.flight

pub try_replace-requires-clause-accepted : goal.try_replace-requires-clause-accepted
try_replace-requires-clause-accepted g c =
    kept_all g.P.Part.seen g.P.Part.suits g.met.P.HasQueue.accepts
    c.args.domain.now.protocol c.args.seat.now.view.client land_next
    (λ own after v a w. refl)

pub try_replace-requires-clause-within : goal.try_replace-requires-clause-within
try_replace-requires-clause-within g c =
    owned_node c.args.last c.args.seat.now c.requires.flight.owns_last c.requires.flight.is_node

pub returns-in-Some-clause-landed : goal.returns-in-Some-clause-landed
returns-in-Some-clause-landed g c =
    let by = c.in-Err.ensures.lost.loses.becomes in
    c.drop_strong.ensures.seen
    ∙ ap (λ (z : SeatState View). z.view.client) by.walks.2 ∙ by.walks.1.told.client

pub returns-in-Some-clause-leaves : goal.returns-in-Some-clause-leaves
returns-in-Some-clause-leaves g c =
    let old = seen_by g.P.Part.seen c.args.seat.now in
    let mid = seen_by g.P.Part.seen c.try_replace.new.seat in
    let new = seen_by g.P.Part.seen c.drop_strong.new.seat in
    let fits = g.P.Kind.PayloadKind.fits in
    let d = as_part g.P.Part.part c.args.domain.now in
    let both : Some c.in-Some.node ≡ Some c.args.node =
    sym c.in-Some.is ∙ c.in-Err.ensures.back in
    let handles : c.in-Some.node ≡ c.args.node = cc (both) in
    let drops = subst (λ (h : Handle). DropsStrong fits d h.slot mid new) handles
    c.drop_strong.ensures.dropped in
    let still = subst (λ (h : Handle). KnowsStill (without_strong h.slot mid.view.core) mid new)
    handles c.drop_strong.ensures.objects in
    then_gives c.args.node.slot old mid new c.requires.flight.owns_node
    (lost_keeps fits d (Field c.args.last 0) (Some c.args.node.slot) None c.in-Err.lost.now old mid
    c.in-Err.ensures.lost)
    (drop_leaves c.args.node.slot mid new drops still)

pub returns-in_default-clause-landed : goal.returns-in_default-clause-landed
returns-in_default-clause-landed g c =
    let replaces = c.in_default.ensures.replaced.0 in
    replaces.client ∙ replaces.puts.step.told.client

pub returns-in_default-clause-leaves : goal.returns-in_default-clause-leaves
returns-in_default-clause-leaves g c =
    exchange_leaves (Field c.args.last 0) _ (Some c.args.node.slot) _
    (seen_by g.P.Part.seen c.args.seat.now) (seen_by g.P.Part.seen c.try_replace.new.seat) refl
    c.in_default.ensures.replaced.0 c.try_replace.ensures.objects

pub returns-in-Some-clause-events : goal.returns-in-Some-clause-events
returns-in-Some-clause-events g c =
    let mid = seen_by g.P.Part.seen c.try_replace.new.seat in
    let new = seen_by g.P.Part.seen c.drop_strong.new.seat in
    let fits = g.P.Kind.PayloadKind.fits in
    let d = as_part g.P.Part.part c.args.domain.now in
    let both : Some c.in-Some.node ≡ Some c.args.node =
    sym c.in-Some.is ∙ c.in-Err.ensures.back in
    let handles : c.in-Some.node ≡ c.args.node = cc (both) in
    inr (
      c.in-Err.lost.now,
      mid,
      c.in-Err.ensures.lost,
      subst (λ (h : Handle). DropsStrong fits d h.slot mid new) handles c.drop_strong.ensures.dropped,
    )

pub returns-in_default-clause-events : goal.returns-in_default-clause-events
returns-in_default-clause-events g c = inl c.in_default.ensures.replaced.0
