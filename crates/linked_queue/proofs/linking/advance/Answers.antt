use Rattle.linked_queue.proofs.Accepting.{kept_all}
use Rattle.part_calls.specs.Parts.{as_part, seen_by}
use Rattle.std.proofs.Common.{◌≡◌, ℕ, ◌<◌, inr, refl, ap, sym, ◌∙◌, subst}
use Rattle.std.specs.Prelude.{Some}
use Rattle.queue_protocol.specs.plain_state.declared.act.EventPlace.TheVariants.{Cell}
use Rattle.slot_store.specs.core_events.declared.shape.Shape.{Shape}
use Rattle.slot_store.specs.counted_handles.Handles.{Handle}
use Rattle.slot_store.specs.acquire_retire.Seats.{SeatState}
use Rattle.slot_store.specs.control_word.Calls.{DropsStrong, without_strong}
use Rattle.slot_store.specs.control_word.Moves.{KnowsStill}
use Rattle.slot_store.specs.retiring_stores.Exchanging.{LosesTo}
use Rattle.queue_protocol.specs.queue_law.Lessons.{TellsNothing}
use Rattle.queue_protocol.specs.queue_law.Pushes.{advance_next}
use Rattle.queue_protocol.specs.queue_law.declared.view.View.{View}
use Rattle.linked_queue.proofs.Leavings.{drop_leaves, exchange_leaves}
use Rattle.linked_queue.proofs.Linkings.{advanced, lost_keeps, then_gives}
use Rattle.linked_queue.proofs.linking.advance.Goals as goal

pub try_replace-requires-clause-expected : goal.try_replace-requires-clause-expected
try_replace-requires-clause-expected g c =
    subst (λ (z : Shape). c.args.old.0 < z.slots) c.requires.rest.of_domain.1
    c.requires.behind.tail.inside

pub returns-in-Some-clause-advances : goal.returns-in-Some-clause-advances
returns-in-Some-clause-advances g c =
    let loses = subst (λ (x : ℕ). LosesTo g.P.Kind.PayloadKind.fits (as_part g.P.Part.part c.args.domain.now) advance_next TellsNothing
    (Cell x) (Some c.args.next.slot) (Some c.args.old) c.in-Err.lost.now (seen_by g.P.Part.seen c.args.seat.now)
    (seen_by g.P.Part.seen c.try_replace.new.seat)) c.requires.tail c.in-Err.ensures.lost in
    let both : Some c.in-Some.next ≡ Some c.args.next =
    sym c.in-Some.is ∙ c.in-Err.ensures.back in
    let handles : c.in-Some.next ≡ c.args.next = cc (both) in
    let drops = subst (λ (h : Handle). DropsStrong g.P.Kind.PayloadKind.fits (as_part g.P.Part.part c.args.domain.now) h.slot
    (seen_by g.P.Part.seen c.try_replace.new.seat) (seen_by g.P.Part.seen c.drop_strong.new.seat)) handles c.drop_strong.ensures.dropped in
    inr (c.in-Err.lost.now, (seen_by g.P.Part.seen c.try_replace.new.seat), loses, drops)

pub returns-in-Some-clause-client : goal.returns-in-Some-clause-client
returns-in-Some-clause-client g c =
    let by = c.in-Err.ensures.lost.loses.becomes in
    advanced g.P.Kind.PayloadKind.fits (as_part g.P.Part.part c.args.domain.now) c.args.old c.args.next.slot (seen_by g.P.Part.seen c.args.seat.now) c.requires.behind
    (seen_by g.P.Part.seen c.drop_strong.new.seat)
    (c.drop_strong.ensures.seen
    ∙ ap (λ (z : SeatState View). z.view.client) by.walks.2 ∙ by.walks.1.told.client)

pub returns-in-Some-clause-leaves : goal.returns-in-Some-clause-leaves
returns-in-Some-clause-leaves g c =
    let loses = subst (λ (x : ℕ). LosesTo g.P.Kind.PayloadKind.fits (as_part g.P.Part.part c.args.domain.now) advance_next TellsNothing
    (Cell x) (Some c.args.next.slot) (Some c.args.old) c.in-Err.lost.now (seen_by g.P.Part.seen c.args.seat.now)
    (seen_by g.P.Part.seen c.try_replace.new.seat)) c.requires.tail c.in-Err.ensures.lost in
    let both : Some c.in-Some.next ≡ Some c.args.next =
    sym c.in-Some.is ∙ c.in-Err.ensures.back in
    let handles : c.in-Some.next ≡ c.args.next = cc (both) in
    let drops = subst (λ (h : Handle). DropsStrong g.P.Kind.PayloadKind.fits (as_part g.P.Part.part c.args.domain.now) h.slot
    (seen_by g.P.Part.seen c.try_replace.new.seat) (seen_by g.P.Part.seen c.drop_strong.new.seat)) handles c.drop_strong.ensures.dropped in
    let still = subst (λ (h : Handle). KnowsStill
    (without_strong h.slot c.try_replace.new.seat.view.core) (seen_by g.P.Part.seen c.try_replace.new.seat)
    (seen_by g.P.Part.seen c.drop_strong.new.seat)) handles c.drop_strong.ensures.objects in
    then_gives c.args.next.slot (seen_by g.P.Part.seen c.args.seat.now) (seen_by g.P.Part.seen c.try_replace.new.seat) (seen_by g.P.Part.seen c.drop_strong.new.seat)
    c.requires.behind.owns
    (lost_keeps g.P.Kind.PayloadKind.fits (as_part g.P.Part.part c.args.domain.now) (Cell (as_part g.P.Part.part c.args.domain.now).protocol.tail) (Some c.args.next.slot)
    (Some c.args.old) c.in-Err.lost.now (seen_by g.P.Part.seen c.args.seat.now) (seen_by g.P.Part.seen c.try_replace.new.seat) loses)
    (drop_leaves c.args.next.slot (seen_by g.P.Part.seen c.try_replace.new.seat) (seen_by g.P.Part.seen c.drop_strong.new.seat) drops still)

pub returns-in_default-clause-client : goal.returns-in_default-clause-client
returns-in_default-clause-client g c =
    let replaces = c.in_default.ensures.replaced.0 in
    advanced g.P.Kind.PayloadKind.fits (as_part g.P.Part.part c.args.domain.now) c.args.old c.args.next.slot (seen_by g.P.Part.seen c.args.seat.now) c.requires.behind
    (seen_by g.P.Part.seen c.try_replace.new.seat) (replaces.client ∙ replaces.puts.step.told.client)

pub returns-in_default-clause-leaves : goal.returns-in_default-clause-leaves
returns-in_default-clause-leaves g c =
    exchange_leaves (Cell c.args.tail) _ (Some c.args.next.slot) _ (seen_by g.P.Part.seen c.args.seat.now)
    (seen_by g.P.Part.seen c.try_replace.new.seat) refl c.in_default.ensures.replaced.0 c.try_replace.ensures.objects

pub try_replace-requires-clause-accepted : goal.try_replace-requires-clause-accepted
try_replace-requires-clause-accepted g c =
    kept_all g.P.Part.seen g.P.Part.suits g.met.P.HasQueue.accepts
    c.args.domain.now.protocol c.args.seat.now.view.client advance_next
    (λ own after v a w. refl)

pub try_replace-requires-clause-within : goal.try_replace-requires-clause-within
try_replace-requires-clause-within g c =
    inr c.requires.tail
