use Rattle.std.proofs.Common.{rules, ◌≡◌, ℕ, ◌<◌, inr, refl, ap, sym, ◌∙◌, subst}
use Rattle.std.specs.Prelude.{Some}
use Rattle.weak_part_calls.specs.plain_state.declared.act.EventPlace.TheVariants.{Cell}
use Rattle.weak_part_calls.specs.plain_state.declared.slot.SlotId.{SlotId}
use Rattle.weak_part_calls.specs.core_events.Views.{without}
use Rattle.weak_part_calls.specs.core_events.declared.shape.Shape.{Shape}
use Rattle.weak_part_calls.specs.counted_handles.Handles.{Handle}
use Rattle.weak_part_calls.specs.acquire_retire.Calls.{IsSameView, same_view}
use Rattle.weak_part_calls.specs.control_word.Calls.{DropsStrong, GainsStrong, without_strong}
use Rattle.weak_part_calls.specs.control_word.Moves.{KnowsStill}
use Rattle.weak_part_calls.specs.retiring_stores.Exchanging.{LosesTo, Replaces}
use Rattle.linked_queue.specs.queue_law.Lessons.{TellsNothing}
use Rattle.linked_queue.specs.queue_law.Pushes.{carried_item, exchange_next}
use Rattle.weak_part_calls.specs.part_calls.Parts.{as_part, seen_by}
use Rattle.linked_queue.specs.Leaving.{Leaves}
use Rattle.linked_queue.proofs.Leavings.{exchange_leaves}
use Rattle.double_link_queue.proofs.Accepting.{exchange_all}
use Rattle.double_link_queue.proofs.Exchanges.{exchange_keeps, exchange_ready, flying, in_flight, lost_client, unexchanged}
use Rattle.double_link_queue.proofs.exchanging.exchange.Goals as goal

pub try_replace-requires-clause-expected : goal.try_replace-requires-clause-expected
try_replace-requires-clause-expected g c =
    subst (λ (z : Shape). c.args.last.0 < z.slots) c.requires.rest.of_domain.1
    c.requires.ready.tail.inside

pub try_replace-requires-clause-deed : goal.try_replace-requires-clause-deed
try_replace-requires-clause-deed g c =
    let fits = g.P.Kind.PayloadKind.fits in
    let d = as_part g.P.Part.part c.args.domain.now in
    let old = seen_by g.P.Part.seen c.args.seat.now in
    let copied = seen_by g.P.Part.seen c.copy_strong.new.seat in
    let copies = subst (λ (s : SlotId). GainsStrong fits d same_view IsSameView s old copied)
    c.of.ensures c.in-Ok.ensures.copied.1 in
    exchange_ready fits d c.args.last c.args.node old copied c.requires.ready copies
    c.copy_strong.ensures.seen c.copy_strong.ensures.objects c.args.tail c.in-Ok.given.slot
    c.requires.tail (c.in-Ok.ensures.copied.0 ∙ c.of.ensures) c.requires.queue c.requires.attached

pub try_replace-requires-clause-accepted : goal.try_replace-requires-clause-accepted
try_replace-requires-clause-accepted g c =
    exchange_all g.P.Part.seen g.P.Part.suits g.met.P.HasQueue.accepts
    c.args.domain.now.protocol c.copy_strong.new.seat.view.client g.P.HasQueue.may_push
    g.met.P.HasQueue.accepts_push
    (subst (λ v. g.P.HasQueue.may_push c.args.domain.now.protocol v
    (carried_item (g.P.Part.seen v))) (sym c.copy_strong.ensures.client) c.requires.may)

pub try_replace-requires-clause-within : goal.try_replace-requires-clause-within
try_replace-requires-clause-within g c =
    inr c.requires.tail

pub returns-in-Ok-try_replace : goal.returns-in-Ok-try_replace
returns-in-Ok-try_replace g c =
    let fits = g.P.Kind.PayloadKind.fits in
    let d = as_part g.P.Part.part c.args.domain.now in
    let old = seen_by g.P.Part.seen c.args.seat.now in
    let copied = seen_by g.P.Part.seen c.copy_strong.new.seat in
    let new = seen_by g.P.Part.seen c.try_replace.new.seat in
    let last = c.args.last in
    let node = c.args.node in
    let copies = subst (λ (s : SlotId). GainsStrong fits d same_view IsSameView s old copied)
    c.of.ensures c.in-Ok.ensures.copied.1 in
    let same = c.in-Ok.ensures.copied.0 ∙ c.of.ensures in
    let replaces = subst (λ (x : ℕ × SlotId). Replaces fits d exchange_next TellsNothing (Cell x.0)
    (Some x.1) (Some last) copied new)
    (λ i. (c.requires.tail i, same i)) c.in-Ok-try_replace.ensures.replaced.0 in
    let still = subst (λ (s : SlotId). Leaves (without s copied.view.core.owned) copied new) same
    (exchange_leaves (Cell c.args.tail) _ (Some c.in-Ok.given.slot) _ copied new refl
    c.in-Ok-try_replace.ensures.replaced.0 c.try_replace.ensures.objects) in
    let client = flying fits d last node old copied c.requires.ready copies
    c.copy_strong.ensures.seen c.copy_strong.ensures.objects new still replaces in
    record {
      events = record { copied = copied; copies = copies; replaces = replaces };
      pushed = client;
      flight = in_flight fits d last node old copied c.requires.ready copies
          c.copy_strong.ensures.seen c.copy_strong.ensures.objects new still client;
      refused = tt;
      makes = search rules;
      leaves = exchange_keeps fits d last node old copied c.requires.ready copies
          c.copy_strong.ensures.seen c.copy_strong.ensures.objects new still;
      why = tt;
      spent = tt;
      room = c.try_replace.ensures.room;
      beside_part = c.try_replace.ensures.beside ∙ c.copy_strong.ensures.beside;
      rest = c.try_replace.ensures.rest;
    }

pub returns : goal.returns
returns g c =
    let fits = g.P.Kind.PayloadKind.fits in
    let d = as_part g.P.Part.part c.args.domain.now in
    let old = seen_by g.P.Part.seen c.args.seat.now in
    let copied = seen_by g.P.Part.seen c.copy_strong.new.seat in
    let lost = seen_by g.P.Part.seen c.try_replace.new.seat in
    let new = seen_by g.P.Part.seen c.drop_strong.new.seat in
    let last = c.args.last in
    let node = c.args.node in
    let copies = subst (λ (s : SlotId). GainsStrong fits d same_view IsSameView s old copied)
    c.of.ensures c.in-Ok.ensures.copied.1 in
    let same = c.in-Ok.ensures.copied.0 ∙ c.of.ensures in
    let loses = subst (λ (x : ℕ × SlotId). LosesTo fits d exchange_next TellsNothing (Cell x.0)
    (Some x.1) (Some last) c.in-Err.lost.now copied lost)
    (λ i. (c.requires.tail i, same i)) c.in-Err.ensures.lost in
    let both : Some c.in-Some.given ≡ Some c.in-Ok.given =
    sym c.in-Some.is ∙ c.in-Err.ensures.back in
    let handles : c.in-Some.given ≡ c.in-Ok.given = cc (both) in
    let back = ap (λ (h : Handle). h.slot) handles ∙ same in
    record {
      events = tt;
      pushed = tt;
      flight = tt;
      refused = c.drop_strong.ensures.seen
          ∙ lost_client fits d last node old copied c.requires.ready copies
          c.copy_strong.ensures.seen c.copy_strong.ensures.objects lost new c.in-Err.lost.now loses;
      makes = search rules;
      leaves = unexchanged fits d last node old copied c.requires.ready copies
          c.copy_strong.ensures.seen c.copy_strong.ensures.objects lost new c.in-Err.lost.now loses
          (subst (λ (s : SlotId). DropsStrong fits d s lost new) back c.drop_strong.ensures.dropped)
          (subst (λ (s : SlotId). KnowsStill (without_strong s lost.view.core) lost new) back
          c.drop_strong.ensures.objects);
      why = record {
        copied = copied;
        lost = lost;
        copies = copies;
        expected = c.held_as.ensures;
        loses = loses;
        drops = subst (λ (s : SlotId). DropsStrong fits d s lost new) back
            c.drop_strong.ensures.dropped;
      };
      spent = λ is. absurd (cc (is));
      room = c.drop_strong.ensures.room c.try_replace.ensures.room;
      beside_part = c.drop_strong.ensures.beside ∙ c.try_replace.ensures.beside
          ∙ c.copy_strong.ensures.beside;
      rest = c.drop_strong.ensures.rest;
    }
