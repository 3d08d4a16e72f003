use Rattle.linked_queue.proofs.Accepting.{kept_all, take_kept}
use Rattle.part_calls.specs.Parts.{as_part, seen_by}
use Rattle.std.proofs.Common.{rules, ◌≡◌, ℕ, inl, refl, ap, sym, ◌∙◌, subst}
use Rattle.std.specs.Prelude.{Some}
use Rattle.queue_protocol.specs.plain_state.declared.act.EventPlace.TheVariants.{Cell}
use Rattle.queue_protocol.specs.plain_state.declared.slot.SlotId.{SlotId}
use Rattle.slot_store.specs.core_events.Views.{without}
use Rattle.slot_store.specs.counted_handles.Handles.{Handle}
use Rattle.slot_store.specs.acquire_retire.Calls.{IsSameView, same_view}
use Rattle.slot_store.specs.control_word.Calls.{DropsStrong, GainsStrong, without_strong}
use Rattle.slot_store.specs.control_word.Moves.{KnowsStill}
use Rattle.slot_store.specs.retiring_stores.Exchanging.{LosesTo, Replaces}
use Rattle.queue_protocol.specs.queue_law.Lessons.{TellsNothing}
use Rattle.queue_protocol.specs.queue_law.Pops.{take_next}
use Rattle.linked_queue.specs.Leaving.{Leaves}
use Rattle.linked_queue.proofs.Leavings.{exchange_leaves}
use Rattle.linked_queue.proofs.Takings.{front_there, take_ready, taken_deeds, taken_dummy, taken_leaves, unchanged}
use Rattle.linked_queue.proofs.taking.take.Goals as goal

pub try_replace-requires-clause-expected : goal.try_replace-requires-clause-expected
try_replace-requires-clause-expected g c =
    let copies = subst (λ (s : SlotId). GainsStrong g.P.Kind.PayloadKind.fits (as_part g.P.Part.part c.args.domain.now) same_view
    IsSameView s (seen_by g.P.Part.seen c.args.seat.now) (seen_by g.P.Part.seen c.copy_strong.new.seat))
    c.of.ensures c.in-Ok.ensures.copied.1 in
    front_there g.P.Kind.PayloadKind.fits (as_part g.P.Part.part c.args.domain.now) c.args.sight.front c.args.sight.next c.args.sight.item (seen_by g.P.Part.seen c.args.seat.now)
    (seen_by g.P.Part.seen c.copy_strong.new.seat) c.requires.sees copies c.copy_strong.ensures.seen
    c.copy_strong.ensures.objects

pub try_replace-requires-clause-deed : goal.try_replace-requires-clause-deed
try_replace-requires-clause-deed g c =
    let copies = subst (λ (s : SlotId). GainsStrong g.P.Kind.PayloadKind.fits (as_part g.P.Part.part c.args.domain.now) same_view
    IsSameView s (seen_by g.P.Part.seen c.args.seat.now) (seen_by g.P.Part.seen c.copy_strong.new.seat))
    c.of.ensures c.in-Ok.ensures.copied.1 in
    take_ready g.P.Kind.PayloadKind.fits (as_part g.P.Part.part c.args.domain.now) c.args.sight.front c.args.sight.next c.args.sight.item (seen_by g.P.Part.seen c.args.seat.now)
    (seen_by g.P.Part.seen c.copy_strong.new.seat) c.requires.sees copies c.copy_strong.ensures.seen
    c.copy_strong.ensures.objects c.args.head c.in-Ok.given.slot c.requires.head
    (c.in-Ok.ensures.copied.0 ∙ c.of.ensures) c.requires.attached

pub returns-in-Ok-try_replace : goal.returns-in-Ok-try_replace
returns-in-Ok-try_replace g c =
    let copies = subst (λ (s : SlotId). GainsStrong g.P.Kind.PayloadKind.fits (as_part g.P.Part.part c.args.domain.now) same_view
    IsSameView s (seen_by g.P.Part.seen c.args.seat.now) (seen_by g.P.Part.seen c.copy_strong.new.seat))
    c.of.ensures c.in-Ok.ensures.copied.1 in
    let same = c.in-Ok.ensures.copied.0 ∙ c.of.ensures in
    let replaces = subst (λ (x : ℕ × SlotId). Replaces g.P.Kind.PayloadKind.fits (as_part g.P.Part.part c.args.domain.now) take_next
    TellsNothing (Cell x.0) (Some x.1) (Some c.args.sight.front) (seen_by g.P.Part.seen c.copy_strong.new.seat)
    (seen_by g.P.Part.seen c.try_replace.new.seat))
    (λ i. (c.requires.head i, same i)) c.in-Ok-try_replace.ensures.replaced.0 in
    let still = subst (λ (s : SlotId). Leaves (without s c.copy_strong.new.seat.view.core.owned)
    (seen_by g.P.Part.seen c.copy_strong.new.seat) (seen_by g.P.Part.seen c.try_replace.new.seat)) same
    (exchange_leaves (Cell c.args.head) _ (Some c.in-Ok.given.slot) _ (seen_by g.P.Part.seen c.copy_strong.new.seat)
    (seen_by g.P.Part.seen c.try_replace.new.seat) refl c.in-Ok-try_replace.ensures.replaced.0
    c.try_replace.ensures.objects) in
    record {
      takes = record { copied = (seen_by g.P.Part.seen c.copy_strong.new.seat); copies = copies; replaces = replaces };
      popped = taken_deeds g.P.Kind.PayloadKind.fits (as_part g.P.Part.part c.args.domain.now) c.args.sight.front c.args.sight.next
          c.args.sight.item (seen_by g.P.Part.seen c.args.seat.now) (seen_by g.P.Part.seen c.copy_strong.new.seat) c.requires.sees copies
          c.copy_strong.ensures.seen c.copy_strong.ensures.objects (seen_by g.P.Part.seen c.try_replace.new.seat)
          replaces still;
      dummy = taken_dummy g.P.Kind.PayloadKind.fits (as_part g.P.Part.part c.args.domain.now) c.args.sight.front c.args.sight.next
          c.args.sight.item (seen_by g.P.Part.seen c.args.seat.now) (seen_by g.P.Part.seen c.copy_strong.new.seat) c.requires.sees copies
          c.copy_strong.ensures.seen c.copy_strong.ensures.objects (seen_by g.P.Part.seen c.try_replace.new.seat)
          replaces still;
      refused = tt;
      why = tt;
      makes = search rules;
      spent = tt;
      leaves = taken_leaves g.P.Kind.PayloadKind.fits (as_part g.P.Part.part c.args.domain.now) c.args.sight.front c.args.sight.next
          c.args.sight.item (seen_by g.P.Part.seen c.args.seat.now) (seen_by g.P.Part.seen c.copy_strong.new.seat) c.requires.sees copies
          c.copy_strong.ensures.seen c.copy_strong.ensures.objects (seen_by g.P.Part.seen c.try_replace.new.seat)
          replaces still;
      room = c.try_replace.ensures.room;
      beside_part = c.try_replace.ensures.beside ∙ c.copy_strong.ensures.beside;
      rest = c.try_replace.ensures.rest;
    }

pub returns : goal.returns
returns g c =
    let copies = subst (λ (s : SlotId). GainsStrong g.P.Kind.PayloadKind.fits (as_part g.P.Part.part c.args.domain.now) same_view
    IsSameView s (seen_by g.P.Part.seen c.args.seat.now) (seen_by g.P.Part.seen c.copy_strong.new.seat))
    c.of.ensures c.in-Ok.ensures.copied.1 in
    let same = c.in-Ok.ensures.copied.0 ∙ c.of.ensures in
    let loses = subst (λ (x : ℕ × SlotId). LosesTo g.P.Kind.PayloadKind.fits (as_part g.P.Part.part c.args.domain.now) take_next
    TellsNothing (Cell x.0) (Some x.1) (Some c.args.sight.front) c.in-Err.lost.now
    (seen_by g.P.Part.seen c.copy_strong.new.seat) (seen_by g.P.Part.seen c.try_replace.new.seat))
    (λ i. (c.requires.head i, same i)) c.in-Err.ensures.lost in
    let both : Some c.in-Some.given ≡ Some c.in-Ok.given =
    sym c.in-Some.is ∙ c.in-Err.ensures.back in
    let handles : c.in-Some.given ≡ c.in-Ok.given = cc (both) in
    let back = ap (λ (h : Handle). h.slot) handles ∙ same in
    record {
      takes = tt;
      popped = tt;
      dummy = tt;
      refused = search rules;
      makes = search rules;
      spent = λ is. absurd (cc (is));
      why = (
        c.held_as.ensures,
        record {
          copied = (seen_by g.P.Part.seen c.copy_strong.new.seat);
          lost = (seen_by g.P.Part.seen c.try_replace.new.seat);
          copies = copies;
          loses = loses;
          drops = subst (λ (s : SlotId). DropsStrong g.P.Kind.PayloadKind.fits (as_part g.P.Part.part c.args.domain.now) s (seen_by g.P.Part.seen c.try_replace.new.seat)
              (seen_by g.P.Part.seen c.drop_strong.new.seat)) back c.drop_strong.ensures.dropped;
        },
      );
      leaves = unchanged g.P.Kind.PayloadKind.fits (as_part g.P.Part.part c.args.domain.now) c.args.sight.front c.args.sight.next c.args.sight.item (seen_by g.P.Part.seen c.args.seat.now)
          (seen_by g.P.Part.seen c.copy_strong.new.seat) c.requires.sees copies c.copy_strong.ensures.seen
          c.copy_strong.ensures.objects (seen_by g.P.Part.seen c.try_replace.new.seat) (seen_by g.P.Part.seen c.drop_strong.new.seat) c.in-Err.lost.now loses
          (subst (λ (s : SlotId). DropsStrong g.P.Kind.PayloadKind.fits (as_part g.P.Part.part c.args.domain.now) s (seen_by g.P.Part.seen c.try_replace.new.seat)
          (seen_by g.P.Part.seen c.drop_strong.new.seat)) back c.drop_strong.ensures.dropped)
          (subst (λ (s : SlotId). KnowsStill (without_strong s c.try_replace.new.seat.view.core)
          (seen_by g.P.Part.seen c.try_replace.new.seat) (seen_by g.P.Part.seen c.drop_strong.new.seat)) back c.drop_strong.ensures.objects);
      room = c.drop_strong.ensures.room c.try_replace.ensures.room;
      beside_part = c.drop_strong.ensures.beside ∙ c.try_replace.ensures.beside
          ∙ c.copy_strong.ensures.beside;
      rest = c.drop_strong.ensures.rest;
    }

pub try_replace-requires-clause-accepted : goal.try_replace-requires-clause-accepted
try_replace-requires-clause-accepted g c =
    kept_all g.P.Part.seen g.P.Part.suits g.met.P.HasQueue.accepts
    c.args.domain.now.protocol c.copy_strong.new.seat.view.client take_next
    take_kept

pub try_replace-requires-clause-within : goal.try_replace-requires-clause-within
try_replace-requires-clause-within g c =
    inl c.requires.head
