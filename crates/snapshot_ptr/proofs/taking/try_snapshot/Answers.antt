use Rattle.std.proofs.Common.{◌≡◌, ℕ, refl, ap, sym, subst, ◌∙◌}
use Rattle.std.specs.Prelude.{Err, IfSome, Ok, Option}
use Rattle.protected_loads.specs.plain_state.declared.act.EventPlace.{EventPlace}
use Rattle.protected_loads.specs.plain_state.declared.slot.SlotId.{SlotId}
use Rattle.protected_loads.specs.acquire_retire.Notes.{least_free}
use Rattle.protected_loads.specs.Loads.{IsReadyToAcquire, Misses}
use Rattle.protected_loads.proofs.Remaining.{acquires}
use Rattle.atomic_shared.specs.Places.{strong_place}
use Rattle.atomic_shared.proofs.StoredNames.{strong_kind}
use Rattle.snapshot_ptr.specs.Handles.{slot_under}
use Rattle.snapshot_ptr.specs.Taking.{Takes, word_taken}
use Rattle.snapshot_ptr.proofs.Taken.{holds_found, least_is_there, stays_loaded, stays_refused, taken, under_found}
use Rattle.snapshot_ptr.proofs.taking.try_snapshot.Goals as goal

pub returns-in_err-try_load-clause-others : goal.returns-in_err-try_load-clause-others
returns-in_err-try_load-clause-others g c =
    stays_refused g.P.Kind.PayloadKind.fits c.args.domain.now c.event_place-place.result
    (g.D.Deed.next c.args.deed c.args.domain.now.protocol)
    (g.D.Deed.allows c.args.deed c.args.domain.now.protocol) c.args.seat.now c.try_load.new.seat
    c.in_err-try_load.field-0.0
    (λ is. (c.in_err-try_load.ensures {u = tt}).refused (ap Err is))
    (λ seen now is. (c.in_err-try_load.ensures {u = tt}).moved seen now (ap Err is))

pub returns-in_default-clause-others : goal.returns-in_default-clause-others
returns-in_default-clause-others g c =
    stays_loaded g.P.Kind.PayloadKind.fits c.args.domain.now c.event_place-place.result
    (g.D.Deed.next c.args.deed c.args.domain.now.protocol)
    (g.D.Deed.allows c.args.deed c.args.domain.now.protocol) c.args.seat.now c.try_load.new.seat
    c.in_ok-try_load.field-0 (c.in_ok-try_load.ensures {u = tt}).loaded

pub acquire-requires-clause-look : goal.acquire-requires-clause-look
acquire-requires-clause-look g c =
    (subst (λ (y : EventPlace × Option ℕ).
    IsReadyToAcquire g.P.Kind.PayloadKind.fits c.args.domain.now (word_taken y.1) y.0
    (g.D.Deed.ready c.args.deed c.args.domain.now.protocol) c.args.seat.now)
    (λ i. (sym c.event_place-place.ensures i, (sym c.free_note.ensures ∙ c.in-Some.is) i))
    c.requires.deed).look

pub acquire-requires-clause-check : goal.acquire-requires-clause-check
acquire-requires-clause-check g c =
    (subst (λ (y : EventPlace × Option ℕ).
    IsReadyToAcquire g.P.Kind.PayloadKind.fits c.args.domain.now (word_taken y.1) y.0
    (g.D.Deed.ready c.args.deed c.args.domain.now.protocol) c.args.seat.now)
    (λ i. (sym c.event_place-place.ensures i, (sym c.free_note.ensures ∙ c.in-Some.is) i))
    c.requires.deed).check

pub returns-in-Ok-clause-taken : goal.returns-in-Ok-clause-taken
returns-in-Ok-clause-taken g c =
    subst (λ (y : EventPlace × Option ℕ × Option SlotId).
    Takes g.P.Kind.PayloadKind.fits c.args.domain.now y.0
    (g.D.Deed.next c.args.deed c.args.domain.now.protocol)
    (g.D.Deed.allows c.args.deed c.args.domain.now.protocol) y.1 y.2 c.args.seat.now
    c.acquire.new.seat)
    (λ i. (
      c.event_place-place.ensures i,
      (sym c.in-Some.is ∙ c.free_note.ensures) i,
      sym c.held_by-in-Ok.ensures.slot i,
    ))
    (acquires g.P.Kind.PayloadKind.fits c.args.domain.now c.event_place-place.result
    (g.D.Deed.next c.args.deed c.args.domain.now.protocol)
    (g.D.Deed.allows c.args.deed c.args.domain.now.protocol) c.args.seat.now c.acquire.new.seat
    c.in-Some.word c.in-Ok.found (λ is. (c.in-Ok.ensures {u = tt}).null (ap Ok is))
    (c.in-Ok.ensures {u = tt}).protected)

pub returns-in-Ok-clause-word : goal.returns-in-Ok-clause-word
returns-in-Ok-clause-word g c =
    subst (λ (w : Option ℕ). IfSome c.held_by-in-Ok.result (λ s. s.word ≡ w))
    (sym c.in-Some.is ∙ c.free_note.ensures) c.held_by-in-Ok.ensures.word

pub returns-in-Ok-clause-others : goal.returns-in-Ok-clause-others
returns-in-Ok-clause-others g c =
    (taken g.P.Kind.PayloadKind.fits c.args.domain.now (strong_place c.args.place)
    (g.D.Deed.next c.args.deed c.args.domain.now.protocol)
    (g.D.Deed.allows c.args.deed c.args.domain.now.protocol) c.args.seat.now c.acquire.new.seat
    (strong_kind c.args.place) _ (slot_under c.held_by-in-Ok.result)
    (returns-in-Ok-clause-taken g c)
    (least_is_there c.args.seat.now.view.core _ refl)).0

pub returns-in-Ok-clause-under : goal.returns-in-Ok-clause-under
returns-in-Ok-clause-under g c =
    under_found (least_free c.args.seat.now.view.core) c.held_by-in-Ok.result
    c.acquire.new.seat.view.core (returns-in-Ok-clause-word g c)
    (taken g.P.Kind.PayloadKind.fits c.args.domain.now (strong_place c.args.place)
    (g.D.Deed.next c.args.deed c.args.domain.now.protocol)
    (g.D.Deed.allows c.args.deed c.args.domain.now.protocol) c.args.seat.now c.acquire.new.seat
    (strong_kind c.args.place) _ (slot_under c.held_by-in-Ok.result)
    (returns-in-Ok-clause-taken g c)
    (least_is_there c.args.seat.now.view.core _ refl)).1

pub returns-in-Ok-clause-holds : goal.returns-in-Ok-clause-holds
returns-in-Ok-clause-holds g c =
    holds_found c.held_by-in-Ok.result c.acquire.new.seat.view.core
    (returns-in-Ok-clause-under g c)

pub returns-in-Err-clause-moved : goal.returns-in-Err-clause-moved
returns-in-Err-clause-moved g c = λ seen now is.
    let words = c.in_words.ensures.words seen now (cc (is)) in
    subst (λ (y : EventPlace × Option ℕ × Option SlotId × Option SlotId).
    Misses g.P.Kind.PayloadKind.fits c.args.domain.now (word_taken y.1) y.0
    (g.D.Deed.next c.args.deed c.args.domain.now.protocol)
    (g.D.Deed.allows c.args.deed c.args.domain.now.protocol) y.2 y.3 c.args.seat.now
    c.acquire.new.seat)
    (λ i. (
      c.event_place-place.ensures i,
      (sym c.in-Some.is ∙ c.free_note.ensures) i,
      sym words.0 i,
      sym words.1 i,
    ))
    (c.in-Err.ensures {u = tt}).moved
