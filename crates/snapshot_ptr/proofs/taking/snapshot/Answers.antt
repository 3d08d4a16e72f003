use Rattle.std.proofs.Common.{◌≡◌, ℕ, refl, sym, subst, ◌∙◌}
use Rattle.std.specs.Prelude.{IfSome, Option}
use Rattle.protected_loads.specs.plain_state.declared.act.EventPlace.{EventPlace}
use Rattle.protected_loads.specs.plain_state.declared.slot.SlotId.{SlotId}
use Rattle.protected_loads.specs.acquire_retire.Notes.{least_free}
use Rattle.protected_loads.specs.Retries.{AtLast, IsReadyToReacquire}
use Rattle.atomic_shared.specs.Places.{strong_place}
use Rattle.atomic_shared.proofs.StoredNames.{strong_kind}
use Rattle.snapshot_ptr.specs.Handles.{slot_under}
use Rattle.snapshot_ptr.specs.Taking.{Takes, word_taken}
use Rattle.snapshot_ptr.proofs.Taken.{holds_found, least_is_there, taken_at_last, under_found}
use Rattle.snapshot_ptr.proofs.taking.snapshot.Goals as goal

pub load-requires-clause-deed : goal.load-requires-clause-deed
load-requires-clause-deed g c =
    subst (λ (y : EventPlace × Option ℕ).
    IsReadyToReacquire g.P.Kind.PayloadKind.fits c.args.domain.now y.0
    (g.D.Deed.next c.args.deed c.args.domain.now.protocol)
    (g.D.Deed.allows c.args.deed c.args.domain.now.protocol) (word_taken y.1)
    (g.D.Deed.ready c.args.deed c.args.domain.now.protocol) c.args.seat.now)
    (λ i. (sym c.event_place-place.ensures i, (sym c.free_note.ensures ∙ c.in_default.is) i))
    c.requires.deed

pub returns-in_default-clause-taken : goal.returns-in_default-clause-taken
returns-in_default-clause-taken g c =
    subst (λ (y : EventPlace × Option ℕ × Option SlotId).
    AtLast g.P.Kind.PayloadKind.fits c.args.domain.now y.0
    (g.D.Deed.next c.args.deed c.args.domain.now.protocol)
    (g.D.Deed.allows c.args.deed c.args.domain.now.protocol) (word_taken y.1)
    (Takes g.P.Kind.PayloadKind.fits c.args.domain.now y.0
    (g.D.Deed.next c.args.deed c.args.domain.now.protocol)
    (g.D.Deed.allows c.args.deed c.args.domain.now.protocol) y.1 y.2)
    c.args.seat.now c.load.new.seat)
    (λ i. (
      c.event_place-place.ensures i,
      (sym c.in_default.is ∙ c.free_note.ensures) i,
      sym c.held_by.ensures.slot i,
    ))
    (c.in_ok-load.ensures {u = tt}).loaded

pub returns-in_default-clause-others : goal.returns-in_default-clause-others
returns-in_default-clause-others g c =
    (taken_at_last g.P.Kind.PayloadKind.fits c.args.domain.now (strong_place c.args.place)
    (g.D.Deed.next c.args.deed c.args.domain.now.protocol)
    (g.D.Deed.allows c.args.deed c.args.domain.now.protocol) c.args.seat.now c.load.new.seat
    (strong_kind c.args.place) _ (slot_under c.held_by.result)
    (returns-in_default-clause-taken g c)
    (least_is_there c.args.seat.now.view.core _ refl)).0

pub returns-in_default-clause-word : goal.returns-in_default-clause-word
returns-in_default-clause-word g c =
    subst (λ (w : Option ℕ). IfSome c.held_by.result (λ s. s.word ≡ w))
    (sym c.in_default.is ∙ c.free_note.ensures) c.held_by.ensures.word

pub returns-in_default-clause-under : goal.returns-in_default-clause-under
returns-in_default-clause-under g c =
    under_found (least_free c.args.seat.now.view.core) c.held_by.result c.load.new.seat.view.core
    (returns-in_default-clause-word g c)
    (taken_at_last g.P.Kind.PayloadKind.fits c.args.domain.now (strong_place c.args.place)
    (g.D.Deed.next c.args.deed c.args.domain.now.protocol)
    (g.D.Deed.allows c.args.deed c.args.domain.now.protocol) c.args.seat.now c.load.new.seat
    (strong_kind c.args.place) _ (slot_under c.held_by.result)
    (returns-in_default-clause-taken g c)
    (least_is_there c.args.seat.now.view.core _ refl)).1

pub returns-in_default-clause-holds : goal.returns-in_default-clause-holds
returns-in_default-clause-holds g c =
    holds_found c.held_by.result c.load.new.seat.view.core
    (returns-in_default-clause-under g c)

pub acquire_at_last-found-requires-clause-deed : goal.acquire_at_last-found-requires-clause-deed
acquire_at_last-found-requires-clause-deed g c =
    subst (λ (y : EventPlace × Option ℕ).
    IsReadyToReacquire g.P.Kind.PayloadKind.fits c.args.domain.now y.0
    (g.D.Deed.next c.args.deed c.args.domain.now.protocol)
    (g.D.Deed.allows c.args.deed c.args.domain.now.protocol) (word_taken y.1)
    (g.D.Deed.ready c.args.deed c.args.domain.now.protocol) c.args.seat.now)
    (λ i. (sym c.event_place-place.ensures i, (sym c.free_note.ensures ∙ c.in-Some.is) i))
    c.requires.deed

pub returns-clause-taken : goal.returns-clause-taken
returns-clause-taken g c =
    subst (λ (y : EventPlace × Option ℕ × Option SlotId).
    AtLast g.P.Kind.PayloadKind.fits c.args.domain.now y.0
    (g.D.Deed.next c.args.deed c.args.domain.now.protocol)
    (g.D.Deed.allows c.args.deed c.args.domain.now.protocol) (word_taken y.1)
    (Takes g.P.Kind.PayloadKind.fits c.args.domain.now y.0
    (g.D.Deed.next c.args.deed c.args.domain.now.protocol)
    (g.D.Deed.allows c.args.deed c.args.domain.now.protocol) y.1 y.2)
    c.args.seat.now c.acquire_at_last-found.new.seat)
    (λ i. (
      c.event_place-place.ensures i,
      (sym c.in-Some.is ∙ c.free_note.ensures) i,
      sym c.held_by-2.ensures.slot i,
    ))
    c.acquire_at_last-found.ensures.acquired

pub returns-clause-others : goal.returns-clause-others
returns-clause-others g c =
    (taken_at_last g.P.Kind.PayloadKind.fits c.args.domain.now (strong_place c.args.place)
    (g.D.Deed.next c.args.deed c.args.domain.now.protocol)
    (g.D.Deed.allows c.args.deed c.args.domain.now.protocol) c.args.seat.now
    c.acquire_at_last-found.new.seat (strong_kind c.args.place) _
    (slot_under c.held_by-2.result) (returns-clause-taken g c)
    (least_is_there c.args.seat.now.view.core _ refl)).0

pub returns-clause-word : goal.returns-clause-word
returns-clause-word g c =
    subst (λ (w : Option ℕ). IfSome c.held_by-2.result (λ s. s.word ≡ w))
    (sym c.in-Some.is ∙ c.free_note.ensures) c.held_by-2.ensures.word

pub returns-clause-under : goal.returns-clause-under
returns-clause-under g c =
    under_found (least_free c.args.seat.now.view.core) c.held_by-2.result
    c.acquire_at_last-found.new.seat.view.core (returns-clause-word g c)
    (taken_at_last g.P.Kind.PayloadKind.fits c.args.domain.now (strong_place c.args.place)
    (g.D.Deed.next c.args.deed c.args.domain.now.protocol)
    (g.D.Deed.allows c.args.deed c.args.domain.now.protocol) c.args.seat.now
    c.acquire_at_last-found.new.seat (strong_kind c.args.place) _
    (slot_under c.held_by-2.result) (returns-clause-taken g c)
    (least_is_there c.args.seat.now.view.core _ refl)).1

pub returns-clause-holds : goal.returns-clause-holds
returns-clause-holds g c =
    holds_found c.held_by-2.result c.acquire_at_last-found.new.seat.view.core
    (returns-clause-under g c)
