-- A plain heap is under no weak snapshot, and defers none: what keeps that.
use Rattle.std.proofs.Common.{◌≡◌, ℕ, ◌<◌, List, [], ◌∷◌, length, set, ap, sym, ◌∙◌, subst, arith, Option}
use Rattle.std.proofs.lemmas.List.{get_or-set_same}
use Rattle.plain_state.specs.declared.act.EventPlace.{EventPlace}
use Rattle.plain_state.specs.declared.act.EventPlace.TheVariants.{Cell, Field, WeakCell, WeakField}
use Rattle.plain_state.specs.declared.act.PlainAct.{PlainAct}
use Rattle.plain_state.specs.declared.act.PlainAct.TheVariants as act
use Rattle.plain_state.specs.declared.slot.Kind.TheVariants.{Strong, Weak, Disposal}
use Rattle.plain_state.specs.declared.slot.SlotId.{SlotId}
use Rattle.plain_state.specs.Lists.{Entry, entry_times, Loses}
use Rattle.plain_state.specs.State.{Plain, PlainSeat, new_seat, seat_at}
use Rattle.plain_state.specs.Places.{place_kind, content}
use Rattle.plain_state.specs.Steps.{joined, Does}
use Rattle.plain_state.proofs.Kit.{entry_loses}
use Rattle.plain_state.proofs.PlaceRows.{joined_times}
use Rattle.plain_store.specs.Heaps.{NoDisposals}
use Rattle.plain_store.specs.Settling.{Settles, SettlesBy}

-- no entry of the list is one
abbrev pub NoneIn : List Entry → Type 0
NoneIn es = (s : SlotId) → entry_times Disposal s es ≡ 0

none_lost : (e : Entry) (es fs : List Entry) → Loses es e fs → NoneIn es → NoneIn fs
none_lost e es fs l none s = omega (arith, entry_loses Disposal s e es fs l, none s)

-- nor of what places hold
pub none_joined : (place : EventPlace) (old : Option SlotId) (es : List Entry) → NoneIn es → NoneIn (joined (place_kind place) old es)
none_joined (Cell i) old es none s = omega (arith, joined_times Disposal Strong s old es, none s)
none_joined (Field t i) old es none s = omega (arith, joined_times Disposal Strong s old es, none s)
none_joined (WeakCell i) old es none s = omega (arith, joined_times Disposal Weak s old es, none s)
none_joined (WeakField t) old es none s = omega (arith, joined_times Disposal Weak s old es, none s)

-- the seat has the lists that it had
pub same_disposals : (p q : Plain) → (seat_at q 0).snapshots ≡ (seat_at p 0).snapshots → (seat_at q 0).deferred ≡ (seat_at p 0).deferred
    → NoDisposals p → NoDisposals q
same_disposals p q e f none = record { snapshots = subst NoneIn (sym e) none.snapshots; deferred = subst NoneIn (sym f) none.deferred }

-- the seat is written
pub seat_disposals : (p q : Plain) (w : PlainSeat) → 0 < length p.seats → q.seats ≡ set p.seats 0 w → NoneIn w.snapshots → NoneIn w.deferred
    → NoDisposals q
seat_disposals p q w here e snapshots deferred =
    let is : seat_at q 0 ≡ w = ap (λ (vs : List PlainSeat). seat_at (record q { seats = vs }) 0) e ∙ get_or-set_same p.seats 0 w new_seat here in
    record {
      snapshots = subst (λ (v : PlainSeat). NoneIn v.snapshots) (sym is) snapshots;
      deferred = subst (λ (v : PlainSeat). NoneIn v.deferred) (sym is) deferred;
    }

-- a snapshot ends
pub end_disposals : (p q : Plain) (found : ℕ) (s : SlotId) → NoDisposals p → Does p 0 (act.EndSnapshot Strong s) found q → NoDisposals q
end_disposals p q found s none (here, (es, l, z, e)) =
    seat_disposals p q (record (seat_at p 0) { snapshots = es }) here.0 (ap (λ (r : Plain). r.seats) e)
    (none_lost (Strong, s) (seat_at p 0).snapshots es l none.snapshots) none.deferred

-- a step that settles
step_disposals : (p q : Plain) (a : PlainAct) (found : ℕ) → Settles p a q → NoDisposals p → Does p 0 a found q → NoDisposals q
step_disposals p q (act.Eject k s) found may none (here, (es, l, z, e, c)) =
    seat_disposals p q (record (seat_at p 0) { deferred = es }) here.0 (ap (λ (r : Plain). r.seats) e)
    none.snapshots (none_lost (k, s) (seat_at p 0).deferred es l none.deferred)
step_disposals p q (act.End s) found may none (here, (live, ends, z, e)) =
    seat_disposals p q _ here.0 (ap (λ (r : Plain). r.seats) e) none.snapshots none.deferred
step_disposals p q (act.Clear (Field s i)) found may none (here, (dying, z, e)) =
    seat_disposals p q _ here.0 (ap (λ (r : Plain). r.seats) e) none.snapshots
    (none_joined (Field s i) (content p (Field s i)) (seat_at p 0).deferred none.deferred)
step_disposals p q (act.Clear (WeakField s)) found may none (here, (dying, z, e)) =
    seat_disposals p q _ here.0 (ap (λ (r : Plain). r.seats) e) none.snapshots
    (none_joined (WeakField s) (content p (WeakField s)) (seat_at p 0).deferred none.deferred)
step_disposals p q (act.Clear (Cell i)) found may none d = absurd d.1.0
step_disposals p q (act.Clear (WeakCell i)) found may none d = absurd d.1.0
step_disposals p q (act.Destroy s) found may none (here, (nulls, under, z, (xs, l, e))) =
    seat_disposals p q _ here.0 (ap (λ (r : Plain). r.seats) e) none.snapshots none.deferred
step_disposals p q (act.Give s) found may none (here, (husk, few, z, e)) =
    same_disposals p q (ap (λ (r : Plain). (seat_at r 0).snapshots) e) (ap (λ (r : Plain). (seat_at r 0).deferred) e) none
step_disposals p q _ found may none d = absurd may

pub settles_disposals : (weight : List ℕ → ℕ) (acts : List PlainAct) (p q : Plain) (t : ℕ) → NoDisposals p → SettlesBy weight acts p t q → NoDisposals q
settles_disposals weight [] p q t none (e, z) = subst NoDisposals (sym e) none
settles_disposals weight (a ∷ acts) p q t none (m, found, rest, s, d, by, e) =
    settles_disposals weight acts m q rest (step_disposals p m a found s none d) by
