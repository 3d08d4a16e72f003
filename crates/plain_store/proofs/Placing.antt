-- A place that takes another content: what the seat gives up, what is deferred, and the sums that stay.
use Rattle.std.proofs.Common.{◌≡◌, ◌<◌, List, length, refl, ap, sym, ◌∙◌, subst, arith, lit<, Option, Some, None}
use Rattle.std.specs.Prelude.{slice_index_or}
use Rattle.std.proofs.lemmas.List.{length-set}
use Rattle.plain_state.specs.declared.act.EventPlace.{EventPlace}
use Rattle.plain_state.specs.declared.act.EventPlace.TheVariants.{Cell, Field, WeakCell, WeakField}
use Rattle.plain_state.specs.declared.act.PlainAct.TheVariants as act
use Rattle.plain_state.specs.declared.slot.Kind.{Kind}
use Rattle.plain_state.specs.declared.slot.Kind.TheVariants.{Strong, Weak, Disposal}
use Rattle.plain_state.specs.declared.slot.SlotId.{SlotId}
use Rattle.plain_store.specs.declared.store.Store.{Store}
use Rattle.plain_state.specs.Lists.{Loses, entry_times}
use Rattle.plain_state.specs.State.{Plain, PlainSeat, new_seat, seat_at, slot_at, with_seat}
use Rattle.plain_state.specs.Places.{IsOpen, place_kind, with_field, content, with_content}
use Rattle.plain_state.specs.References.{strong_refs, weak_refs}
use Rattle.plain_state.specs.Steps.{joined, GivesUp, Replaces, word_of}
use Rattle.plain_state.specs.Sound.{Sound}
use Rattle.plain_store.specs.Calls.{HasPlace, SameObjects}
use Rattle.plain_store.specs.Stores.{plain_of, Kept}
use Rattle.plain_state.proofs.Changes.{IsThere, place_holds, content_object, seat_change, place_change}
use Rattle.plain_state.proofs.SeatRows.{open_there}
use Rattle.plain_state.proofs.PlaceRows.{joined_times, gave}
use Rattle.plain_state.proofs.EveryStep.{step_sound}
use Rattle.plain_store.proofs.Disposals.{NoneIn, none_joined, seat_disposals}
use Rattle.plain_store.proofs.Gains.{kept_by, tallied_same}

-- what a seat gives up
nothing_given : (k : Kind) (v : PlainSeat) → GivesUp k None v v
nothing_given Strong v = refl
nothing_given Weak v = refl
nothing_given Disposal v = refl

pub gives_null : (k : Kind) (new : Option SlotId) (v : PlainSeat) → new ≡ None → GivesUp k new v v
gives_null k new v e = subst (λ (o : Option SlotId). GivesUp k o v v) (sym e) (nothing_given k v)

pub gives_strong : (k : Kind) (new : Option SlotId) (s : SlotId) (v : PlainSeat) (xs : List SlotId) → k ≡ Strong → new ≡ Some s → Loses v.owned s xs
    → GivesUp k new v (record v { owned = xs })
gives_strong k new s v xs e f l =
    subst (λ (j : Kind). GivesUp j new v (record v { owned = xs })) (sym e)
    (subst (λ (o : Option SlotId). GivesUp Strong o v (record v { owned = xs })) (sym f) (xs, l, refl))

pub gives_weak : (k : Kind) (new : Option SlotId) (s : SlotId) (v : PlainSeat) (xs : List SlotId) → k ≡ Weak → new ≡ Some s → Loses v.weaks s xs
    → GivesUp k new v (record v { weaks = xs })
gives_weak k new s v xs e f l =
    subst (λ (j : Kind). GivesUp j new v (record v { weaks = xs })) (sym e)
    (subst (λ (o : Option SlotId). GivesUp Weak o v (record v { weaks = xs })) (sym f) (xs, l, refl))

-- an open place is there
place_there : (p : Plain) (place : EventPlace) → IsThere p place → HasPlace p place
place_there p (Cell i) h = h
place_there p (Field s i) h = h
place_there p (WeakCell i) h = h
place_there p (WeakField s) h = h

module _ (h : Store) (place : EventPlace) (k : Kept h) (opened : IsOpen (plain_of h) 0 place) where
  pub opened_there : IsThere (plain_of h) place
  opened_there = open_there (plain_of h) 0 place k.sound (lit< tt) opened

  pub opened_place : HasPlace (plain_of h) place
  opened_place = place_there (plain_of h) place opened_there

-- as many cells and slots, and so the same places
pub same_places : (p q : Plain) (place : EventPlace) → length q.cells ≡ length p.cells → length q.weak_cells ≡ length p.weak_cells → length q.slots ≡ length p.slots
    → HasPlace p place → HasPlace q place
same_places p q (Cell i) e f g h = omega arith
same_places p q (Field s i) e f g h = omega arith
same_places p q (WeakCell i) e f g h = omega arith
same_places p q (WeakField s) e f g h = omega arith

-- a write of a seat leaves places
there_still : (p : Plain) (w : PlainSeat) (place : EventPlace) → IsThere p place → IsThere (with_seat p 0 w) place
there_still p w (Cell i) h = h
there_still p w (Field s i) h = h
there_still p w (WeakCell i) h = h
there_still p w (WeakField s) h = h

content_still : (p : Plain) (w : PlainSeat) (place : EventPlace) → content (with_seat p 0 w) place ≡ content p place
content_still p w (Cell i) = refl
content_still p w (Field s i) = refl
content_still p w (WeakCell i) = refl
content_still p w (WeakField s) = refl

-- a write of a place leaves the number of slots
as_many_slots : (p : Plain) (place : EventPlace) (new : Option SlotId) → length (with_content p place new).slots ≡ length p.slots
as_many_slots p (Cell i) new = refl
as_many_slots p (Field s i) new = length-set p.slots s.0 (with_field i new (slot_at p s))
as_many_slots p (WeakCell i) new = refl
as_many_slots p (WeakField s) new = length-set p.slots s.0 (record (slot_at p s) { weak_field = new })

-- the state where the seat gave up what the place takes, and what the place held is deferred
module _ (p : Plain) (place : EventPlace) (new : Option SlotId) (w : PlainSeat) where
  abbrev after : PlainSeat
  after = record w { deferred = joined (place_kind place) (content p place) w.deferred }

  abbrev pub replaced : Plain
  replaced = with_content (with_seat p 0 after) place new

  pub replaced_size : length replaced.slots ≡ length p.slots
  replaced_size = as_many_slots (with_seat p 0 after) place new

  pub replaced_objects : IsThere p place → SameObjects p replaced
  replaced_objects there s =
      let o = content_object (with_seat p 0 after) place new s (there_still p after place there) in (o.0, o.3)

  -- the references stay: what the seat gave up the place holds, and what the place held is deferred
  module _ (seat : 0 < length p.seats) (there : IsThere p place) (gives : GivesUp (place_kind place) new (seat_at p 0) w) (t : SlotId) where
    abbrev mid : Plain
    mid = with_seat p 0 after

    pub replaced_refs : (strong_refs replaced t ≡ strong_refs p t) × (weak_refs replaced t ≡ weak_refs p t)
    replaced_refs =
        let k = place_kind place in
        let c = seat_change p 0 after t seat in
        let d = place_change mid place new t (there_still p after place there) in
        let g = gave k new (seat_at p 0) w t gives in
        let sd = joined_times Strong k t (content p place) w.deferred in
        let wd = joined_times Weak k t (content p place) w.deferred in
        let sv : entry_times Strong t w.deferred ≡ entry_times Strong t (seat_at p 0).deferred = ap (entry_times Strong t) g.deferred in
        let wv : entry_times Weak t w.deferred ≡ entry_times Weak t (seat_at p 0).deferred = ap (entry_times Weak t) g.deferred in
        let sc : place_holds Strong t place (content mid place) ≡ place_holds Strong t place (content p place) = ap (place_holds Strong t place) (content_still p after place) in
        let wc : place_holds Weak t place (content mid place) ≡ place_holds Weak t place (content p place) = ap (place_holds Weak t place) (content_still p after place) in
        (omega arith, omega arith)

-- a store after such a replace is kept
pub kept_replace : (h h' : Store) (place : EventPlace) (new : Option SlotId) → Kept h → IsOpen (plain_of h) 0 place → Replaces (plain_of h) 0 place new (plain_of h')
    → h'.strong.items ≡ h.strong.items → h'.weak.items ≡ h.weak.items → h'.next ≡ h.next → Kept h'
kept_replace h h' place new k opened (w, gives, e) f g next =
    let p = plain_of h in
    let q = replaced p place new w in
    let there = opened_there h place k opened in
    let refs = replaced_refs p place new w (lit< tt) there gives in
    let given = gave (place_kind place) new (seat_at p 0) w (record { 0 = 0 }) gives in
    let mid : Plain = with_seat p 0 (record w { deferred = joined (place_kind place) (content p place) w.deferred }) in
    let seats = (place_change mid place new (record { 0 = 0 }) (there_still p (seat_at mid 0) place there)).seats in
    let adds : h'.adds ≡ h.adds =
    ap (λ (r : Plain). (seat_at r 0).adds) e ∙ ap (λ (vs : List PlainSeat). (slice_index_or vs 0 new_seat).adds) seats
    ∙ given.adds in
    kept_by h h' q k e (subst Sound e (step_sound p (plain_of h') 0 (act.Replace place new) (word_of (content p place)) k.sound ((lit< tt, refl), (opened, refl, (w, gives, e)))))
    (replaced_size p place new w)
    (rw (f, g) (tallied_same p q h.strong.items h.weak.items k.tallied (replaced_size p place new w) (λ s. (refs s).0) (λ s. (refs s).1)))
    (seat_disposals p q (seat_at mid 0) (lit< tt) seats
    (subst NoneIn (sym given.snapshots) k.disposals.snapshots)
    (none_joined place (content p place) w.deferred (subst NoneIn (sym given.deferred) k.disposals.deferred)))
    (omega (arith, adds, k.adds)) next

pub objects_replace : (h h' : Store) (place : EventPlace) (new : Option SlotId) → Kept h → IsOpen (plain_of h) 0 place → Replaces (plain_of h) 0 place new (plain_of h')
    → SameObjects (plain_of h) (plain_of h')
objects_replace h h' place new k opened (w, gives, e) =
    subst (λ (q : Plain). SameObjects (plain_of h) q) (sym e) (replaced_objects (plain_of h) place new w (opened_there h place k opened))
