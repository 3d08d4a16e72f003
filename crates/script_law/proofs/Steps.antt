-- The same step of two states that are alike, by the new names, leads to states that are alike.
use Rattle.std.proofs.Common.{◌≡◌, ℕ, ◌<◌, List, [], ◌∷◌, ◌++◌, length, refl, ap, sym, ◌∙◌, subst, subst₂, arith, Option, Some, None}
use Rattle.script_desk.specs.plain_state.declared.act.EventPlace.{EventPlace}
use Rattle.script_desk.specs.plain_state.declared.act.EventPlace.TheVariants.{Cell, Field, WeakCell, WeakField}
use Rattle.script_desk.specs.plain_state.declared.act.PlainAct.TheVariants as act
use Rattle.script_desk.specs.plain_state.declared.slot.Kind.{Kind}
use Rattle.script_desk.specs.plain_state.declared.slot.Kind.TheVariants.{Strong, Weak, Disposal}
use Rattle.script_desk.specs.plain_state.declared.slot.SlotId.{SlotId}
use Rattle.script_desk.specs.plain_state.Lists.{Entry, Loses}
use Rattle.script_desk.specs.plain_state.Places.{content, place_kind, with_content}
use Rattle.script_desk.specs.plain_state.State.{Plain, PlainSeat, seat_at, with_seat}
use Rattle.script_desk.specs.plain_state.Steps.{Does, GivesUp, Replaces, joined}
use Rattle.script_desk.proofs.Below.plain_state_Changes.{IsThere}
use Rattle.script_desk.proofs.Below.plain_state_Kit.{of_kind}
use Rattle.script_desk.proofs.Below.plain_state_PlaceRows.{joined_times}
use Rattle.script_desk.specs.plain_store.Calls.{gained, weakly_gained}
use Rattle.script_law.specs.Renamings.{IsRenaming, renamed}
use Rattle.script_law.specs.States.{SeatsAlike, StatesAlike}
use Rattle.script_law.proofs.Counts.{Entries, entries_gain, entries_lose, held_renamed, slots_lose, slots_push}
use Rattle.script_law.proofs.States.{content_alike, place_alike, renamed_place, seat_alike, there_written}

module _ (to from : SlotId → SlotId) (n : ℕ) (r : IsRenaming n to from) where
  -- ---- the seat
  pub own_more : (v w : PlainSeat) (s : SlotId) (a b : ℕ) → SeatsAlike to v w
      → SeatsAlike to (record v { owned = v.owned ++ s ∷ []; adds = a }) (record w { owned = w.owned ++ to s ∷ []; adds = b })
  own_more v w s a b same = record {
    owned = slots_push to from r.back r.forth v.owned w.owned s same.owned;
    weaks = same.weaks;
    snapshots = same.snapshots;
    deferred = same.deferred;
  }

  weak_more : (v w : PlainSeat) (s : SlotId) (a b : ℕ) → SeatsAlike to v w
      → SeatsAlike to (record v { weaks = v.weaks ++ s ∷ []; adds = a }) (record w { weaks = w.weaks ++ to s ∷ []; adds = b })
  weak_more v w s a b same = record {
    owned = same.owned;
    weaks = slots_push to from r.back r.forth v.weaks w.weaks s same.weaks;
    snapshots = same.snapshots;
    deferred = same.deferred;
  }

  own_less : (v w : PlainSeat) (s : SlotId) (xs ys : List SlotId) → SeatsAlike to v w → Loses v.owned s xs → Loses w.owned (to s) ys
      → SeatsAlike to (record v { owned = xs }) (record w { owned = ys })
  own_less v w s xs ys same l m = record {
    owned = slots_lose to from r.back r.forth v.owned w.owned xs ys s same.owned l m;
    weaks = same.weaks;
    snapshots = same.snapshots;
    deferred = same.deferred;
  }

  weak_less : (v w : PlainSeat) (s : SlotId) (xs ys : List SlotId) → SeatsAlike to v w → Loses v.weaks s xs → Loses w.weaks (to s) ys
      → SeatsAlike to (record v { weaks = xs }) (record w { weaks = ys })
  weak_less v w s xs ys same l m = record {
    owned = same.owned;
    weaks = slots_lose to from r.back r.forth v.weaks w.weaks xs ys s same.weaks l m;
    snapshots = same.snapshots;
    deferred = same.deferred;
  }

  snapshots_alike : (v w : PlainSeat) (es fs : List Entry) → SeatsAlike to v w → Entries to from r.back r.forth es fs
      → SeatsAlike to (record v { snapshots = es }) (record w { snapshots = fs })
  snapshots_alike v w es fs same e = record { owned = same.owned; weaks = same.weaks; snapshots = e; deferred = same.deferred }

  joined_alike : (j : Kind) (o : Option SlotId) (es fs : List Entry) → Entries to from r.back r.forth es fs
      → Entries to from r.back r.forth (joined j o es) (joined j (renamed to o) fs)
  joined_alike j o es fs same k s =
      let a = joined_times k j s o es in
      let b = joined_times k j (to s) (renamed to o) fs in
      let c = ap (of_kind k j) (held_renamed to from r.back r.forth s o) in
      let e = same k s in omega arith

  gives_alike : (k : Kind) (new : Option SlotId) (v w v' w' : PlainSeat) → SeatsAlike to v w → GivesUp k new v v'
      → GivesUp k (renamed to new) w w' → SeatsAlike to v' w'
  gives_alike Strong None v w v' w' same a b = subst₂ (SeatsAlike to) (sym a) (sym b) same
  gives_alike Weak None v w v' w' same a b = subst₂ (SeatsAlike to) (sym a) (sym b) same
  gives_alike Disposal None v w v' w' same a b = subst₂ (SeatsAlike to) (sym a) (sym b) same
  gives_alike Strong (Some s) v w v' w' same (xs, l, a) (ys, m, b) =
      subst₂ (SeatsAlike to) (sym a) (sym b) (own_less v w s xs ys same l m)
  gives_alike Weak (Some s) v w v' w' same (xs, l, a) (ys, m, b) =
      subst₂ (SeatsAlike to) (sym a) (sym b) (weak_less v w s xs ys same l m)
  gives_alike Disposal (Some s) v w v' w' same a b = absurd a

  defers_alike : (j : Kind) (o : Option SlotId) (v w : PlainSeat) → SeatsAlike to v w
      → SeatsAlike to (record v { deferred = joined j o v.deferred }) (record w { deferred = joined j (renamed to o) w.deferred })
  defers_alike j o v w same = record {
    owned = same.owned;
    weaks = same.weaks;
    snapshots = same.snapshots;
    deferred = joined_alike j o v.deferred w.deferred same.deferred;
  }

  -- ---- the steps
  module _ (p p' : Plain) (size : n ≡ length p.slots) (one : length p.seats ≡ 1) (one' : length p'.seats ≡ 1) (alike : StatesAlike to p p') where
    here : 0 < length p.seats
    here = omega arith

    here' : 0 < length p'.seats
    here' = omega arith

    pub written_alike : (q q' : Plain) (v w : PlainSeat) → q ≡ with_seat p 0 v → q' ≡ with_seat p' 0 w → SeatsAlike to v w
        → StatesAlike to q q'
    written_alike q q' v w e e' same =
        subst₂ (StatesAlike to) (sym e) (sym e') (seat_alike to from n r p p' size alike v w here here' same)

    pub gained_alike : (q q' : Plain) (s : SlotId) → q ≡ gained p s → q' ≡ gained p' (to s) → StatesAlike to q q'
    gained_alike q q' s e e' = written_alike q q' _ _ e e' (own_more (seat_at p 0) (seat_at p' 0) s _ _ alike.seat)

    pub weakly_gained_alike : (q q' : Plain) (s : SlotId) → q ≡ weakly_gained p s → q' ≡ weakly_gained p' (to s) → StatesAlike to q q'
    weakly_gained_alike q q' s e e' = written_alike q q' _ _ e e' (weak_more (seat_at p 0) (seat_at p' 0) s _ _ alike.seat)

    pub drops_alike : (q q' : Plain) (s : SlotId) (f f' : ℕ) → Does p 0 (act.Drop s) f q → Does p' 0 (act.Drop (to s)) f' q' → StatesAlike to q q'
    drops_alike q q' s f f' (h, (xs, l, z, e)) (h', (ys, m, z', e')) =
        written_alike q q' _ _ e e' (own_less (seat_at p 0) (seat_at p' 0) s xs ys alike.seat l m)

    pub weak_drops_alike : (q q' : Plain) (s : SlotId) (f f' : ℕ) → Does p 0 (act.WeakDrop s) f q → Does p' 0 (act.WeakDrop (to s)) f' q'
        → StatesAlike to q q'
    weak_drops_alike q q' s f f' (h, (xs, l, z, e)) (h', (ys, m, z', e')) =
        written_alike q q' _ _ e e' (weak_less (seat_at p 0) (seat_at p' 0) s xs ys alike.seat l m)

    pub ends_alike : (q q' : Plain) (k : Kind) (s : SlotId) (f f' : ℕ) → Does p 0 (act.EndSnapshot k s) f q
        → Does p' 0 (act.EndSnapshot k (to s)) f' q' → StatesAlike to q q'
    ends_alike q q' k s f f' (h, (es, l, z, e)) (h', (fs, m, z', e')) =
        written_alike q q' _ _ e e' (snapshots_alike (seat_at p 0) (seat_at p' 0) es fs alike.seat
        (entries_lose to from r.back r.forth (seat_at p 0).snapshots (seat_at p' 0).snapshots es fs k s alike.seat.snapshots l m))

    -- one snapshot more
    pub snaps_alike : (q q' : Plain) (k : Kind) (s : SlotId) (es fs : List Entry) → Loses es (k, s) (seat_at p 0).snapshots
        → Loses fs (k, to s) (seat_at p' 0).snapshots → q ≡ with_seat p 0 (record (seat_at p 0) { snapshots = es })
        → q' ≡ with_seat p' 0 (record (seat_at p' 0) { snapshots = fs }) → StatesAlike to q q'
    snaps_alike q q' k s es fs l m e e' =
        written_alike q q' _ _ e e' (snapshots_alike (seat_at p 0) (seat_at p' 0) es fs alike.seat
        (entries_gain to from r.back r.forth (seat_at p 0).snapshots (seat_at p' 0).snapshots es fs k s alike.seat.snapshots l m))

    pub same_kind : (place : EventPlace) → place_kind (renamed_place to place) ≡ place_kind place
    same_kind (Cell i) = refl
    same_kind (Field s i) = refl
    same_kind (WeakCell i) = refl
    same_kind (WeakField s) = refl

    pub replaces_alike : (q q' : Plain) (place : EventPlace) (new : Option SlotId) → IsThere p place → Replaces p 0 place new q
        → Replaces p' 0 (renamed_place to place) (renamed to new) q' → StatesAlike to q q'
    replaces_alike q q' place new there (v, g, e) (w, h, e') =
        let v' : PlainSeat = record v { deferred = joined (place_kind place) (content p place) v.deferred } in
        let w' : PlainSeat = record w { deferred = joined (place_kind place) (renamed to (content p place)) w.deferred } in
        let is : q' ≡ with_content (with_seat p' 0 w') (renamed_place to place) (renamed to new)
        = e' ∙ (λ i. with_content (with_seat p' 0 (record w { deferred = joined (same_kind place i) (content_alike to from n r p p' size alike place i) w.deferred }))
        (renamed_place to place) (renamed to new)) in
        let give = subst (λ (k : Kind). GivesUp k (renamed to new) (seat_at p' 0) w) (same_kind place) h in
        let seats = defers_alike (place_kind place) (content p place) v w
        (gives_alike (place_kind place) new (seat_at p 0) (seat_at p' 0) v w alike.seat g give) in
        let written = seat_alike to from n r p p' size alike v' w' here here' seats in
        subst₂ (StatesAlike to) (sym e) (sym is)
        (place_alike to from n r (with_seat p 0 v') (with_seat p' 0 w') size written place new (there_written p v' place there))
