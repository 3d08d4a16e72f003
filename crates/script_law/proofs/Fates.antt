-- What tidying leaves of a state, from its beginning to any of its steps: slots, lists, and how much waits.
use Rattle.std.proofs.Common.{◌≡◌, ◌≢◌, ◌⊎◌, inl, inr, ⊎_elim, ◌+◌, ◌<◌, ◌≤◌, List, length, get_or-set_same, length-set, refl, ap, sym, ◌∙◌, subst, arith, Option}
use Rattle.script_desk.specs.plain_state.declared.act.EventPlace.{EventPlace}
use Rattle.script_desk.specs.plain_state.declared.slot.Kind.{Kind}
use Rattle.script_desk.specs.plain_state.declared.slot.Kind.TheVariants.{Strong, Weak, Disposal}
use Rattle.script_desk.specs.plain_state.declared.slot.PlainSlot.{PlainSlot}
use Rattle.script_desk.specs.plain_state.declared.slot.SlotId.{SlotId}
use Rattle.script_desk.specs.plain_state.declared.slot.Stage.TheVariants.{Free, Blank, Live}
use Rattle.script_desk.specs.plain_state.Lists.{Entry, Loses, entry_times}
use Rattle.script_desk.specs.plain_state.Places.{place_kind}
use Rattle.script_desk.specs.plain_state.References.{held_in, places, strong_fields, weak_fields}
use Rattle.script_desk.specs.plain_state.Sound.{Sound}
use Rattle.script_desk.specs.plain_state.State.{Plain, PlainSeat, new_seat, seat_at, slot_at, with_seat, with_slot}
use Rattle.script_desk.specs.plain_state.Steps.{joined}
use Rattle.script_desk.proofs.Below.plain_state_Changes.{slot_change, slot_other, slot_same}
use Rattle.script_desk.proofs.Below.plain_state_Kit.{cases_slot, entry_in, entry_is, entry_loses, entry_self, none_or_some, of_kind}
use Rattle.script_desk.proofs.Below.plain_state_PlaceRows.{joined_times}

-- what becomes of a slot: it keeps its payload; what is alive is as it was; what isn't as far as it was was made once,
-- and isn't alive any more
pub record Fate (x y : PlainSlot) : Type 0 where
  pub payload : y.payload ≡ x.payload
  pub live : y.stage ≡ Live → y ≡ x
  pub later : (y.stage ≡ x.stage)
      ⊎ ((y.stage ≢ Live) × (y.stage ≢ Blank) × (x.stage ≢ Free) × (x.stage ≢ Blank))

pub record KeepsSlots (p m : Plain) : Type 0 where
  pub size : length m.slots ≡ length p.slots
  pub cells : m.cells ≡ p.cells
  pub weak_cells : m.weak_cells ≡ p.weak_cells
  pub fates : (s : SlotId) → Fate (slot_at p s) (slot_at m s)

pub record KeepsLists (p : Plain) (v : PlainSeat) : Type 0 where
  pub owned : v.owned ≡ (seat_at p 0).owned
  pub weaks : v.weaks ≡ (seat_at p 0).weaks
  pub snapshots : v.snapshots ≡ (seat_at p 0).snapshots

-- of what waited at first or was in a place then, all waits or is in a place, or else so much waits as is announced
pub record Balanced (p : Plain) (v : PlainSeat) (m : Plain) : Type 0 where
  pub most : (k : Kind) (s : SlotId)
      → entry_times k s v.deferred + places k m s ≤ entry_times k s (seat_at p 0).deferred + places k p s
  pub kept : (k : Kind) (s : SlotId)
      → (entry_times k s v.deferred + places k m s ≡ entry_times k s (seat_at p 0).deferred + places k p s)
      ⊎ (entry_times k s v.snapshots ≤ entry_times k s v.deferred)

pub record Tidying (p m : Plain) : Type 0 where
  pub sound : Sound m
  pub seats : length m.seats ≡ 1
  pub slots : KeepsSlots p m
  pub lists : KeepsLists p (seat_at m 0)
  pub balance : Balanced p (seat_at m 0) m

pub tidying_none : (p : Plain) → Sound p → length p.seats ≡ 1 → Tidying p p
tidying_none p sound one = record {
  sound = sound;
  seats = one;
  slots = record {
    size = refl;
    cells = refl;
    weak_cells = refl;
    fates = λ s. record { payload = refl; live = λ l. refl; later = inl refl };
  };
  lists = record { owned = refl; weaks = refl; snapshots = refl };
  balance = record { most = λ k s. omega arith; kept = λ k s. inl refl };
}

-- a slot is written
pub slots_written : (p m : Plain) (s : SlotId) (y : PlainSlot) → KeepsSlots p m → s.0 < length m.slots
    → Fate (slot_at p s) y → KeepsSlots p (with_slot m s y)
slots_written p m s y k here fate = record {
  size = length-set m.slots s.0 y ∙ k.size;
  cells = k.cells;
  weak_cells = k.weak_cells;
  fates = λ t. ⊎_elim
      (λ (e : t ≡ s). subst (λ (u : SlotId). Fate (slot_at p u) (slot_at (with_slot m s y) u)) (sym e)
      (subst (Fate (slot_at p s)) (sym (slot_same m s y here)) fate))
      (λ (ne : t.0 ≢ s.0). subst (Fate (slot_at p t)) (sym (slot_other m s y t ne)) (k.fates t))
      (cases_slot t s);
}

-- what isn't alive goes on, and isn't blank
pub ended_fate : (x y z : PlainSlot) → Fate x y → y.stage ≢ Free → y.stage ≢ Blank → z.payload ≡ y.payload → z.stage ≢ Live → z.stage ≢ Blank → Fate x z
ended_fate x y z f taken filled same dead blank = record {
  payload = same ∙ f.payload;
  live = λ l. absurd (dead l);
  later = ⊎_elim
      (λ (e : y.stage ≡ x.stage). inr (dead, blank, (λ free. taken (e ∙ free)), (λ b. filled (e ∙ b))))
      (λ o. inr (dead, blank, o.2, o.3))
      f.later;
}

-- the seat is written, and keeps its lists of handles
module _ (p m : Plain) (t : Tidying p m) (w : PlainSeat) where
  pub there : 0 < length m.seats
  there = let a = t.seats in omega arith

  pub seat_is : seat_at (with_seat m 0 w) 0 ≡ w
  seat_is = get_or-set_same m.seats 0 w new_seat there

  pub seats_stay : length (with_seat m 0 w).seats ≡ 1
  seats_stay = length-set m.seats 0 w ∙ t.seats

-- places stay where a slot is written with the fields that it had
module _ (m : Plain) (s : SlotId) (y : PlainSlot) (here : s.0 < length m.slots)
    (same : (u : SlotId) → strong_fields u y ≡ strong_fields u (slot_at m s))
    (same_weak : (u : SlotId) → weak_fields u y ≡ weak_fields u (slot_at m s)) where
  pub places_stay : (k : Kind) (u : SlotId) → places k (with_slot m s y) u ≡ places k m u
  places_stay Strong u = let c = (slot_change m s y u here).strong_places in let e = same u in omega arith
  places_stay Weak u = let c = (slot_change m s y u here).weak_places in let e = same_weak u in omega arith
  places_stay Disposal u = refl

-- the same entries wait under as many announcements, and as much is in places
pub balanced_same : (p : Plain) (v w : PlainSeat) (m q : Plain) → Balanced p v m
    → ((k : Kind) (s : SlotId) → entry_times k s w.deferred ≡ entry_times k s v.deferred)
    → w.snapshots ≡ v.snapshots
    → ((k : Kind) (s : SlotId) → places k q s ≡ places k m s) → Balanced p w q
balanced_same p v w m q b deferred snapshots places' = record {
  most = λ k s. let a = b.most k s in let c = deferred k s in let d = places' k s in omega arith;
  kept = λ k s.
      let c = deferred k s in
      let d = places' k s in
      let n = ap (entry_times k s) snapshots in
      ⊎_elim (λ e. inl (omega arith)) (λ l. inr (omega arith)) (b.kept k s);
}

pub seat_places : (m : Plain) (w : PlainSeat) (k : Kind) (s : SlotId) → places k (with_seat m 0 w) s ≡ places k m s
seat_places m w Strong s = refl
seat_places m w Weak s = refl
seat_places m w Disposal s = refl

-- an entry goes of which there are too many
pub balanced_eject : (p : Plain) (v : PlainSeat) (m : Plain) (j : Kind) (x : SlotId) (es : List Entry) → Balanced p v m
    → Loses v.deferred (j, x) es → entry_times j x v.snapshots < entry_times j x v.deferred
    → Balanced p (record v { deferred = es }) (with_seat m 0 (record v { deferred = es }))
balanced_eject p v m j x es b loses surplus = record {
  most = λ k s.
      let a = b.most k s in
      let stay = seat_places m (record v { deferred = es }) k s in
      let l = entry_loses k s (j, x) v.deferred es loses in omega arith;
  kept = λ k s.
      let l = entry_loses k s (j, x) v.deferred es loses in
      let stay = seat_places m (record v { deferred = es }) k s in
      ⊎_elim
      (λ (none : entry_in k s (j, x) ≡ 0). ⊎_elim (λ e. inl (omega arith)) (λ h. inr (omega arith)) (b.kept k s))
      (λ (some : 0 < entry_in k s (j, x)).
      let is : (j, x) ≡ (k, s) = entry_is k s (j, x) some in
      let more : entry_times k s v.snapshots < entry_times k s v.deferred
      = subst (λ (e : Entry). entry_times e.0 e.1 v.snapshots < entry_times e.0 e.1 v.deferred) is surplus in
      let once : entry_in k s (j, x) ≤ 1 = subst (λ (e : Entry). entry_in k s e ≤ 1) (sym is) (once_in k s) in
      inr (omega arith))
      (none_or_some (entry_in k s (j, x)));
}
  where
    once_in : (k : Kind) (s : SlotId) → entry_in k s (k, s) ≤ 1
    once_in k s = let o = entry_self k s in omega arith

-- what a place held waits, and the place is null
pub balanced_clear : (p : Plain) (v : PlainSeat) (m q : Plain) (place : EventPlace) (old : Option SlotId) → Balanced p v m
    → ((k : Kind) (s : SlotId) → places k q s + of_kind k (place_kind place) (held_in s old) ≡ places k m s)
    → Balanced p (record v { deferred = joined (place_kind place) old v.deferred }) q
balanced_clear p v m q place old b change = record {
  most = λ k s.
      let a = b.most k s in
      let c = change k s in
      let j = joined_times k (place_kind place) s old v.deferred in omega arith;
  kept = λ k s.
      let c = change k s in
      let j = joined_times k (place_kind place) s old v.deferred in
      ⊎_elim (λ e. inl (omega arith)) (λ l. inr (omega arith)) (b.kept k s);
}
