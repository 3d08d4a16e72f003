-- How the numbers of a slot change where one seat, one slot or one place is written.
use Rattle.std.proofs.Common.{◌≡◌, ◌≢◌, ⊎_elim, ℕ, ◌+◌, ◌<◌, ◌≤◌, Bool, true, false, length, refl, ap, sym, subst, arith, Option}
use Rattle.std.specs.Prelude.{◌==◌, if◌then◌else◌}
use Rattle.std.proofs.lemmas.List.{length-set, get_or-set_same, get_or-set_other}
use Rattle.plain_state.specs.declared.act.EventPlace.{EventPlace}
use Rattle.plain_state.specs.declared.act.EventPlace.TheVariants.{Cell, Field, WeakCell, WeakField}
use Rattle.plain_state.specs.declared.slot.Kind.{Kind}
use Rattle.plain_state.specs.declared.slot.Kind.TheVariants.{Strong, Weak, Disposal}
use Rattle.plain_state.specs.declared.slot.SlotId.{SlotId}
use Rattle.plain_state.specs.declared.slot.PlainSlot.{PlainSlot}
use Rattle.plain_state.specs.Lists.{times, entry_times}
use Rattle.plain_state.specs.State.{Plain, PlainSeat, new_seat, new_slot, seat_at, slot_at, stage_at, with_seat, with_slot}
use Rattle.plain_state.specs.Places.{place_kind, with_field, content, with_content}
use Rattle.plain_state.specs.References.{held_in, over_seats, own_reference, strong_fields, weak_fields, places, deferrals, snapshot_times, dying_times, strong_refs, weak_refs}
use Rattle.plain_state.specs.Sound.{all_adds}
use Rattle.plain_state.proofs.Kit.{cases_slot, of_kind, cells_set, cells_at, seats_set, seats_at, slots_set, slots_at}

-- how often s is owned, strongly and weakly, over all seats
abbrev pub owned_times : Plain → SlotId → ℕ
owned_times p s = over_seats (λ v. times s v.owned) p.seats

abbrev pub weak_times : Plain → SlotId → ℕ
weak_times p s = over_seats (λ v. times s v.weaks) p.seats

-- one seat was v and is w, from p to q: each sum loses what v had and gains what w has
pub record SeatChange (p q : Plain) (v w : PlainSeat) (s : SlotId) : Type 0 where
  pub owned : owned_times q s + times s v.owned ≡ owned_times p s + times s w.owned
  pub weaks : weak_times q s + times s v.weaks ≡ weak_times p s + times s w.weaks
  pub strong_snapshots :
      snapshot_times Strong q s + entry_times Strong s v.snapshots
      ≡ snapshot_times Strong p s + entry_times Strong s w.snapshots
  pub weak_snapshots :
      snapshot_times Weak q s + entry_times Weak s v.snapshots
      ≡ snapshot_times Weak p s + entry_times Weak s w.snapshots
  pub disposal_snapshots :
      snapshot_times Disposal q s + entry_times Disposal s v.snapshots
      ≡ snapshot_times Disposal p s + entry_times Disposal s w.snapshots
  pub strong_deferred :
      deferrals Strong q s + entry_times Strong s v.deferred
      ≡ deferrals Strong p s + entry_times Strong s w.deferred
  pub weak_deferred :
      deferrals Weak q s + entry_times Weak s v.deferred
      ≡ deferrals Weak p s + entry_times Weak s w.deferred
  pub dying : dying_times q s + times s v.dying ≡ dying_times p s + times s w.dying
  pub adds : all_adds q + v.adds ≡ all_adds p + w.adds
  pub strong :
      strong_refs q s + (times s v.owned + entry_times Strong s v.deferred)
      ≡ strong_refs p s + (times s w.owned + entry_times Strong s w.deferred)
  pub weak :
      weak_refs q s + (times s v.weaks + entry_times Weak s v.deferred)
      ≡ weak_refs p s + (times s w.weaks + entry_times Weak s w.deferred)

pub seat_change : (p : Plain) (n : ℕ) (w : PlainSeat) (s : SlotId) → n < length p.seats
    → SeatChange p (with_seat p n w) (seat_at p n) w s
seat_change p n w s h =
    let o = seats_set (λ (v : PlainSeat). times s v.owned) p.seats n w h in
    let u = seats_set (λ (v : PlainSeat). times s v.weaks) p.seats n w h in
    let d = seats_set (λ (v : PlainSeat). entry_times Strong s v.deferred) p.seats n w h in
    let e = seats_set (λ (v : PlainSeat). entry_times Weak s v.deferred) p.seats n w h in
    record {
      owned = o;
      weaks = u;
      strong_snapshots =
          seats_set (λ (v : PlainSeat). entry_times Strong s v.snapshots) p.seats n w h;
      weak_snapshots = seats_set (λ (v : PlainSeat). entry_times Weak s v.snapshots) p.seats n w h;
      disposal_snapshots =
          seats_set (λ (v : PlainSeat). entry_times Disposal s v.snapshots) p.seats n w h;
      strong_deferred = d;
      weak_deferred = e;
      dying = seats_set (λ (v : PlainSeat). times s v.dying) p.seats n w h;
      adds = seats_set (λ (v : PlainSeat). v.adds) p.seats n w h;
      strong = omega arith;
      weak = omega arith;
    }

-- the same for a second seat, which the write of the first left
pub second_seat_change : (p : Plain) (n : ℕ) (w : PlainSeat) (j : ℕ) (x : PlainSeat) (s : SlotId)
    → j < length p.seats → j ≢ n
    → SeatChange (with_seat p n w) (with_seat (with_seat p n w) j x) (seat_at p j) x s
second_seat_change p n w j x s h ne =
    subst (λ (v : PlainSeat). SeatChange (with_seat p n w) (with_seat (with_seat p n w) j x) v x s)
    (get_or-set_other p.seats n j w new_seat ne)
    (seat_change (with_seat p n w) j x s (let l = length-set p.seats n w in omega arith))

-- what one seat has is part of the sum
pub record SeatPart (p : Plain) (n : ℕ) (s : SlotId) : Type 0 where
  pub owned : times s (seat_at p n).owned ≤ owned_times p s
  pub weaks : times s (seat_at p n).weaks ≤ weak_times p s
  pub strong_snapshots : entry_times Strong s (seat_at p n).snapshots ≤ snapshot_times Strong p s
  pub weak_snapshots : entry_times Weak s (seat_at p n).snapshots ≤ snapshot_times Weak p s
  pub disposal_snapshots :
      entry_times Disposal s (seat_at p n).snapshots ≤ snapshot_times Disposal p s
  pub strong_deferred : entry_times Strong s (seat_at p n).deferred ≤ deferrals Strong p s
  pub weak_deferred : entry_times Weak s (seat_at p n).deferred ≤ deferrals Weak p s
  pub dying : times s (seat_at p n).dying ≤ dying_times p s
  pub adds : (seat_at p n).adds ≤ all_adds p

pub seat_part : (p : Plain) (n : ℕ) (s : SlotId) → n < length p.seats → SeatPart p n s
seat_part p n s h = record {
  owned = seats_at (λ (v : PlainSeat). times s v.owned) p.seats n h;
  weaks = seats_at (λ (v : PlainSeat). times s v.weaks) p.seats n h;
  strong_snapshots = seats_at (λ (v : PlainSeat). entry_times Strong s v.snapshots) p.seats n h;
  weak_snapshots = seats_at (λ (v : PlainSeat). entry_times Weak s v.snapshots) p.seats n h;
  disposal_snapshots = seats_at (λ (v : PlainSeat). entry_times Disposal s v.snapshots) p.seats n h;
  strong_deferred = seats_at (λ (v : PlainSeat). entry_times Strong s v.deferred) p.seats n h;
  weak_deferred = seats_at (λ (v : PlainSeat). entry_times Weak s v.deferred) p.seats n h;
  dying = seats_at (λ (v : PlainSeat). times s v.dying) p.seats n h;
  adds = seats_at (λ (v : PlainSeat). v.adds) p.seats n h;
}

-- two states with the same seats have the same sums over them
pub record SeatsSame (p q : Plain) (s : SlotId) : Type 0 where
  pub owned : owned_times q s ≡ owned_times p s
  pub weaks : weak_times q s ≡ weak_times p s
  pub strong_snapshots : snapshot_times Strong q s ≡ snapshot_times Strong p s
  pub weak_snapshots : snapshot_times Weak q s ≡ snapshot_times Weak p s
  pub disposal_snapshots : snapshot_times Disposal q s ≡ snapshot_times Disposal p s
  pub strong_deferred : deferrals Strong q s ≡ deferrals Strong p s
  pub weak_deferred : deferrals Weak q s ≡ deferrals Weak p s
  pub dying : dying_times q s ≡ dying_times p s
  pub adds : all_adds q ≡ all_adds p

pub seats_same : (p q : Plain) (s : SlotId) → q.seats ≡ p.seats → SeatsSame p q s
seats_same p q s e = record {
  owned = ap (over_seats (λ (v : PlainSeat). times s v.owned)) e;
  weaks = ap (over_seats (λ (v : PlainSeat). times s v.weaks)) e;
  strong_snapshots = ap (over_seats (λ (v : PlainSeat). entry_times Strong s v.snapshots)) e;
  weak_snapshots = ap (over_seats (λ (v : PlainSeat). entry_times Weak s v.snapshots)) e;
  disposal_snapshots = ap (over_seats (λ (v : PlainSeat). entry_times Disposal s v.snapshots)) e;
  strong_deferred = ap (over_seats (λ (v : PlainSeat). entry_times Strong s v.deferred)) e;
  weak_deferred = ap (over_seats (λ (v : PlainSeat). entry_times Weak s v.deferred)) e;
  dying = ap (over_seats (λ (v : PlainSeat). times s v.dying)) e;
  adds = ap (over_seats (λ (v : PlainSeat). v.adds)) e;
}

-- slot x is y: places lose what its fields held, and gain what y's hold. What seats have stays
pub record SlotChange (p : Plain) (x : SlotId) (y : PlainSlot) (s : SlotId) : Type 0 where
  pub strong_places :
      places Strong (with_slot p x y) s + strong_fields s (slot_at p x)
      ≡ places Strong p s + strong_fields s y
  pub weak_places :
      places Weak (with_slot p x y) s + weak_fields s (slot_at p x)
      ≡ places Weak p s + weak_fields s y
  pub strong :
      strong_refs (with_slot p x y) s + strong_fields s (slot_at p x)
      ≡ strong_refs p s + strong_fields s y
  pub weak :
      weak_refs (with_slot p x y) s + weak_fields s (slot_at p x) + own_reference (stage_at p s)
      ≡ weak_refs p s + weak_fields s y + own_reference (stage_at (with_slot p x y) s)

pub slot_change : (p : Plain) (x : SlotId) (y : PlainSlot) (s : SlotId) → x.0 < length p.slots
    → SlotChange p x y s
slot_change p x y s h =
    let a = slots_set (strong_fields s) p.slots x.0 y h in
    let b = slots_set (weak_fields s) p.slots x.0 y h in
    record {
      strong_places = omega arith;
      weak_places = omega arith;
      strong = omega arith;
      weak = omega arith;
    }

pub slot_same : (p : Plain) (x : SlotId) (y : PlainSlot) → x.0 < length p.slots
    → slot_at (with_slot p x y) x ≡ y
slot_same p x y h = get_or-set_same p.slots x.0 y new_slot h

pub slot_other : (p : Plain) (x : SlotId) (y : PlainSlot) (s : SlotId) → s.0 ≢ x.0
    → slot_at (with_slot p x y) s ≡ slot_at p s
slot_other p x y s ne = get_or-set_other p.slots x.0 s.0 y new_slot ne

-- the place is there
abbrev pub IsThere : Plain → EventPlace → Type 0
IsThere p (Cell i) = i < length p.cells
IsThere p (Field s i) = s.0 < length p.slots
IsThere p (WeakCell i) = i < length p.weak_cells
IsThere p (WeakField s) = s.0 < length p.slots

-- 1 where the place is of kind k and its content is s
abbrev pub place_holds : Kind → SlotId → EventPlace → Option SlotId → ℕ
place_holds k s place c = of_kind k (place_kind place) (held_in s c)

-- a field holds `new`
field_strong : (s : SlotId) (new : Option SlotId) (x : PlainSlot) (first : Bool)
    → strong_fields s (if first then record x { first = new } else record x { second = new })
    + held_in s (if first then x.first else x.second) ≡ strong_fields s x + held_in s new
field_strong s new x true = omega arith
field_strong s new x false = omega arith

field_weak : (s : SlotId) (new : Option SlotId) (x : PlainSlot) (first : Bool)
    → weak_fields s (if first then record x { first = new } else record x { second = new })
    ≡ weak_fields s x
field_weak s new x true = refl
field_weak s new x false = refl

field_part : (s : SlotId) (x : PlainSlot) (first : Bool)
    → held_in s (if first then x.first else x.second) ≤ strong_fields s x
field_part s x true = omega arith
field_part s x false = omega arith

-- y is x, but for its fields
abbrev pub IsSameObject : PlainSlot → PlainSlot → Type 0
IsSameObject x y = (y.stage ≡ x.stage) × (y.marked ≡ x.marked) × (y.life ≡ x.life)
    × (y.payload ≡ x.payload)

slot_object : (p : Plain) (x : SlotId) (y : PlainSlot) (s : SlotId) → x.0 < length p.slots
    → IsSameObject (slot_at p x) y → IsSameObject (slot_at p s) (slot_at (with_slot p x y) s)
slot_object p x y s h same =
    ⊎_elim
    (λ (e : s ≡ x).
    subst (λ (z : SlotId). IsSameObject (slot_at p z) (slot_at (with_slot p x y) z)) (sym e)
    (subst (λ (z : PlainSlot). IsSameObject (slot_at p x) z) (sym (slot_same p x y h)) same))
    (λ (ne : s.0 ≢ x.0).
    subst (λ (z : PlainSlot). IsSameObject (slot_at p s) z) (sym (slot_other p x y s ne))
    (refl, refl, refl, refl))
    (cases_slot s x)

pub field_object : (new : Option SlotId) (x : PlainSlot) (first : Bool)
    → IsSameObject x (if first then record x { first = new } else record x { second = new })
field_object new x true = (refl, refl, refl, refl)
field_object new x false = (refl, refl, refl, refl)

-- a write to a place leaves what each slot is, but for its fields
pub content_object : (p : Plain) (place : EventPlace) (new : Option SlotId) (s : SlotId)
    → IsThere p place
    → IsSameObject (slot_at p s) (slot_at (with_content p place new) s)
content_object p (Cell i) new s h = (refl, refl, refl, refl)
content_object p (Field x i) new s h =
    slot_object p x (with_field i new (slot_at p x)) s h (field_object new (slot_at p x) (i == 0))
content_object p (WeakCell i) new s h = (refl, refl, refl, refl)
content_object p (WeakField x) new s h =
    slot_object p x (record (slot_at p x) { weak_field = new }) s h (refl, refl, refl, refl)

-- the place holds `new`: places of its kind lose what it held, and gain what it holds.
-- What seats have stays
pub record PlaceChange (p : Plain) (place : EventPlace) (new : Option SlotId) (s : SlotId)
    : Type 0 where
  pub seats : (with_content p place new).seats ≡ p.seats
  pub strong_places :
      places Strong (with_content p place new) s + place_holds Strong s place (content p place)
      ≡ places Strong p s + place_holds Strong s place new
  pub weak_places :
      places Weak (with_content p place new) s + place_holds Weak s place (content p place)
      ≡ places Weak p s + place_holds Weak s place new
  pub strong :
      strong_refs (with_content p place new) s + place_holds Strong s place (content p place)
      ≡ strong_refs p s + place_holds Strong s place new
  pub weak :
      weak_refs (with_content p place new) s + place_holds Weak s place (content p place)
      ≡ weak_refs p s + place_holds Weak s place new

pub place_change : (p : Plain) (place : EventPlace) (new : Option SlotId) (s : SlotId)
    → IsThere p place
    → PlaceChange p place new s
place_change p (Cell i) new s h =
    let c = cells_set s p.cells i new h in
    record {
      seats = refl;
      strong_places = omega arith;
      weak_places = refl;
      strong = omega arith;
      weak = omega arith;
    }
place_change p (Field x i) new s h =
    let y = with_field i new (slot_at p x) in
    let c = slot_change p x y s h in
    let f = field_strong s new (slot_at p x) (i == 0) in
    let g = field_weak s new (slot_at p x) (i == 0) in
    let o = ap own_reference (content_object p (Field x i) new s h).0 in
    record {
      seats = refl;
      strong_places = omega arith;
      weak_places = omega arith;
      strong = omega arith;
      weak = omega arith;
    }
place_change p (WeakCell i) new s h =
    let c = cells_set s p.weak_cells i new h in
    record {
      seats = refl;
      strong_places = refl;
      weak_places = omega arith;
      strong = omega arith;
      weak = omega arith;
    }
place_change p (WeakField x) new s h =
    let y : PlainSlot = record (slot_at p x) { weak_field = new } in
    let c = slot_change p x y s h in
    let o = ap own_reference (content_object p (WeakField x) new s h).0 in
    record {
      seats = refl;
      strong_places = omega arith;
      weak_places = omega arith;
      strong = omega arith;
      weak = omega arith;
    }

-- what a place holds is part of the sum
pub place_part : (p : Plain) (place : EventPlace) (s : SlotId) → IsThere p place
    → held_in s (content p place) ≤ places (place_kind place) p s
place_part p (Cell i) s h = let a = cells_at s p.cells i h in omega arith
place_part p (Field x i) s h =
    let a = slots_at (strong_fields s) p.slots x.0 h in
    let b = field_part s (slot_at p x) (i == 0) in omega arith
place_part p (WeakCell i) s h = let a = cells_at s p.weak_cells i h in omega arith
place_part p (WeakField x) s h = let a = slots_at (weak_fields s) p.slots x.0 h in omega arith
