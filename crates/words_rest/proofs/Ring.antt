-- A state with one node, whose field 1 holds the node itself: it is as the law asks, and it rests.
use Rattle.std.proofs.Common.{◌≡◌, ◌≢◌, ℕ, zero, suc, ◌<◌, true, false, [], ◌∷◌, refl, ap, sym, subst, arith, Some, None}
use Rattle.plain_audit.specs.plain_state.declared.slot.Kind.{Kind}
use Rattle.plain_audit.specs.plain_state.declared.slot.Kind.TheVariants.{Strong, Weak}
use Rattle.plain_audit.specs.plain_state.declared.slot.PlainSlot.{PlainSlot}
use Rattle.plain_audit.specs.plain_state.declared.slot.SlotId.{SlotId}
use Rattle.plain_audit.specs.plain_state.declared.slot.Stage.TheVariants.{Free, Live, Ended}
use Rattle.plain_audit.specs.plain_state.Lawful.{Lawful}
use Rattle.plain_audit.specs.plain_state.Lists.{entry_times, times}
use Rattle.plain_audit.specs.plain_state.References.{dying_times, held_in, over_seats, over_slots, own_reference, snapshot_times, strong_fields, strong_refs, weak_fields, weak_refs}
use Rattle.plain_audit.specs.plain_state.State.{Plain, PlainSeat, new_seat, new_slot, no_payload, seat_at, slot_at, stage_at}
use Rattle.plain_audit.proofs.Below.plain_state_Kit.{cells_none, entry_none, held_is, held_none, held_self, times_none}
use Rattle.plain_audit.specs.heap_audit.Heaps.{slot}
use Rattle.record_counts.proofs.Sums.{seats_none}

abbrev loop : PlainSlot
loop = record {
  stage = Live;
  marked = false;
  life = 1;
  payload = no_payload;
  first = None;
  second = Some (slot 0);
  weak_field = None;
}

abbrev pub ring : Plain
ring = record {
  seats = new_seat ∷ [];
  cells = [];
  weak_cells = [];
  slots = loop ∷ [];
  tickets = 0;
}

-- what holds of the slot that there is and of a new one holds of all
pub each_slot : (P : SlotId → PlainSlot → Type 0) → P (slot 0) loop
    → ((s : SlotId) → P s new_slot) → (s : SlotId) → P s (slot_at ring s)
each_slot P here past s = at s.0
  where
    at : (n : ℕ) → P (slot n) (slot_at ring (slot n))
    at zero = here
    at (suc n) = past (slot (suc n))

pub each_seat : (P : PlainSeat → Type 0) → P new_seat → (n : ℕ) → P (seat_at ring n)
each_seat P new zero = new
each_seat P new (suc n) = new

no_seat : (f : PlainSeat → ℕ) → f new_seat ≡ 0 → over_seats f ring.seats ≡ 0
no_seat f new = seats_none f ring.seats (each_seat (λ v. f v ≡ 0) new)

one_slot : (f : PlainSlot → ℕ) → over_slots f ring.slots ≡ f loop
unfolding over_slots
one_slot f = omega arith

ring_strong : (s : SlotId) → strong_refs ring s ≡ held_in s (Some (slot 0))
ring_strong s =
    let owned = no_seat (λ v. times s v.owned) (times_none s) in
    let waits = no_seat (λ v. entry_times Strong s v.deferred) (entry_none Strong s) in
    let cells = cells_none s in
    let fields = one_slot (strong_fields s) in
    let null = held_none s in omega arith

ring_weak : (s : SlotId) → weak_refs ring s ≡ own_reference (stage_at ring s)
ring_weak s =
    let owned = no_seat (λ v. times s v.weaks) (times_none s) in
    let waits = no_seat (λ v. entry_times Weak s v.deferred) (entry_none Weak s) in
    let cells = cells_none s in
    let fields = one_slot (weak_fields s) in
    let null = held_none s in omega arith

ring_snapshots : (k : Kind) (s : SlotId) → snapshot_times k ring s ≡ 0
ring_snapshots k s = no_seat (λ v. entry_times k s v.snapshots) (entry_none k s)

ring_dying : (s : SlotId) → dying_times ring s ≡ 0
ring_dying s = no_seat (λ v. times s v.dying) (times_none s)

pub ring_lawful : Lawful ring
ring_lawful = record {
  covered = λ k s some. let none = ring_snapshots k s in absurd (omega arith);
  strong = λ s some.
      let is = held_is s (slot 0) (let are = ring_strong s in omega arith) in
      subst (λ (x : SlotId). (stage_at ring x ≡ Live) × ((slot_at ring x).marked ≡ false)) is
      (refl, refl);
  weak = λ s some free.
      let none = ap own_reference free in
      let are = ring_weak s in omega arith;
  once = λ s. let none = ring_dying s in omega arith;
  dying = λ s. (
    (λ ended. absurd (never_ended s ended)),
    (λ some. let none = ring_dying s in absurd (omega arith)),
  );
  marks = each_slot (λ s x. x.stage ≢ Live → x.marked ≡ true) (λ not. absurd (not refl))
      (λ s not. refl);
  nulls = each_slot (λ s x. (x.stage ≢ Live) × (x.stage ≢ Ended)
      → (x.first ≡ None) × (x.second ≡ None) × (x.weak_field ≡ None))
      (λ vacant. absurd (vacant.0 refl)) (λ s vacant. (refl, refl, refl));
}
  where
    never_ended : (s : SlotId) → stage_at ring s ≡ Ended → ⊥
    never_ended = each_slot (λ s x. x.stage ≡ Ended → ⊥) (λ (e : Live ≡ Ended). cc)
        (λ s (e : Free ≡ Ended). cc)

-- the slot that there is is referred to by itself
pub ring_live : (s : SlotId) → stage_at ring s ≡ Live → 0 < strong_refs ring s
ring_live s live =
    let is : s ≡ slot 0 = each_slot (λ x y. y.stage ≡ Live → x ≡ slot 0) (λ e. refl)
    (λ x (e : Free ≡ Live). absurd cc) s live in
    subst (λ (x : SlotId). 0 < strong_refs ring x) (sym is)
    (let are = ring_strong (slot 0) in let one = held_self (slot 0) in omega arith)

pub ring_payload : (s : SlotId) → (slot_at ring s).payload ≡ no_payload
ring_payload = each_slot (λ s x. x.payload ≡ no_payload) refl (λ s. refl)
