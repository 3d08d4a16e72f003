-- What a seat has of a state.
use Rattle.std.proofs.Common.{◌≡◌, ◌≢◌, ⊎_elim, ℕ, ◌+◌, ◌<◌, ◌≤◌, Bool, true, false, length, refl, ap, arith}
use Rattle.std.specs.Prelude.{if◌then◌else◌, Some, None}
use Rattle.std.proofs.lemmas.List.{get_or_past}
use Rattle.std.proofs.lemmas.Bool.{cases_lt}
use Rattle.std.proofs.lemmas.Bool.Decides.{nat_tests}
use Rattle.plain_protocol.specs.plain_state.declared.slot.Kind.TheVariants.{Strong}
use Rattle.plain_protocol.specs.plain_state.declared.slot.PlainSlot.{PlainSlot}
use Rattle.plain_protocol.specs.plain_state.declared.slot.SlotId.{SlotId}
use Rattle.plain_protocol.specs.plain_state.declared.slot.Stage.TheVariants.{Free, Live}
use Rattle.plain_protocol.specs.plain_state.Lists.{times, entry_times}
use Rattle.plain_protocol.specs.plain_state.State.{Plain, PlainSeat, new_slot, seat_at, slot_at, stage_at}
use Rattle.plain_protocol.specs.plain_state.References.{places, deferrals, held_in, snapshot_times}
use Rattle.plain_protocol.specs.plain_state.Places.{held_times}
use Rattle.plain_protocol.specs.plain_state.Lawful.{Lawful}
use Rattle.plain_protocol.proofs.Below.plain_state_Kit.{seats_at}
use Rattle.plain_protocol.specs.Owns.{Object, object_of, own_part, has_slot, HasSlot}
use Rattle.directory_law.proofs.Kept.{there}
use Rattle.directory_law.specs.Steps.{life_of, payload_of, life_in, payload_in}
use Rattle.plain_protocol.specs.plain_state.Places.{HoldsStrongly, Holds}

pub has_if : (v : PlainSeat) (s : SlotId)
    → 0 < held_times s v + times s v.dying + held_in s v.filling → HasSlot v s
has_if v s h = grind (arith, nat_tests)

-- the object of a slot that the seat has
pub objects_at : (p : Plain) (n : ℕ) (s : SlotId) → HasSlot (seat_at p n) s
    → (own_part p n).objects s ≡ Some (object_of (slot_at p s))
objects_at p n s has = rw has refl

pub life_at : (p : Plain) (n : ℕ) (s : SlotId) → HasSlot (seat_at p n) s
    → life_in (own_part p n) s ≡ (slot_at p s).life
life_at p n s has = ap life_of (objects_at p n s has)

pub payload_at : (p : Plain) (n : ℕ) (s : SlotId) → HasSlot (seat_at p n) s
    → payload_in (own_part p n) s ≡ (slot_at p s).payload
payload_at p n s has = ap payload_of (objects_at p n s has)

-- an object that the seat has is the state's
pub object_is : (p : Plain) (n : ℕ) (s : SlotId) (o : Object) → (own_part p n).objects s ≡ Some o
    → o ≡ object_of (slot_at p s)
object_is p n s o has = go (has_slot (seat_at p n) s) has
  where
    go : (b : Bool) → (if b then Some (object_of (slot_at p s)) else None) ≡ Some o
        → o ≡ object_of (slot_at p s)
    go true e = cc
    go false e = absurd cc

pub has_owned : (v : PlainSeat) (s : SlotId) → 0 < times s v.owned → HasSlot v s
has_owned v s h = has_if v s (omega arith)

pub has_strongly : (v : PlainSeat) (s : SlotId) → HoldsStrongly v s → HasSlot v s
has_strongly v s h = has_if v s (omega arith)

pub has_held : (v : PlainSeat) (s : SlotId) → Holds v s → HasSlot v s
has_held v s h = has_if v s (omega arith)

-- what a seat holds strongly lives
pub owned_live : (p : Plain) (n : ℕ) (s : SlotId) → Lawful p → n < length p.seats
    → 0 < times s (seat_at p n).owned
    → (stage_at p s ≡ Live) × ((slot_at p s).marked ≡ false)
owned_live p n s lawful there owned =
    lawful.strong s (let a = seats_at (λ (v : PlainSeat). times s v.owned) p.seats n there in
    omega arith)

pub strongly_live : (p : Plain) (n : ℕ) (s : SlotId) → Lawful p → n < length p.seats
    → HoldsStrongly (seat_at p n) s
    → (stage_at p s ≡ Live) × ((slot_at p s).marked ≡ false)
strongly_live p n s lawful there held =
    ⊎_elim
    (λ (a : 0 < times s (seat_at p n).owned). owned_live p n s lawful there a)
    (λ (a : times s (seat_at p n).owned ≤ 0).
    let b = seats_at (λ (v : PlainSeat). entry_times Strong s v.snapshots) p.seats n there in
    let c : 0 < snapshot_times Strong p s = omega arith in
    lawful.strong s (let d : 0 < places Strong p s + deferrals Strong p s =
    lawful.covered Strong s c in omega arith))
    (cases_lt 0 (times s (seat_at p n).owned))

-- a slot that lives or is filled is in range
pub inside_if : (p : Plain) (s : SlotId) → stage_at p s ≢ Free → s.0 < length p.slots
inside_if p s used =
    ⊎_elim
    (λ (h : s.0 < length p.slots). h)
    (λ (past : length p.slots ≤ s.0).
    absurd (used (ap (λ (y : PlainSlot). y.stage) (get_or_past p.slots s.0 new_slot past))))
    (cases_lt s.0 (length p.slots))
