-- What a seat's own part tells of the slots that it has.
use Rattle.std.proofs.Common.{◌≡◌, ⊎_elim, ℕ, ◌+◌, ◌<◌, Bool, true, false, length, ap, sym, ◌∙◌, arith, Some, None}
use Rattle.std.specs.Prelude.{if◌then◌else◌}
use Rattle.std.proofs.lemmas.Bool.{cases_lt, lt-ltb}
use Rattle.std.proofs.lemmas.List.{get_or_past}
use Rattle.plain_protocol.specs.plain_state.declared.slot.Kind.TheVariants.{Strong}
use Rattle.plain_protocol.specs.plain_state.declared.slot.PlainSlot.{PlainSlot}
use Rattle.plain_protocol.specs.plain_state.declared.slot.SlotId.{SlotId}
use Rattle.plain_protocol.specs.plain_state.declared.slot.Stage.TheVariants.{Free, Blank, Live}
use Rattle.plain_protocol.specs.plain_state.declared.slot.Stage.{Stage}
use Rattle.plain_protocol.specs.plain_state.Lists.{times, entry_times}
use Rattle.plain_protocol.specs.plain_state.Places.{HoldsStrongly, held_times}
use Rattle.plain_protocol.specs.plain_state.References.{held_in}
use Rattle.plain_protocol.specs.plain_state.Lawful.{Lawful}
use Rattle.plain_protocol.specs.plain_state.State.{Plain, PlainSeat, new_slot, seat_at, slot_at, stage_at}
use Rattle.plain_protocol.proofs.Below.plain_state_Kit.{held_self, seats_at}
use Rattle.plain_protocol.specs.Calm.{IsMade}
use Rattle.plain_protocol.specs.Owns.{HasSlot, Object, has_slot, object_of, own_part}
use Rattle.protocol_pairs.proofs.Held.{has_object}
use Rattle.protocol_pairs.proofs.Owning.{owned_live}
use Rattle.queue_law.specs.Words.{life_of, payload_of}
use Rattle.watch_law.specs.Steps.{life_in, payload_in}

pub live_is_made : (g : Stage) → g ≡ Live → IsMade g
live_is_made g is = (
  λ e. let b : Live ≡ Free = sym is ∙ e in absurd cc,
  λ e. let b : Live ≡ Blank = sym is ∙ e in absurd cc,
)

pub known_life : (p : Plain) (n : ℕ) (s : SlotId) → HasSlot (seat_at p n) s
    → life_in (own_part p n) s ≡ (slot_at p s).life
known_life p n s has = ap life_of (has_object p n s has)

pub known_payload : (p : Plain) (n : ℕ) (s : SlotId) → HasSlot (seat_at p n) s
    → payload_in (own_part p n) s ≡ (slot_at p s).payload
known_payload p n s has = ap payload_of (has_object p n s has)

pub filling_has : (p : Plain) (n : ℕ) (s : SlotId) → (seat_at p n).filling ≡ Some s
    → HasSlot (seat_at p n) s
filling_has p n s is =
    let h : held_in s (seat_at p n).filling ≡ 1 = ap (held_in s) is ∙ held_self s in
    lt-ltb 0 (held_times s (seat_at p n) + times s (seat_at p n).dying + held_in s (seat_at p n).filling)
    (omega arith)

pub owns_has : (p : Plain) (n : ℕ) (s : SlotId) → 0 < times s (seat_at p n).owned
    → HasSlot (seat_at p n) s
owns_has p n s owns =
    lt-ltb 0 (held_times s (seat_at p n) + times s (seat_at p n).dying + held_in s (seat_at p n).filling)
    (omega arith)

pub holds_has : (p : Plain) (n : ℕ) (s : SlotId) → HoldsStrongly (seat_at p n) s
    → HasSlot (seat_at p n) s
holds_has p n s holds =
    lt-ltb 0 (held_times s (seat_at p n) + times s (seat_at p n).dying + held_in s (seat_at p n).filling)
    (omega arith)

-- what a seat holds strongly lives
pub holds_live : (p : Plain) (n : ℕ) (s : SlotId) → Lawful p → n < length p.seats
    → HoldsStrongly (seat_at p n) s → stage_at p s ≡ Live
holds_live p n s lawful low holds = ⊎_elim
    (λ owns. owned_live p n s lawful low owns)
    (λ none.
    let b = seats_at (λ (v : PlainSeat). entry_times Strong s v.snapshots) p.seats n low in
    let a = lawful.covered Strong s (omega arith) in (lawful.strong s (omega arith)).0)
    (cases_lt 0 (times s (seat_at p n).owned))

-- the object that a seat's own part tells is the slot's
pub object_is : (p : Plain) (n : ℕ) (s : SlotId) (o : Object) → (own_part p n).objects s ≡ Some o
    → o ≡ object_of (slot_at p s)
object_is p n s o = by_test (has_slot (seat_at p n) s)
  where
    by_test : (b : Bool) → (if b then Some (object_of (slot_at p s)) else None) ≡ Some o
        → o ≡ object_of (slot_at p s)
    by_test true e = cc
    by_test false e = absurd cc

-- a slot that isn't free is in range
pub in_range : (p : Plain) (s : SlotId) → (stage_at p s ≡ Free → ⊥) → s.0 < length p.slots
in_range p s not = ⊎_elim (λ low. low)
    (λ past. absurd (not (ap (λ (x : PlainSlot). x.stage) (get_or_past p.slots s.0 new_slot past))))
    (cases_lt s.0 (length p.slots))
