-- What a strong place of a lawful state holds lives; and what a seat has of the slots that it holds.
use Rattle.std.proofs.Common.{◌≡◌, ⊎_elim, ℕ, ◌<◌, length, get_or, ap, sym, ◌∙◌, arith, Option, Some, None}
use Rattle.std.specs.Prelude.{if◌then◌else◌}
use Rattle.std.proofs.lemmas.List.{get_or_past}
use Rattle.std.proofs.lemmas.Bool.{cases_lt, lt-ltb}
use Rattle.plain_protocol.specs.plain_state.declared.slot.PlainSlot.{PlainSlot}
use Rattle.plain_protocol.specs.plain_state.declared.slot.SlotId.{SlotId}
use Rattle.plain_protocol.specs.plain_state.declared.slot.Stage.TheVariants.{Live}
use Rattle.plain_protocol.specs.plain_state.Lawful.{Lawful}
use Rattle.plain_protocol.specs.plain_state.Places.{held_times}
use Rattle.plain_protocol.specs.plain_state.References.{held_in, strong_fields}
use Rattle.plain_protocol.specs.plain_state.State.{Plain, new_slot, seat_at, slot_at, stage_at}
use Rattle.plain_protocol.proofs.Below.plain_state_Kit.{cells_at, held_self, slots_at}
use Rattle.plain_protocol.specs.Owns.{HasSlot, object_of, own_part}

is_held : (s : SlotId) (place : Option SlotId) → place ≡ Some s → held_in s place ≡ 1
is_held s place is = ap (held_in s) is ∙ held_self s

none_held : (s : SlotId) (place : Option SlotId) → place ≡ None → place ≡ Some s → ⊥
none_held s place none is = let e : None ≡ Some s = sym none ∙ is in cc

pub cell_live : (p : Plain) (c : ℕ) (s : SlotId) → Lawful p → get_or p.cells c None ≡ Some s
    → stage_at p s ≡ Live
cell_live p c s lawful is = ⊎_elim
    (λ low. let a = cells_at s p.cells c low in let b = is_held s (get_or p.cells c None) is in
    (lawful.strong s (omega arith)).0)
    (λ past. absurd (none_held s _ (get_or_past p.cells c None past) is))
    (cases_lt c (length p.cells))

pub first_live : (p : Plain) (x s : SlotId) → Lawful p → (slot_at p x).first ≡ Some s
    → stage_at p s ≡ Live
first_live p x s lawful is = ⊎_elim
    (λ low. let a = slots_at (strong_fields s) p.slots x.0 low in
    let b = is_held s (slot_at p x).first is in (lawful.strong s (omega arith)).0)
    (λ past. absurd (none_held s _
    (ap (λ (z : PlainSlot). z.first) (get_or_past p.slots x.0 new_slot past)) is))
    (cases_lt x.0 (length p.slots))

-- the seat has the object of a slot that is among its own
pub has_object : (p : Plain) (n : ℕ) (s : SlotId) → HasSlot (seat_at p n) s
    → (own_part p n).objects s ≡ Some (object_of (slot_at p s))
has_object p n s has = ap (λ b. if b then Some (object_of (slot_at p s)) else None) has

pub held_has : (p : Plain) (n : ℕ) (s : SlotId) → 0 < held_times s (seat_at p n)
    → HasSlot (seat_at p n) s
held_has p n s held = lt-ltb 0 _ (omega arith)
