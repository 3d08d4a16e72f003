-- What a seat itself has of a plain state: all that a deed may read.
use Rattle.std.specs.Prelude.{ℕ, ◌≡◌, ◌+◌, ◌==◌, ◌&&◌, Bool, true, List, drop, nat_lt, if◌then◌else◌, Option, Some, None}
use Rattle.std.specs.List.{list_all}
use Rattle.plain_state.specs.declared.slot.SlotId.{SlotId}
use Rattle.plain_state.specs.declared.slot.PlainSlot.{PlainSlot}
use Rattle.plain_state.specs.Lists.{times}
use Rattle.plain_state.specs.State.{Plain, PlainSeat, seat_at, slot_at}
use Rattle.plain_state.specs.Places.{held_times}
use Rattle.plain_state.specs.References.{held_in}

-- what stays of a slot as long as its object does
pub record Object : Type 0 where
  pub life : ℕ
  pub payload : List ℕ

abbrev pub object_of : PlainSlot → Object
object_of x = record { life = x.life; payload = x.payload }

-- the seat holds s, has it in its dying list, or fills it
abbrev pub has_slot : PlainSeat → SlotId → Bool
has_slot v s = nat_lt 0 (held_times s v + times s v.dying + held_in s v.filling)

abbrev pub HasSlot : PlainSeat → SlotId → Type 0
HasSlot v s = has_slot v s ≡ true

-- n is seat 0, and every other seat has left
abbrev pub is_alone : Plain → ℕ → Bool
is_alone p n = n == 0 && list_all (λ v. v.left) (drop 1 p.seats)

-- a seat's lists and adds, the object of each slot that it has, the whole state while it is alone
pub record OwnPart : Type 0 where
  pub seat : PlainSeat
  pub objects : SlotId → Option Object
  pub whole : Option Plain

-- what seat n itself has of p
abbrev pub own_part : Plain → ℕ → OwnPart
own_part p n = record {
  seat = seat_at p n;
  objects = λ s. if has_slot (seat_at p n) s then Some (object_of (slot_at p s)) else None;
  whole = if is_alone p n then Some p else None;
}
