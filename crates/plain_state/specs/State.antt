-- The plain state: what each seat has, what each cell holds, and how far each slot is.
use Rattle.std.specs.Prelude.{ℕ, Bool, true, false, List, [], ◌∷◌, slice_index_or, slice_set, replicate, Option, None}
use Rattle.plain_state.specs.declared.slot.SlotId.{SlotId}
use Rattle.plain_state.specs.declared.slot.PlainSlot.{PlainSlot}
use Rattle.plain_state.specs.declared.slot.Stage.{Stage}
use Rattle.plain_state.specs.declared.slot.Stage.TheVariants.{Free}
use Rattle.plain_state.specs.Lists.{Entry}

-- What a seat has: a list entry for each reference that it owns, is under a snapshot of, or has yet to give up;
-- the ended slots that it is to destroy; the slot that it is filling, if any.
pub record PlainSeat : Type 0 where
  pub owned : List SlotId
  pub weaks : List SlotId
  pub snapshots : List Entry
  pub deferred : List Entry
  pub dying : List SlotId
  pub filling : Option SlotId
  pub adds : ℕ
  pub left : Bool

-- What all seats have, every cell and every slot, and how many tickets were drawn so far.
pub record Plain : Type 0 where
  pub seats : List PlainSeat
  pub cells : List (Option SlotId)
  pub weak_cells : List (Option SlotId)
  pub slots : List PlainSlot
  pub tickets : ℕ

abbrev pub new_seat : PlainSeat
new_seat = record {
  owned = [];
  weaks = [];
  snapshots = [];
  deferred = [];
  dying = [];
  filling = None;
  adds = 0;
  left = false;
}

-- sixteen words of 0
abbrev pub no_payload : List ℕ
no_payload = 0 ∷ 0 ∷ 0 ∷ 0 ∷ 0 ∷ 0 ∷ 0 ∷ 0 ∷ 0 ∷ 0 ∷ 0 ∷ 0 ∷ 0 ∷ 0 ∷ 0 ∷ 0 ∷ []

abbrev pub new_slot : PlainSlot
new_slot = record {
  stage = Free;
  marked = true;
  life = 0;
  payload = no_payload;
  first = None;
  second = None;
  weak_field = None;
}

abbrev pub seat_at : Plain → ℕ → PlainSeat
seat_at p n = slice_index_or p.seats n new_seat

abbrev pub slot_at : Plain → SlotId → PlainSlot
slot_at p s = slice_index_or p.slots s.0 new_slot

abbrev pub stage_at : Plain → SlotId → Stage
stage_at p s = (slot_at p s).stage

abbrev pub with_seat : Plain → ℕ → PlainSeat → Plain
with_seat p n v = record p { seats = slice_set p.seats n v }

abbrev pub with_slot : Plain → SlotId → PlainSlot → Plain
with_slot p s x = record p { slots = slice_set p.slots s.0 x }

-- the state with nothing in it
abbrev pub empty : ℕ → ℕ → ℕ → ℕ → Plain
empty seats slots cells weak_cells = record {
  seats = replicate seats new_seat;
  cells = replicate cells None;
  weak_cells = replicate weak_cells None;
  slots = replicate slots new_slot;
  tickets = 0;
}
