-- The deeds by which a seat learns: what the cell of an id holds, and to whom a delivery is.
use Rattle.std.specs.Prelude.{◌≡◌, ◌⊎◌, ℕ, zero, suc, ◌+◌, ◌<◌, ◌==◌, true, [], ◌∷◌, ◌++◌, if◌then◌else◌, slice_index, Option, Some, None}
use Rattle.plain_protocol.specs.plain_state.declared.act.EventPlace.TheVariants.{Field, WeakCell}
use Rattle.plain_protocol.specs.plain_state.declared.act.PlainAct.{PlainAct}
use Rattle.plain_protocol.specs.plain_state.declared.slot.SlotId.{SlotId}
use Rattle.plain_protocol.specs.plain_state.Places.{HoldsStrongly}
use Rattle.plain_protocol.specs.plain_state.State.{Plain, slot_at, stage_at}
use Rattle.plain_protocol.specs.Calm.{IsMade}
use Rattle.plain_protocol.specs.Owns.{Object, OwnPart}
use Rattle.queue_law.specs.Words.{id}
use Rattle.watch_law.specs.Payloads.{IsObserverOf}
use Rattle.watch_law.specs.Views.{Address, View, last}
use Rattle.watch_law.specs.Law.{Area, cell, owner, KnowsCell, IsTo}
use Rattle.watch_law.specs.Steps.{payload_in, LooksAt, read_slot, address_by}

-- FIND. A look or a check of the cell of an id
pub record FindReady (z : Area) (c : ℕ) (own : OwnPart) (v : View) (step : PlainAct) : Type 0 where
  pub inside : c < z.cells
  pub looks : LooksAt (WeakCell (z.first + c)) step

abbrev pub find_next : OwnPart → OwnPart → View → PlainAct → ℕ → View
find_next own after v step found = v

-- what the cell holds is an observer with this id; to the seat of the id, that which it put there last
pub record FindTells (z : Area) (c : ℕ) (p q : Plain) (n : ℕ) (v w : View) : Type 0 where
  pub same : w ≡ v
  pub observer :
      (s : SlotId) → cell z p c ≡ Some s
      → IsMade (stage_at p s) × IsObserverOf c (slot_at p s).payload
  pub own : v.here ≡ true → owner z c ≡ v.number → KnowsCell z p c (last c v.subscribed)

-- READ. A look or a check of field 0 of a slot that the seat holds strongly, whichever slot it is
pub record ReadReady (own : OwnPart) (v : View) (step : PlainAct) : Type 0 where
  pub slot : SlotId
  pub looks : LooksAt (Field slot 0) step
  pub held : HoldsStrongly own.seat slot

-- of a delivery it is noted which observer was found, where the seat has it afterwards
abbrev pub reads : OwnPart → SlotId → Option Object → SlotId → View → View
reads own d None o v = v
reads own d (Some x) o v =
    if slice_index (payload_in own d) 0 == 2
    then record v { read = v.read ++ address_by own d (Some x) o ∷ [] }
    else v

abbrev pub reads_word : SlotId → OwnPart → OwnPart → View → ℕ → View
reads_word d own after v zero = v
reads_word d own after v (suc o) = reads own d (after.objects (id o)) (id o) v

abbrev pub read_next : OwnPart → OwnPart → View → PlainAct → ℕ → View
read_next own after v step found = reads_word (read_slot step) own after v found

-- nothing is noted, or an address that is so
abbrev pub ReadTells : Plain → Plain → ℕ → View → View → Type 0
ReadTells p q n v w =
    (w ≡ v) ⊎ ((a : Address) × (w.read ≡ v.read ++ a ∷ []) × IsTo p a
    × (a.life ≡ (slot_at p a.slot).life))
