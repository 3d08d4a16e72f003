-- The deed by which a seat begins to read what it popped.
use Rattle.std.specs.Prelude.{ℕ, List, ◌∷◌}
use Rattle.protocol_pairs.specs.plain_state.declared.act.EventPlace.{EventPlace}
use Rattle.protocol_pairs.specs.plain_state.declared.act.EventPlace.TheVariants.{Field}
use Rattle.protocol_pairs.specs.plain_state.declared.act.PlainAct.{PlainAct}
use Rattle.protocol_pairs.specs.plain_state.declared.slot.SlotId.{SlotId}
use Rattle.protocol_pairs.specs.plain_state.State.{Plain}
use Rattle.protocol_pairs.specs.plain_state.Places.{HoldsStrongly}
use Rattle.protocol_pairs.specs.plain_protocol.Owns.{OwnPart}
use Rattle.queue_law.specs.declared.view.View.{View as QueueView}
use Rattle.queue_law.specs.Lists.{taken_items}
use Rattle.directory_law.specs.Views.{In}
use Rattle.directory_law.specs.Cells.{Area}
use Rattle.directory_law.specs.Steps.{id, life_in, LooksAt, place_of}
use Rattle.directory_law.specs.Lessons.{starts_at, UpgradeTells}
use Rattle.words_law.specs.Views.{View}

-- the seat popped s, in the life in which it now has it
abbrev pub HasPopped : OwnPart → QueueView → SlotId → Type 0
HasPopped own v s =
    (payload : List ℕ)
    × In (record { slot = s.0; life = life_in own s; payload = payload }) (taken_items v.popped)

-- BEGIN. A look or a check of field 1 of a slot that the seat holds strongly and has popped
pub record BeginReady (own : OwnPart) (v : View) (step : PlainAct) : Type 0 where
  pub slot : SlotId
  pub looks : LooksAt (Field slot 1) step
  pub held : HoldsStrongly own.seat slot
  pub popped : HasPopped own v.0 slot

abbrev pub field_slot : EventPlace → SlotId
field_slot (Field s i) = s
field_slot _ = id 0

-- its payload is read
abbrev pub begin_next : OwnPart → OwnPart → View → PlainAct → ℕ → View
begin_next own after v step found =
    (v.0, record v.1 { ran = starts_at own (field_slot (place_of step)) ∷ v.1.ran })

-- the slot is the live record of a text that begins with this payload
abbrev pub BeginTells : Area → Plain → Plain → ℕ → View → View → Type 0
BeginTells z p q n v w = UpgradeTells z p q n v.1 w.1
