-- What deeds read of a seat's own part and of its step.
use Rattle.std.specs.Prelude.{◌≡◌, ◌⊎◌, ◌<◌, ℕ, zero, suc, List, [], Option, Some, None}
use Rattle.plain_protocol.specs.plain_state.declared.act.EventPlace.{EventPlace}
use Rattle.plain_protocol.specs.plain_state.declared.act.EventPlace.TheVariants.{WeakCell}
use Rattle.plain_protocol.specs.plain_state.declared.act.PlainAct.{PlainAct}
use Rattle.plain_protocol.specs.plain_state.declared.act.PlainAct.TheVariants as act
use Rattle.plain_protocol.specs.plain_state.declared.slot.SlotId.{SlotId}
use Rattle.plain_protocol.specs.plain_state.State.{Plain}
use Rattle.plain_protocol.specs.Owns.{Object, OwnPart}
use Rattle.directory_law.specs.Cells.{Area, cell}

abbrev pub id : ℕ → SlotId
id s = record { 0 = s }

-- the life and the payload of a slot that a seat has
abbrev pub life_of : Option Object → ℕ
life_of None = 0
life_of (Some o) = o.life

abbrev pub payload_of : Option Object → List ℕ
payload_of None = []
payload_of (Some o) = o.payload

abbrev pub life_in : OwnPart → SlotId → ℕ
life_in own s = life_of (own.objects s)

abbrev pub payload_in : OwnPart → SlotId → List ℕ
payload_in own s = payload_of (own.objects s)

-- the slot of a word that was found
abbrev pub slot_of : ℕ → Option SlotId
slot_of zero = None
slot_of (suc s) = Some (id s)

-- a look or a check of a place
abbrev pub LooksAt : EventPlace → PlainAct → Type 0
LooksAt at step = (step ≡ act.Look at) ⊎ ((j : ℕ) × (step ≡ act.Check j at))

abbrev pub place_of : PlainAct → EventPlace
place_of (act.Look at) = at
place_of (act.Check j at) = at
place_of _ = WeakCell 0

abbrev pub weak_index : EventPlace → ℕ
weak_index (WeakCell i) = i
weak_index _ = 0

-- the slot that a step makes, or adds a reference to
abbrev pub slot_in : PlainAct → SlotId
slot_in (act.Make s) = s
slot_in (act.Add s) = s
slot_in _ = id 0

-- a set cell doesn't change
abbrev pub Stays : Area → Plain → Plain → Type 0
Stays z p q = (c : ℕ) (s : SlotId) → c < z.cells → cell z p c ≡ Some s → cell z q c ≡ Some s
