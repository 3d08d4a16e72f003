-- What deeds read off a step, and off what the seat itself has.
use Rattle.std.specs.Prelude.{◌≡◌, ◌⊎◌, ℕ, List, Option}
use Rattle.plain_protocol.specs.plain_state.declared.act.EventPlace.{EventPlace}
use Rattle.plain_protocol.specs.plain_state.declared.act.EventPlace.TheVariants.{Field}
use Rattle.plain_protocol.specs.plain_state.declared.act.PlainAct.{PlainAct}
use Rattle.plain_protocol.specs.plain_state.declared.act.PlainAct.TheVariants as act
use Rattle.plain_protocol.specs.plain_state.declared.slot.SlotId.{SlotId}
use Rattle.plain_protocol.specs.Owns.{Object, OwnPart}
use Rattle.queue_law.specs.Words.{id, life_of, payload_of}
use Rattle.watch_law.specs.Payloads.{told}
use Rattle.watch_law.specs.Views.{Address}

-- the life and the payload of a slot that the seat has
abbrev pub life_in : OwnPart → SlotId → ℕ
life_in own s = life_of (own.objects s)

abbrev pub payload_in : OwnPart → SlotId → List ℕ
payload_in own s = payload_of (own.objects s)

-- the seat looks at a place, or checks what it announced there
abbrev pub LooksAt : EventPlace → PlainAct → Type 0
LooksAt at step = (step ≡ act.Look at) ⊎ ((j : ℕ) × (step ≡ act.Check j at))

-- the slot that a step makes
abbrev pub made_slot : PlainAct → SlotId
made_slot (act.Make s) = s
made_slot _ = id 0

-- the slot of a field
abbrev pub field_slot : EventPlace → SlotId
field_slot (Field s i) = s
field_slot _ = id 0

-- the slot at whose field a step looks
abbrev pub read_slot : PlainAct → SlotId
read_slot (act.Look at) = field_slot at
read_slot (act.Check j at) = field_slot at
read_slot _ = id 0

-- delivery d to observer o: d as the seat has it, o as the object x
abbrev pub address_by : OwnPart → SlotId → Option Object → SlotId → Address
address_by own d x o = record {
  slot = d;
  life = life_in own d;
  event = told (payload_in own d);
  observer = o;
  observer_life = life_of x;
  id = told (payload_of x);
}
