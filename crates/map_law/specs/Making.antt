-- The deeds that make a node, and set its fields before it stands in a tree.
use Rattle.std.specs.Prelude.{◌≡◌, ◌⊎◌, ℕ, ◌+◌, ◌<◌, ◌==◌, true, List, [], ◌∷◌, ◌++◌, if◌then◌else◌, Option, Some, None}
use Rattle.plain_protocol.specs.plain_state.declared.act.EventPlace.TheVariants.{Field}
use Rattle.plain_protocol.specs.plain_state.declared.act.PlainAct.{PlainAct}
use Rattle.plain_protocol.specs.plain_state.declared.act.PlainAct.TheVariants as act
use Rattle.plain_protocol.specs.plain_state.declared.slot.SlotId.{SlotId}
use Rattle.plain_protocol.specs.plain_state.Lists.{times}
use Rattle.plain_protocol.specs.plain_state.State.{Plain}
use Rattle.plain_protocol.specs.Owns.{Object, OwnPart}
use Rattle.map_law.specs.Views.{Kid, Raw, Led, View, In, note, is_raw, raw_times, without}
use Rattle.map_law.specs.Nodes.{IsNode, KeepsMap}
use Rattle.map_law.specs.Patterns.{HasObject, kid_of}

-- MAKE: the payload that the seat has filled in is a node's
pub record MakeReady (s : SlotId) (own : OwnPart) (v : View) (step : PlainAct) : Type 0 where
  pub is : step ≡ act.Make s
  pub here : v.here ≡ true
  pub object : (o : Object) × HasObject own s o × IsNode o.payload

-- the node is raw, and its fields are null
abbrev pub made : SlotId → Option Object → View → View
made s None v = v
made s (Some o) v = record v {
  raw = record {
    slot = s;
    life = o.life + 1;
    payload = o.payload;
    first = None;
    second = None;
  } ∷ v.raw;
}

abbrev pub make_next : SlotId → OwnPart → OwnPart → View → PlainAct → ℕ → View
make_next s own after v step found = made s (own.objects s) v

-- the seat knows that the node is nobody's to change but its own
abbrev pub Known : View → SlotId → ℕ → Type 0
Known v s l = In (note s l) v.solid ⊎ (0 < raw_times s l v.raw)

-- both fields of a raw node, as they are noted once it isn't raw any more
abbrev pub led_notes : List Raw → SlotId → ℕ → List Led
led_notes [] r l = []
led_notes (e ∷ es) r l = if is_raw r l e
    then record { slot = r; life = l; side = 0; kid = e.first }
    ∷ record { slot = r; life = l; side = 1; kid = e.second } ∷ led_notes es r l
    else led_notes es r l

-- the node isn't the seat's to change any more
abbrev pub frozen : SlotId → ℕ → View → View
frozen r l v = record v {
  raw = without r l v.raw;
  solid = note r l ∷ v.solid;
  led = led_notes v.raw r l ++ v.led;
}

-- SET A FIELD of the raw node that was noted last: what it is to hold is nobody's to change, or was noted before it
pub record SetReady (s : SlotId) (i : ℕ) (r : SlotId) (own : OwnPart) (v : View) (step : PlainAct)
    : Type 0 where
  pub is : step ≡ act.Replace (Field s i) (Some r)
  pub here : v.here ≡ true
  pub side : (i ≡ 0) ⊎ (i ≡ 1)
  pub owned : 0 < times s own.seat.owned
  pub kid_owned : 0 < times r own.seat.owned
  pub first : Object
  pub second : Object
  pub has_first : HasObject own s first
  pub has_second : HasObject own r second
  pub node : IsNode second.payload
  pub raw : (e : Raw) × (es : List Raw) × (v.raw ≡ e ∷ es) × (e.slot ≡ s)
      × (e.life ≡ first.life)
  pub known : In (note r second.life) v.solid ⊎ (0 < raw_times r second.life raw.1)

abbrev pub with_kid : ℕ → Option Kid → Raw → Raw
with_kid i k e = if i == 0 then record e { first = k } else record e { second = k }

abbrev pub on_first : (Raw → Raw) → List Raw → List Raw
on_first f [] = []
on_first f (e ∷ es) = f e ∷ es

-- the kid is frozen, and the node's note has it
abbrev pub set_kid : ℕ → SlotId → Option Object → View → View
set_kid i r None v = v
set_kid i r (Some o) v =
    let w = frozen r o.life v in
    record w { raw = on_first (with_kid i (Some (kid_of r o))) w.raw }

abbrev pub set_next : ℕ → SlotId → OwnPart → OwnPart → View → PlainAct → ℕ → View
set_next i r own after v step found = set_kid i r (own.objects r) v

-- the seat owns a node and its kid to be, and knows that no other seat may change the kid
pub record HasKid (s : SlotId) (i : ℕ) (r : SlotId) (own : OwnPart) (v : View) : Type 0 where
  pub side : (i ≡ 0) ⊎ (i ≡ 1)
  pub owned : 0 < times s own.seat.owned
  pub kid_owned : 0 < times r own.seat.owned
  pub kid : Object
  pub has : HasObject own r kid
  pub node : IsNode kid.payload
  pub known : Known v r kid.life

-- neither changes the map
abbrev pub MakeTells : ℕ → Plain → Plain → ℕ → View → View → Type 0
MakeTells c p q n v w = KeepsMap c p q

abbrev pub SetTells : ℕ → Plain → Plain → ℕ → View → View → Type 0
SetTells c p q n v w = KeepsMap c p q
