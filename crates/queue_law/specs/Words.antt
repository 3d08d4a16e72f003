-- The plain state as a queue reads it: a slot is a number, and a place holds a word, 0 for null, else the number of the
-- slot and one.
use Rattle.std.specs.Prelude.{◌≡◌, ℕ, ◌+◌, Bool, List, [], slice_index_or, Option, Some, None}
use Rattle.plain_protocol.specs.plain_state.declared.act.EventPlace.{EventPlace}
use Rattle.plain_protocol.specs.plain_state.declared.act.EventPlace.TheVariants.{Field, WeakField}
use Rattle.plain_protocol.specs.plain_state.declared.slot.SlotId.{SlotId}
use Rattle.plain_protocol.specs.plain_state.declared.slot.PlainSlot.{PlainSlot}
use Rattle.plain_protocol.specs.plain_state.declared.slot.Kind.TheVariants.{Strong}
use Rattle.plain_protocol.specs.plain_state.declared.slot.Stage.{Stage}
use Rattle.plain_protocol.specs.plain_state.declared.slot.Stage.TheVariants as stage
use Rattle.plain_protocol.specs.plain_state.Lists.{entry_times}
use Rattle.plain_protocol.specs.plain_state.Lists as lists
use Rattle.plain_protocol.specs.plain_state.References as references
use Rattle.plain_protocol.specs.plain_state.State as state
use Rattle.plain_protocol.specs.plain_state.Steps.{word_of}
use Rattle.plain_protocol.specs.Owns.{OwnPart, Object}

pub record SlotPart : Type 0 where
  pub stage : ℕ
  pub marked : Bool
  pub life : ℕ
  pub payload : List ℕ
  pub first : ℕ
  pub second : ℕ
  pub back : ℕ

abbrev pub BLANK : ℕ
BLANK = 1

abbrev pub LIVE : ℕ
LIVE = 2

abbrev pub code : Stage → ℕ
code stage.Free = 0
code stage.Blank = BLANK
code stage.Live = LIVE
code stage.Ended = 3
code stage.Husk = 4

abbrev pub id : ℕ → SlotId
id s = record { 0 = s }

abbrev pub read_slot : PlainSlot → SlotPart
read_slot x = record {
  stage = code x.stage;
  marked = x.marked;
  life = x.life;
  payload = x.payload;
  first = word_of x.first;
  second = word_of x.second;
  back = word_of x.weak_field;
}

abbrev pub slot_at : state.Plain → ℕ → SlotPart
slot_at p s = read_slot (state.slot_at p (id s))

abbrev pub cell_at : state.Plain → ℕ → ℕ
cell_at p c = word_of (slice_index_or p.cells c None)

abbrev pub Live : state.Plain → ℕ → Type 0
Live p s = (slot_at p s).stage ≡ LIVE

abbrev pub strong_refs : state.Plain → ℕ → ℕ
strong_refs p s = references.strong_refs p (id s)

abbrev pub weak_refs : state.Plain → ℕ → ℕ
weak_refs p s = references.weak_refs p (id s)

abbrev pub times : ℕ → List SlotId → ℕ
times s xs = lists.times (id s) xs

-- how often a seat holds a slot strongly
abbrev pub held_times : ℕ → state.PlainSeat → ℕ
held_times s v = times s v.owned + entry_times Strong (id s) v.snapshots

-- the life and the payload of a slot that a seat has
abbrev pub life_of : Option Object → ℕ
life_of None = 0
life_of (Some o) = o.life

abbrev pub payload_of : Option Object → List ℕ
payload_of None = []
payload_of (Some o) = o.payload

abbrev pub life_in : OwnPart → ℕ → ℕ
life_in own s = life_of (own.objects (id s))

abbrev pub payload_in : OwnPart → ℕ → List ℕ
payload_in own s = payload_of (own.objects (id s))

abbrev pub no_plain : state.Plain
no_plain = state.empty 0 0 0 0

-- the whole state, if the seat is alone
abbrev pub whole_of : Option state.Plain → state.Plain
whole_of None = no_plain
whole_of (Some p) = p

-- the places of a node: field 0 leads on, field 1 has the item, the weak field leads back
abbrev pub first_of : ℕ → EventPlace
first_of s = Field (id s) 0

abbrev pub second_of : ℕ → EventPlace
second_of s = Field (id s) 1

abbrev pub back_of : ℕ → EventPlace
back_of s = WeakField (id s)
