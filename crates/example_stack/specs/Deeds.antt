-- The deeds on a stack: when each is ready, and the next view.
use Rattle.std.specs.Prelude.{ℕ, zero, suc, ◌≡◌, ◌<◌, ◌⊎◌, ◌==◌, List, [], ◌++◌, Contains, Option, Some, None, if◌then◌else◌}
use Rattle.cdrc.specs.plain_state.declared.act.EventPlace.{EventPlace}
use Rattle.cdrc.specs.plain_state.declared.act.EventPlace.TheVariants.{Cell, Field}
use Rattle.cdrc.specs.plain_state.declared.act.PlainAct.{PlainAct}
use Rattle.cdrc.specs.plain_state.declared.act.PlainAct.TheVariants as act
use Rattle.cdrc.specs.plain_state.declared.slot.SlotId.{SlotId}
use Rattle.cdrc.specs.plain_state.Lists.{times}
use Rattle.cdrc.specs.plain_state.State.{Plain}
use Rattle.cdrc.specs.plain_state.Steps.{word_of}
use Rattle.cdrc.specs.plain_protocol.Acts.{IsCalm}
use Rattle.cdrc.specs.plain_protocol.Owns.{Object, OwnPart}
use Rattle.cdrc.specs.protocol_pairs.Spared.{HasOneOf}
use Rattle.cdrc.specs.protocol_pairs.Values.{value_of}
use Rattle.example_stack.specs.Views.{View}

-- the seat owns a reference to a node
abbrev pub OwnsNode : (List ℕ → Type 0) → OwnPart → SlotId → Type 0
OwnsNode kind own x = (0 < times x own.seat.owned) × HasOneOf kind (own.objects x)

-- null, or a node that the seat has, and whose value it saw in the stack
abbrev pub SawObject : View → Option Object → Type 0
SawObject v None = ⊥
SawObject v (Some o) = Contains v.seen o.payload

abbrev pub SawIt : OwnPart → View → Option SlotId → Type 0
SawIt own v None = Unit {0}
SawIt own v (Some s) = SawObject v (own.objects s)

-- MAKE. A node comes to life
abbrev pub MakeReady : OwnPart → View → PlainAct → Type 0
MakeReady own v step = (s : SlotId) × (step ≡ act.Make s)

abbrev pub same_next : OwnPart → OwnPart → View → PlainAct → ℕ → View
same_next own after v step found = v

-- SEE. What the cell holds, or a node that the seat owns, by a look or a check, if the seat has it afterwards
abbrev pub IsStackPlace : ℕ → (List ℕ → Type 0) → OwnPart → EventPlace → Type 0
IsStackPlace cell kind own place =
    (place ≡ Cell cell) ⊎ ((x : SlotId) × (place ≡ Field x 0) × OwnsNode kind own x)

abbrev pub SeeReady : ℕ → (List ℕ → Type 0) → OwnPart → View → PlainAct → Type 0
SeeReady cell kind own v step =
    (place : EventPlace) × IsStackPlace cell kind own place
    × ((step ≡ act.Look place) ⊎ ((j : ℕ) × (step ≡ act.Check j place)))

abbrev pub see_next : OwnPart → OwnPart → View → PlainAct → ℕ → View
see_next own after v step zero = v
see_next own after v step (suc s) =
    record v { seen = v.seen ++ value_of (after.objects (record { 0 = s })) }

-- the seat sees nodes alone
abbrev pub SeeTells : (List ℕ → Type 0) → Plain → Plain → ℕ → View → View → Type 0
SeeTells kind p q n v w = (value : List ℕ) → Contains w.seen value → kind value

-- LINK. Field 0 of an object gets null, or a node that was in the stack; or the step is calm
abbrev pub LinkReady : OwnPart → View → PlainAct → Type 0
LinkReady own v step =
    IsCalm step
    ⊎ ((x : SlotId) × (new : Option SlotId) × (step ≡ act.Replace (Field x 0) new)
    × SawIt own v new)

-- PUSH. The cell gets a node, where it holds what is expected
abbrev pub PushReady : ℕ → (List ℕ → Type 0) → OwnPart → View → PlainAct → Type 0
PushReady cell kind own v step =
    (old : Option SlotId) × (s : SlotId) × (step ≡ act.TryReplace (Cell cell) old (Some s))
    × HasOneOf kind (own.objects s)

abbrev pub pushed_by : OwnPart → PlainAct → ℕ → List (List ℕ)
pushed_by own (act.TryReplace place old (Some s)) found =
    if found == word_of old then value_of (own.objects s) else []
pushed_by own step found = []

abbrev pub push_next : OwnPart → OwnPart → View → PlainAct → ℕ → View
push_next own after v step found = record v { pushed = v.pushed ++ pushed_by own step found }

-- POP. The cell gets what was below a node, where that node is the top
abbrev pub PopReady : ℕ → OwnPart → View → PlainAct → Type 0
PopReady cell own v step =
    (s : SlotId) × (new : Option SlotId) × (step ≡ act.TryReplace (Cell cell) (Some s) new)
    × SawIt own v new

abbrev pub popped_by : OwnPart → PlainAct → ℕ → List (List ℕ)
popped_by own (act.TryReplace place (Some s) new) found =
    if found == word_of (Some s) then value_of (own.objects s) else []
popped_by own step found = []

abbrev pub pop_next : OwnPart → OwnPart → View → PlainAct → ℕ → View
pop_next own after v step found = record v { popped = v.popped ++ popped_by own step found }

-- the next view tells all
abbrev pub TellsNothing : Plain → Plain → ℕ → View → View → Type 0
TellsNothing p q n v w = Unit {0}
