-- What a seat learns where it looks at the root cell, and at fields of nodes that stand in a tree.
use Rattle.std.specs.Prelude.{◌≡◌, ◌⊎◌, ℕ, zero, suc, true, ◌∷◌, Option, Some, None}
use Rattle.plain_protocol.specs.plain_state.declared.act.EventPlace.{EventPlace}
use Rattle.plain_protocol.specs.plain_state.declared.act.EventPlace.TheVariants.{Cell, Field}
use Rattle.plain_protocol.specs.plain_state.declared.act.PlainAct.{PlainAct}
use Rattle.plain_protocol.specs.plain_state.declared.act.PlainAct.TheVariants as act
use Rattle.plain_protocol.specs.plain_state.declared.slot.SlotId.{SlotId}
use Rattle.plain_protocol.specs.plain_state.Places.{HoldsStrongly, content}
use Rattle.plain_protocol.specs.plain_state.State.{Plain, seat_at}
use Rattle.plain_protocol.specs.Owns.{Object, OwnPart, own_part}
use Rattle.map_trees.specs.Trees.{Tree, Shaped}
use Rattle.map_law.specs.Views.{Kid, Shown, View, In, note}
use Rattle.map_law.specs.Nodes.{root, IsNode, TreeAt, KeepsMap}
use Rattle.map_law.specs.Patterns.{HasObject, Pattern, Fits, IsKid, Spells, filled, kid_of}
use Rattle.map_law.specs.Making.{Known, frozen}

-- a look at a place, or the check of an announcement there
abbrev pub Reads : EventPlace → PlainAct → Type 0
Reads at step = (step ≡ act.Look at) ⊎ ((j : ℕ) × (step ≡ act.Check j at))

-- SEE THE ROOT: the node that stands there is nobody's to change
pub record SeeReady (c : ℕ) (own : OwnPart) (v : View) (step : PlainAct) : Type 0 where
  pub is : Reads (Cell c) step
  pub here : v.here ≡ true

abbrev pub seen_root : SlotId → Option Object → View → View
seen_root s None v = v
seen_root s (Some o) v = record v { solid = note s o.life ∷ v.solid }

-- it is noted where the seat has it after the step
abbrev pub see_next : OwnPart → OwnPart → View → PlainAct → ℕ → View
see_next own after v step zero = v
see_next own after v step (suc s) =
    seen_root (record { 0 = s }) (after.objects (record { 0 = s })) v

abbrev pub SeeTells : ℕ → Plain → Plain → ℕ → View → View → Type 0
SeeTells c p q n v w = KeepsMap c p q

-- READ A FIELD of a node that the seat holds, and of which it knows that no other seat may change it
pub record ReadReady (s : SlotId) (i : ℕ) (own : OwnPart) (v : View) (step : PlainAct) : Type 0
  where
    pub is : Reads (Field s i) step
    pub here : v.here ≡ true
    pub side : (i ≡ 0) ⊎ (i ≡ 1)
    pub held : HoldsStrongly own.seat s
    pub object : Object
    pub has : HasObject own s object
    pub node : IsNode object.payload
    pub known : Known v s object.life

-- the field's kid is noted where the seat has it after the step, else the slot alone
abbrev pub led_to : SlotId → ℕ → ℕ → SlotId → Option Object → View → View
led_to s l i r None v = record v {
  shown = record { slot = s; life = l; side = i; next = Some r } ∷ v.shown;
}
led_to s l i r (Some x) v = record v {
  solid = note r x.life ∷ v.solid;
  led = record { slot = s; life = l; side = i; kid = Some (kid_of r x) } ∷ v.led;
}

abbrev pub led_by : SlotId → ℕ → ℕ → OwnPart → ℕ → View → View
led_by s l i after zero v = record v {
  led = record { slot = s; life = l; side = i; kid = None } ∷ v.led;
}
led_by s l i after (suc r) v =
    led_to s l i (record { 0 = r }) (after.objects (record { 0 = r })) v

-- a raw node that is read is frozen
abbrev pub read_of : SlotId → ℕ → Option Object → OwnPart → View → ℕ → View
read_of s i None after v found = v
read_of s i (Some o) after v found = led_by s o.life i after found (frozen s o.life v)

abbrev pub read_next : SlotId → ℕ → OwnPart → OwnPart → View → PlainAct → ℕ → View
read_next s i own after v step found = read_of s i (own.objects s) after v found

-- a field that was looked at before still shows the same slot, where the seat holds its node
abbrev pub Shows : Plain → ℕ → View → Type 0
Shows p n v =
    (e : Shown) (o : Object) → In e v.shown → HasObject (own_part p n) e.slot o
    → o.life ≡ e.life → HoldsStrongly (seat_at p n) e.slot
    → content p (Field e.slot e.side) ≡ e.next

abbrev pub ReadTells : ℕ → Plain → Plain → ℕ → View → View → Type 0
ReadTells c p q n v w = KeepsMap c p q × Shows p n v

-- ANSWER A READ, at a last look at the root cell
pub record AnswerReady (c : ℕ) (own : OwnPart) (v : View) (step : PlainAct) : Type 0 where
  pub is : step ≡ act.Look (Cell c)

abbrev pub answer_next : OwnPart → OwnPart → View → PlainAct → ℕ → View
answer_next own after v step found = v

-- the root cell's tree is this pattern's, for some trees in place of what isn't read
abbrev pub IsMapOf : ℕ → Plain → Pattern → Type 0
IsMapOf c p pat =
    (trees : SlotId → Tree) × Fits trees pat × TreeAt p (root p c) (filled trees pat)
    × Shaped (filled trees pat)

-- where the seat has the root that stands there, the tree is what its notes spell from it on
abbrev pub KnowsMap : ℕ → Plain → ℕ → View → Type 0
KnowsMap c p n v =
    (k : Option Kid) (pat : Pattern) → IsKid (own_part p n) (root p c) k → Spells v k pat
    → IsMapOf c p pat

abbrev pub AnswerTells : ℕ → Plain → Plain → ℕ → View → View → Type 0
AnswerTells c p q n v w = (w ≡ v) × KeepsMap c p q × KnowsMap c p n v
