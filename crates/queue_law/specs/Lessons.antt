-- The deeds by which a seat learns: each is a step that changes nothing that a queue reads.
use Rattle.std.specs.Prelude.{◌≡◌, ◌≢◌, ℕ, zero, suc, ◌+◌, ◌-◌, ◌<◌, Bool, true, cond, ◌==◌, ◌⊎◌, nat_lt, not}
use Rattle.plain_protocol.specs.plain_state.declared.act.EventPlace.{EventPlace}
use Rattle.plain_protocol.specs.plain_state.declared.act.EventPlace.TheVariants.{Cell}
use Rattle.plain_protocol.specs.plain_state.declared.act.PlainAct.{PlainAct}
use Rattle.plain_protocol.specs.plain_state.declared.act.PlainAct.TheVariants as act
use Rattle.plain_protocol.specs.plain_state.State.{Plain, no_payload}
use Rattle.plain_protocol.specs.Owns.{OwnPart}
use Rattle.queue_law.specs.Words.{id, slot_at, cell_at, Live, first_of, second_of, back_of, held_times, life_in}
use Rattle.queue_law.specs.Views.{Linked, Double, View, Eyes, sees_node}
use Rattle.queue_law.specs.Chain.{Ends}
use Rattle.queue_law.specs.Pushes.{helped_view}

-- a look or a check of a place
abbrev pub Reads : EventPlace → PlainAct → Type 0
Reads at step = (step ≡ act.Look at) ⊎ ((j : ℕ) × (step ≡ act.Check j at))

-- LEARN. What a cell of the queue held, if the seat holds it afterwards: it was linked, in the life that the seat then
-- knows
abbrev pub LearnReady : ℕ → OwnPart → View → PlainAct → Type 0
LearnReady c own v step = Reads (Cell c) step

abbrev pub learnt : Bool → OwnPart → ℕ → Eyes
learnt head after found =
    record (sees_node found (life_in after (found - 1))) { was_head = head; was_tail = not head }

abbrev pub learn_next : Bool → OwnPart → OwnPart → View → PlainAct → ℕ → View
learn_next head own after v step zero = v
learn_next head own after v step (suc s) =
    cond (nat_lt 0 (held_times s after.seat)) (record v { eyes = learnt head after (suc s) }) v

-- NEXT. The node after one that was seen
pub record NextReady (own : OwnPart) (v : View) (step : PlainAct) : Type 0 where
  pub node : ℕ
  pub reads : Reads (first_of node) step
  pub held : 0 < held_times node own.seat
  pub seen : v.eyes.node ≡ node + 1
  pub seen_life : life_in own node ≡ v.eyes.life

abbrev pub next_next : OwnPart → OwnPart → View → PlainAct → ℕ → View
next_next own after v step found =
    record v { eyes = record v.eyes { following = found; found = 0 } }

-- AHEAD, in a linked queue. Field 0 of the node after one that was seen
pub record AheadReady (u : Ends) (own : OwnPart) (v : View) (step : PlainAct) : Type 0 where
  pub node : ℕ
  pub old : ℕ
  pub reads : Reads (first_of node) step
  pub form : u.form ≡ Linked
  pub held : 0 < held_times old own.seat
  pub seen : v.eyes.node ≡ old + 1
  pub seen_life : life_in own old ≡ v.eyes.life
  pub following : v.eyes.following ≡ node + 1

-- where it isn't null, the tail cell has gone past the node that was seen
abbrev pub ahead_next : OwnPart → OwnPart → View → PlainAct → ℕ → View
ahead_next own after v step found =
    record v { eyes = record v.eyes { passed = nat_lt 0 found } }

-- PASSED. The tail cell, where it has gone past a node that was seen
pub record PassedReady (u : Ends) (own : OwnPart) (v : View) (step : PlainAct) : Type 0 where
  pub old : ℕ
  pub reads : Reads (Cell u.tail) step
  pub held : 0 < held_times old own.seat
  pub seen : v.eyes.node ≡ old + 1
  pub seen_life : life_in own old ≡ v.eyes.life
  pub passed : v.eyes.passed ≡ true

abbrev pub passed_next : OwnPart → OwnPart → View → PlainAct → ℕ → View
passed_next own after v step found = v

-- ITEM. The item of the node after one that was seen
pub record ItemReady (own : OwnPart) (v : View) (step : PlainAct) : Type 0 where
  pub node : ℕ
  pub old : ℕ
  pub reads : Reads (second_of node) step
  pub attached : v.attached ≡ true
  pub held : 0 < held_times old own.seat
  pub seen : v.eyes.node ≡ old + 1
  pub seen_life : life_in own old ≡ v.eyes.life
  pub following : v.eyes.following ≡ node + 1

abbrev pub item_next : OwnPart → OwnPart → View → PlainAct → ℕ → View
item_next own after v step found = record v { eyes = record v.eyes { found = found } }

-- BEFORE, in a doubly linked queue. The node before one that was seen, by its weak field; where that is null there is
-- none
pub record BeforeReady (u : Ends) (own : OwnPart) (v : View) (step : PlainAct) : Type 0 where
  pub node : ℕ
  pub reads : Reads (back_of node) step
  pub form : u.form ≡ Double
  pub held : 0 < held_times node own.seat
  pub seen : v.eyes.node ≡ node + 1
  pub seen_life : life_in own node ≡ v.eyes.life

abbrev pub before_next : OwnPart → OwnPart → View → PlainAct → ℕ → View
before_next own after v step found =
    record v { eyes = record v.eyes { before = found; helped = found == 0 } }

-- ENDED, in a doubly linked queue. An upgrade of the node before one that was seen: where it has ended, there is
-- nothing to help
pub record EndedReady (u : Ends) (own : OwnPart) (v : View) (step : PlainAct) : Type 0 where
  pub before : ℕ
  pub node : ℕ
  pub act_is : step ≡ act.Add (id before)
  pub form : u.form ≡ Double
  pub held : 0 < held_times node own.seat
  pub seen : v.eyes.node ≡ node + 1
  pub seen_life : life_in own node ≡ v.eyes.life
  pub at_before : v.eyes.before ≡ before + 1
  pub attached : v.attached ≡ true

abbrev pub ended_next : OwnPart → OwnPart → View → PlainAct → ℕ → View
ended_next own after v step found = cond (found == 1) (helped_view v) v

-- SET, in a doubly linked queue. Field 0 of the node before one that was seen: where it is set, there is nothing to
-- help
pub record SetReady (u : Ends) (own : OwnPart) (v : View) (step : PlainAct) : Type 0 where
  pub before : ℕ
  pub node : ℕ
  pub reads : Reads (first_of before) step
  pub form : u.form ≡ Double
  pub held : 0 < held_times node own.seat
  pub seen : v.eyes.node ≡ node + 1
  pub seen_life : life_in own node ≡ v.eyes.life
  pub at_before : v.eyes.before ≡ before + 1

abbrev pub set_next : OwnPart → OwnPart → View → PlainAct → ℕ → View
set_next own after v step found = cond (found == 0) v (helped_view v)

-- ATTACH. The head cell holds a slot
abbrev pub AttachReady : Ends → OwnPart → View → PlainAct → Type 0
AttachReady u own v step = step ≡ act.Look (Cell u.head)

abbrev pub attach_next : OwnPart → OwnPart → View → PlainAct → ℕ → View
attach_next own after v step zero = v
attach_next own after v step (suc s) = record v { attached = true }

-- WHAT LESSONS TELL. Nothing is linked behind the node that the head cell holds
abbrev pub NothingLinked : Ends → Plain → Type 0
NothingLinked u p = (s : ℕ) × (cell_at p u.head ≡ s + 1) × ((slot_at p s).first ≡ 0)

-- what the cell held is a node
abbrev pub CellTells : ℕ → Plain → Plain → ℕ → View → View → Type 0
CellTells c p q n v w = (s : ℕ) → cell_at p c ≡ s + 1 → (slot_at q s).payload ≡ no_payload

-- where the node after one that the head cell held is null, nothing is linked; else what follows is a node
pub record NextTells (u : Ends) (p q : Plain) (n : ℕ) (v w : View) : Type 0 where
  pub none :
      v.eyes.was_head ≡ true → v.attached ≡ true → w.eyes.following ≡ 0 → NothingLinked u q
  pub node : (s : ℕ) → w.eyes.following ≡ s + 1 → (slot_at q s).payload ≡ no_payload

-- where the slot before the node that was seen is live, it is a node
abbrev pub EndedTells : Plain → Plain → ℕ → View → View → Type 0
EndedTells p q n v w =
    (s : ℕ) → v.eyes.before ≡ s + 1 → Live p s → (slot_at q s).payload ≡ no_payload

-- the tail cell held another node than the one that was seen, or none
abbrev pub PassedTells : Ends → Plain → Plain → ℕ → View → View → Type 0
PassedTells u p q n v w = cell_at p u.tail ≢ v.eyes.node

-- where the next node has no item, the head cell doesn't hold the node that was seen
abbrev pub ItemTells : Ends → Plain → Plain → ℕ → View → View → Type 0
ItemTells u p q n v w = w.eyes.found ≡ 0 → cell_at q u.head ≢ v.eyes.node

-- the head cell isn't null
abbrev pub AttachTells : Ends → Plain → Plain → ℕ → View → View → Type 0
AttachTells u p q n v w = w.attached ≡ true → cell_at q u.head ≢ 0

-- other deeds tell no more than their views
abbrev pub TellsNothing : Plain → Plain → ℕ → View → View → Type 0
TellsNothing p q n v w = Unit {0}
