-- What the deeds of a read tell.
use Rattle.std.specs.Prelude.{◌≡◌, ℕ, Option, Some, None}
use Rattle.map_law.specs.plain_state.declared.act.EventPlace.TheVariants.{Field}
use Rattle.map_law.specs.plain_state.declared.act.PlainAct.{PlainAct}
use Rattle.map_law.specs.plain_state.declared.slot.SlotId.{SlotId}
use Rattle.map_law.specs.plain_state.Places.{HoldsStrongly, content}
use Rattle.map_law.specs.plain_state.State.{Plain, seat_at}
use Rattle.map_law.specs.plain_protocol.Owns.{Object, OwnPart, own_part}
use Rattle.map_trees.specs.Trees.{Tree, Shaped}
use Rattle.map_law.specs.declared.view.Kid.{Kid}
use Rattle.map_law.specs.declared.view.Led.{Led}
use Rattle.map_law.specs.declared.view.View.{View}
use Rattle.map_law.specs.Views.{In, note}
use Rattle.map_law.specs.Nodes.{root, TreeAt, KeepsMap}
use Rattle.map_law.specs.Patterns.{HasObject, IsKid}
use Rattle.map_law.specs.Lessons.{ReadReady, Shows}
use Rattle.version_reading.specs.Ways.{Way, Passes, Tells}

-- the tree on the root cell is a balanced search tree, and each way that the seat's notes tell from its root on leads
-- down it
pub record KnowsWays (c : ℕ) (p : Plain) (n : ℕ) (v : View) : Type 0 where
  pub tree : Tree
  pub is : TreeAt p (root p c) tree
  pub shaped : Shaped tree
  pub ways :
      (k : Option Kid) (way : Way) → IsKid (own_part p n) (root p c) k → Tells v k way
      → Passes way tree

-- A LOOK AT THE ROOT CELL leaves the view, and tells the ways
abbrev pub LookTells : ℕ → Plain → Plain → ℕ → View → View → Type 0
LookTells c p q n v w = (w ≡ v) × KeepsMap c p q × KnowsWays c p n v

-- A FIELD IS READ of a node that the seat holds, and that it knows to be nobody's to change, not its own either
pub record SideReady (s : SlotId) (i : ℕ) (own : OwnPart) (v : View) (step : PlainAct) : Type 0
  where
    pub read : ReadReady s i own v step
    pub solid : In (note s read.object.life) v.solid

abbrev pub slot_of_kid : Option Kid → Option SlotId
slot_of_kid None = None
slot_of_kid (Some x) = Some x.slot

-- what was noted of a field of a node that the seat holds stands there still
abbrev pub StillLed : Plain → ℕ → View → Type 0
StillLed p n v =
    (e : Led) (o : Object) → In e v.led → HasObject (own_part p n) e.slot o → o.life ≡ e.life
    → HoldsStrongly (seat_at p n) e.slot
    → content p (Field e.slot e.side) ≡ slot_of_kid e.kid

pub record SideTells (c : ℕ) (p q : Plain) (n : ℕ) (v w : View) : Type 0 where
  pub map : KeepsMap c p q
  pub raw : w.raw ≡ v.raw
  pub shown : Shows p n v
  pub led : StillLed p n v
