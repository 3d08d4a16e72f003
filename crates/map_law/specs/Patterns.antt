-- What a seat knows of a tree, some subtrees of which it hasn't read.
use Rattle.std.specs.Prelude.{◌≡◌, ℕ, Option, Some, None}
use Rattle.plain_protocol.specs.plain_state.declared.slot.SlotId.{SlotId}
use Rattle.plain_protocol.specs.Owns.{Object, OwnPart}
use Rattle.map_trees.specs.Trees.{Tree, leaf, node, pairs, Shaped, height}
use Rattle.map_trees.specs.declared.change.Change.{Change}
use Rattle.map_trees.specs.Maps.{get, changed}
use Rattle.map_law.specs.Views.{Kid, Led, View, In, kid}
use Rattle.map_law.specs.Nodes.{words}

-- a pattern is null, a hole, of which the slot and the height are known, or a node over two patterns
pub data Pattern : Type 0 where
  null : Pattern
  hole : SlotId → ℕ → Pattern
  branch : ℕ → ℕ → ℕ → Pattern → Pattern → Pattern

-- the tree of a pattern, by the trees that stand at slots
abbrev pub filled : (SlotId → Tree) → Pattern → Tree
filled trees null = leaf
filled trees (hole s h) = trees s
filled trees (branch k v h l r) = node k v h (filled trees l) (filled trees r)

-- these trees have the heights that the holes tell
abbrev pub Fits : (SlotId → Tree) → Pattern → Type 0
Fits trees null = Unit {0}
Fits trees (hole s h) = height (trees s) ≡ h
Fits trees (branch k v h l r) = Fits trees l × Fits trees r

-- a view notes that field i of this life of a slot holds this kid
abbrev pub Notes : View → SlotId → ℕ → ℕ → Option Kid → Type 0
Notes v s l i k =
    (e : Led) × In e v.led × (e.slot ≡ s) × (e.life ≡ l) × (e.side ≡ i) × (e.kid ≡ k)

-- from this node on the notes of a view tell this pattern
abbrev pub Spells : View → Option Kid → Pattern → Type 0
Spells v k null = k ≡ None
Spells v k (hole s h) =
    (x : Kid) × (k ≡ Some x) × (x.slot ≡ s)
    × ((key : ℕ) × (value : ℕ) × (x.payload ≡ words key value h))
Spells v k (branch key value h l r) =
    (x : Kid) × (k ≡ Some x) × (x.payload ≡ words key value h)
    × ((a : Option Kid) × Notes v x.slot x.life 0 a × Spells v a l)
    × ((b : Option Kid) × Notes v x.slot x.life 1 b × Spells v b r)

-- the seat has this object in the slot
abbrev pub HasObject : OwnPart → SlotId → Object → Type 0
HasObject own s o = own.objects s ≡ Some o

abbrev pub kid_of : SlotId → Object → Kid
kid_of s o = kid s o.life o.payload

-- the node in a place that holds w, as the seat has it
abbrev pub IsKid : OwnPart → Option SlotId → Option Kid → Type 0
IsKid own None k = k ≡ None
IsKid own (Some s) k = (o : Object) × HasObject own s o × (k ≡ Some (kid_of s o))

-- whatever stands where neither was read: the new tree is a balanced search tree too, its list is the old one's with
-- the change, and the answer is what the key had
abbrev pub IsChange : Pattern → Pattern → ℕ → Change → Option ℕ → Type 0
IsChange old new key change answer =
    (trees : SlotId → Tree) → Fits trees old → Fits trees new → Shaped (filled trees old)
    → Shaped (filled trees new) × (answer ≡ get key (pairs (filled trees old)))
    × (pairs (filled trees new) ≡ changed key change (pairs (filled trees old)))
