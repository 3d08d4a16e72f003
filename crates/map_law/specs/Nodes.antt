-- Nodes and trees in the state.
use Rattle.std.specs.Prelude.{◌≡◌, ◌⊎◌, ℕ, ◌==◌, List, [], ◌∷◌, slice_index, if◌then◌else◌, Option, Some, None}
use Rattle.plain_protocol.specs.plain_state.declared.act.EventPlace.TheVariants.{Cell}
use Rattle.plain_protocol.specs.plain_state.declared.slot.PlainSlot.{PlainSlot}
use Rattle.plain_protocol.specs.plain_state.declared.slot.SlotId.{SlotId}
use Rattle.plain_protocol.specs.plain_state.declared.slot.Stage.TheVariants.{Live}
use Rattle.plain_protocol.specs.plain_state.State.{Plain, slot_at}
use Rattle.plain_protocol.specs.plain_state.Places.{content}
use Rattle.map_trees.specs.Trees.{Tree, leaf, node, Pair}
use Rattle.map_law.specs.Views.{Kid}

-- what the root cell holds
abbrev pub root : Plain → ℕ → Option SlotId
root p c = content p (Cell c)

-- the payload of a node: 1, its key, its value and its height, then zeros
abbrev pub words : ℕ → ℕ → ℕ → List ℕ
words k v h = 1 ∷ k ∷ v ∷ h ∷ 0 ∷ 0 ∷ 0 ∷ 0 ∷ 0 ∷ 0 ∷ 0 ∷ 0 ∷ 0 ∷ 0 ∷ 0 ∷ 0 ∷ []

abbrev pub IsNode : List ℕ → Type 0
IsNode payload = (k : ℕ) × (v : ℕ) × (h : ℕ) × (payload ≡ words k v h)

-- a place that holds w leads to this tree: field 0 of a node to its left subtree, field 1 to its right one
abbrev pub TreeAt : Plain → Option SlotId → Tree → Type 0
TreeAt p w leaf = w ≡ None
TreeAt p w (node k v h l r) =
    (s : SlotId) × (w ≡ Some s) × ((slot_at p s).payload ≡ words k v h)
    × TreeAt p (slot_at p s).first l × TreeAt p (slot_at p s).second r

-- s is a node of the tree to which w leads
abbrev pub Inside : Plain → Option SlotId → Tree → SlotId → Type 0
Inside p w leaf s = ⊥
Inside p w (node k v h l r) s =
    (w ≡ Some s)
    ⊎ ((x : SlotId) × (w ≡ Some x)
    × (Inside p (slot_at p x).first l s ⊎ Inside p (slot_at p x).second r s))

-- a node that lives
abbrev pub LiveNode : Plain → SlotId → Type 0
LiveNode p s = ((slot_at p s).stage ≡ Live) × IsNode (slot_at p s).payload

-- a field of t holds s
abbrev pub Leads : Plain → SlotId → SlotId → Type 0
Leads p t s = ((slot_at p t).first ≡ Some s) ⊎ ((slot_at p t).second ≡ Some s)

-- the content of field i of a node
abbrev pub side : ℕ → PlainSlot → Option SlotId
side i x = if i == 0 then x.first else x.second

-- what holds w holds this node, in this life
abbrev pub Holds : Plain → Option Kid → Option SlotId → Type 0
Holds p None w = w ≡ None
Holds p (Some k) w =
    (w ≡ Some k.slot) × ((slot_at p k.slot).life ≡ k.life)
    × ((slot_at p k.slot).payload ≡ k.payload)

-- the key of the node in a slot, and that a list has a key
abbrev pub key_at : Plain → SlotId → ℕ
key_at p s = slice_index (slot_at p s).payload 1

abbrev pub HasKey : ℕ → List Pair → Type 0
HasKey k [] = ⊥
HasKey k (x ∷ xs) = (x.key ≡ k) ⊎ HasKey k xs

-- a step leaves the root cell as it was, and the whole tree that hangs on it
abbrev pub KeepsMap : ℕ → Plain → Plain → Type 0
KeepsMap c p q =
    (root q c ≡ root p c)
    × ((t : Tree) → TreeAt p (root p c) t → TreeAt q (root q c) t)
