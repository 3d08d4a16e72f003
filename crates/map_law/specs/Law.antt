-- The law of an ordered map of versions: trees of nodes that don't change once they stand in one.
use Rattle.std.specs.Prelude.{◌≡◌, ◌≢◌, ◌⊎◌, ℕ, ◌<◌, ◌≤◌, true, List, length, Some}
use Rattle.plain_protocol.specs.plain_state.declared.slot.SlotId.{SlotId}
use Rattle.plain_protocol.specs.plain_state.State.{Plain, seat_at, slot_at}
use Rattle.plain_protocol.specs.Acts.{Owned}
use Rattle.map_trees.specs.Trees.{Tree, pairs, Shaped}
use Rattle.map_law.specs.Views.{View, gone, view_at, fresh}
use Rattle.map_law.specs.Nodes.{root, IsNode, TreeAt, LiveNode, Leads}
use Rattle.map_law.specs.Learnt.{Learnt}
use Rattle.map_law.specs.Orders.{Orders}

-- what the map owns: the root cell, and the nodes
abbrev pub owns : ℕ → Owned
owns c = record { cell = λ i. i ≡ c; weak_cell = λ i. ⊥; payload = IsNode; tickets = ⊥ }

pub record MapLaw (c : ℕ) (p : Plain) (views : List View) : Type 0 where
  -- the root cell leads to a search tree that is balanced
  pub tree : Tree
  pub is : TreeAt p (root p c) tree
  pub shaped : Shaped tree
  -- each live node is the root of a tree; so no node reaches itself
  pub trees : (s : SlotId) → LiveNode p s → (t : Tree) × TreeAt p (Some s) t
  -- what stands in a field of a node, or in the root cell, is raw for nobody
  pub loose : (t s : SlotId) → LiveNode p t → Leads p t s → fresh views s (slot_at p s).life ≡ 0
  pub stands : (s : SlotId) → root p c ≡ Some s → fresh views s (slot_at p s).life ≡ 0
  -- a life is noted as raw by one seat, once, and has begun
  pub once : (s : SlotId) (l : ℕ) → fresh views s l ≤ 1
  pub lives : (s : SlotId) (l : ℕ) → 0 < fresh views s l → l ≤ (slot_at p s).life
  -- what seats have noted is so
  pub learnt : (n : ℕ) → Learnt p views (view_at views n)
  -- a view tells its seat's number; the entries of all views have one order
  pub number : (n : ℕ) → (view_at views n).here ≡ true → (view_at views n).number ≡ n
  pub orders : Orders views (pairs tree) (view_at views 0).cleared
  -- who has left knows nothing; once the root cell is cleared, all others have left
  pub left : (m : ℕ) → (length p.seats ≤ m) ⊎ ((seat_at p m).left ≡ true)
      → view_at views m ≡ gone
  pub closed : (view_at views 0).cleared ≡ true → (m : ℕ) → m ≢ 0 → view_at views m ≡ gone
