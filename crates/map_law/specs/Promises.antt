-- What the law promises, read off the plain state and the views.
use Rattle.std.specs.Prelude.{◌≡◌, ◌≢◌, ℕ, ◌<◌, List, sum_by, None}
use Rattle.plain_protocol.specs.plain_state.declared.act.EventPlace.TheVariants.{Cell}
use Rattle.plain_protocol.specs.plain_state.declared.slot.Kind.TheVariants.{Strong}
use Rattle.plain_protocol.specs.plain_state.declared.slot.SlotId.{SlotId}
use Rattle.plain_protocol.specs.plain_state.declared.slot.Stage.TheVariants.{Live, Ended}
use Rattle.plain_protocol.specs.plain_state.Lists.{times}
use Rattle.plain_protocol.specs.plain_state.State.{Plain, slot_at}
use Rattle.plain_protocol.specs.plain_state.Places.{content}
use Rattle.plain_protocol.specs.plain_state.References.{over_seats, deferrals, strong_refs}
use Rattle.map_trees.specs.Trees.{Tree, pairs, Shaped}
use Rattle.map_trees.specs.declared.change.Entry.{Entry}
use Rattle.map_law.specs.Views.{View, view_at}
use Rattle.map_law.specs.Nodes.{IsNode, TreeAt, Inside, HasKey, key_at, root}
use Rattle.map_law.specs.Orders.{tagged}

-- no seat owns a reference, none is deferred, and no other cell holds one; nothing waits to be destroyed, what lives is
-- referred to, and every object is a node
pub record Settled (c : ℕ) (p : Plain) : Type 0 where
  pub owned : (s : SlotId) → over_seats (λ v. times s v.owned) p.seats ≡ 0
  pub deferred : (s : SlotId) → deferrals Strong p s ≡ 0
  pub cells : (i : ℕ) → i ≢ c → content p (Cell i) ≡ None
  pub ended : (s : SlotId) → (slot_at p s).stage ≢ Ended
  pub live : (s : SlotId) → (slot_at p s).stage ≡ Live → 0 < strong_refs p s
  pub nodes : (s : SlotId) → (slot_at p s).stage ≡ Live → IsNode (slot_at p s).payload

-- the root cell leads to one tree, a search tree that is balanced
abbrev pub HasTree : ℕ → Plain → Type 0
HasTree c p =
    (t : Tree) × TreeAt p (root p c) t × Shaped t
    × ((u : Tree) → TreeAt p (root p c) u → u ≡ t)

-- what lives are the nodes of this tree, one for each of its keys
pub record Remains (c : ℕ) (p : Plain) (t : Tree) : Type 0 where
  pub inside : (s : SlotId) → (slot_at p s).stage ≡ Live → Inside p (root p c) t s
  pub lives : (s : SlotId) → Inside p (root p c) t s → (slot_at p s).stage ≡ Live
  pub keys : (s : SlotId) → (slot_at p s).stage ≡ Live → HasKey (key_at p s) (pairs t)
  pub each : (key : ℕ) → HasKey key (pairs t)
      → (s : SlotId) × ((slot_at p s).stage ≡ Live) × (key_at p s ≡ key)
  pub one : (s r : SlotId) → (slot_at p s).stage ≡ Live → (slot_at p r).stage ≡ Live
      → key_at p s ≡ key_at p r → s ≡ r

-- the view of seat 0 has all entries: those of each seat in their order, and each as often
pub record KnowsAll (views : List View) (all : List Entry) : Type 0 where
  pub own : (n : ℕ) → tagged n (view_at views 0).entries ≡ tagged n all
  pub many : (f : Entry → ℕ) → sum_by f (view_at views 0).entries ≡ sum_by f all
