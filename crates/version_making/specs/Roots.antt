-- The deed by which a seat loads the root of a version.
use Rattle.std.proofs.Common.{◌≡◌, ℕ, sym, ◌∙◌, subst}
use Rattle.std.specs.Prelude.{Option, Some}
use Rattle.map_law.specs.plain_state.declared.slot.SlotId.{SlotId}
use Rattle.map_law.specs.plain_state.State.{Plain, slot_at}
use Rattle.map_law.specs.plain_protocol.Laws.{Keeps}
use Rattle.map_law.specs.map_trees.Trees.{Tree, leaf, node}
use Rattle.map_law.specs.declared.view.View.{View}
use Rattle.map_law.specs.Views.{gone}
use Rattle.map_law.specs.Nodes.{IsNode, TreeAt, root}
use Rattle.map_law.specs.Law.{MapLaw}
use Rattle.map_law.specs.Lessons.{SeeReady, SeeTells, see_next}
use Rattle.map_law.proofs.Kit.{none_some, some_same}
use Rattle.map_law.proofs.Lessons.{see_keeps}

-- what stands in the root cell is a node
abbrev pub RootIsNode : ℕ → Plain → Type 0
RootIsNode c p = (s : SlotId) → root p c ≡ Some s → IsNode (slot_at p s).payload

abbrev pub RootTells : ℕ → Plain → Plain → ℕ → View → View → Type 0
RootTells c p q n v w = SeeTells c p q n v w × RootIsNode c p

tree_node : (p : Plain) (w : Option SlotId) (t : Tree) → TreeAt p w t → (s : SlotId) → w ≡ Some s
    → IsNode (slot_at p s).payload
tree_node p w leaf at s is = absurd (none_some s (sym at ∙ is))
tree_node p w (node k v h l r) at s is =
    let same : at.0 ≡ s = some_same at.0 s (sym at.1 ∙ is) in
    subst (λ (x : SlotId). IsNode (slot_at p x).payload) same (k, v, h, at.2)

pub root_keeps : (c : ℕ) → Keeps (MapLaw c) gone (SeeReady c) see_next (RootTells c)
root_keeps c p q views n step found meets low ready does =
    let kept = see_keeps c p q views n step found meets low ready does in
    (kept.0, (kept.1, tree_node p (root p c) meets.law.tree meets.law.is))
