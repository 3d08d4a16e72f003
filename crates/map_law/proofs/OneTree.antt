-- A place leads to one tree.
use Rattle.std.proofs.Common.{◌≡◌, ℕ, List, refl, ap, sym, ◌∙◌, subst}
use Rattle.std.specs.Prelude.{Option, slice_index}
use Rattle.plain_protocol.specs.plain_state.declared.slot.SlotId.{SlotId}
use Rattle.plain_protocol.specs.plain_state.State.{Plain, slot_at}
use Rattle.map_trees.specs.Trees.{Tree, leaf, node}
use Rattle.map_law.specs.Nodes.{TreeAt, words}
use Rattle.map_law.proofs.Kit.{none_some, some_same}

pub same_node : (k k' v v' h h' : ℕ) (a a' b b' : Tree) → k ≡ k' → v ≡ v' → h ≡ h' → a ≡ a' → b ≡ b'
    → node k v h a b ≡ node k' v' h' a' b'
same_node k k' v v' h h' a a' b b' x y z u w = rw x rw y rw z rw u rw w refl

pub one_tree : (p : Plain) (w : Option SlotId) (t u : Tree) → TreeAt p w t → TreeAt p w u → t ≡ u
one_tree p w leaf leaf a b = refl
one_tree p w leaf (node k v h l r) a b = absurd (none_some b.0 (sym a ∙ b.1))
one_tree p w (node k v h l r) leaf a b = absurd (none_some a.0 (sym b ∙ a.1))
one_tree p w (node k v h l r) (node k' v' h' l' r') a b =
    let s : SlotId = a.0 in
    let same : b.0 ≡ s = some_same b.0 s (sym b.1 ∙ a.1) in
    let payload : words k v h ≡ words k' v' h' =
    sym a.2 ∙ subst (λ (z : SlotId). (slot_at p z).payload ≡ words k' v' h') same b.2 in
    same_node k k' v v' h h' l l' r r' (ap (λ (x : List ℕ). slice_index x 1) payload)
    (ap (λ (x : List ℕ). slice_index x 2) payload) (ap (λ (x : List ℕ). slice_index x 3) payload)
    (one_tree p (slot_at p s).first l l' a.3 (subst (λ (z : SlotId). TreeAt p (slot_at p z).first l') same b.3))
    (one_tree p (slot_at p s).second r r' a.4 (subst (λ (z : SlotId). TreeAt p (slot_at p z).second r') same b.4))
