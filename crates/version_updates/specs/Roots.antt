-- The deed by which a seat loads a root, and what it knows of that root's height.
use Rattle.std.proofs.Common.{◌≡◌, ℕ, ◌<◌, ◌≤◌, ◌^◌, length, ap, sym, ◌∙◌, subst}
use Rattle.std.specs.Prelude.{Option, Some}
use Rattle.map_law.specs.plain_state.declared.slot.SlotId.{SlotId}
use Rattle.map_law.specs.plain_state.State.{Plain, slot_at}
use Rattle.map_law.specs.plain_protocol.Laws.{Keeps}
use Rattle.map_trees.specs.Trees.{Tree, Balanced, leaf, node}
use Rattle.map_law.specs.declared.view.View.{View}
use Rattle.map_law.specs.Views.{gone}
use Rattle.map_law.specs.Nodes.{TreeAt, root}
use Rattle.map_law.specs.Law.{MapLaw}
use Rattle.map_law.specs.Lessons.{SeeReady, see_next}
use Rattle.map_law.proofs.Kit.{none_some, some_same}
use Rattle.slot_store.specs.core_events.declared.shape.Shape.{Shape}
use Rattle.slot_store.specs.core_events.Steps.{IsContent}
use Rattle.slot_store.specs.counted_handles.Handles.{Handle}
use Rattle.slot_store.specs.acquire_retire.Seats.{SeatState}
use Rattle.atomic_shared.specs.Places.{named}
use Rattle.version_making.specs.Building.{height_by}
use Rattle.version_making.specs.Roots.{RootTells, root_keeps}
use Rattle.version_making.specs.Standing.{IsTree}
use Rattle.version_updates.specs.Heights.{height_few, height_word}

-- a root that was loaded: nobody changes it, the domain has its slot, and its height is below 2^62
pub record IsLowRoot (z : Shape) (root : Option Handle) (seat : SeatState View) : Type 0 where
  pub tree : IsTree root seat
  pub inside : IsContent z (named root)
  pub low : height_by root seat < 2 ^ 62

-- what stands in the root cell isn't higher than there are slots
abbrev pub RootIsLow : ℕ → Plain → Type 0
RootIsLow c p = (s : SlotId) → root p c ≡ Some s → height_word (slot_at p s) ≤ length p.slots

abbrev pub LowTells : ℕ → Plain → Plain → ℕ → View → View → Type 0
LowTells c p q n v w = RootTells c p q n v w × RootIsLow c p

tree_low : (p : Plain) (w : Option SlotId) (t : Tree) → TreeAt p w t → Balanced t → (s : SlotId)
    → w ≡ Some s → height_word (slot_at p s) ≤ length p.slots
tree_low p w leaf at even s is = absurd (none_some s (sym at ∙ is))
tree_low p w (node k v h l r) at even s is =
    let same : at.0 ≡ s = some_same at.0 s (sym at.1 ∙ is) in
    let few = height_few p w (node k v h l r) at even in
    subst (λ (x : SlotId). height_word (slot_at p x) ≤ length p.slots) same
    (subst (λ (n : ℕ). n ≤ length p.slots) (ap (λ ns. Rattle.std.specs.Prelude.slice_index ns 3) (sym at.2)) few)

pub low_keeps : (c : ℕ) → Keeps (MapLaw c) gone (SeeReady c) see_next (LowTells c)
low_keeps c p q views n step found meets low ready does =
    let kept = root_keeps c p q views n step found meets low ready does in (
      kept.0,
      (
        kept.1,
        tree_low p (root p c) meets.law.tree meets.law.is meets.law.shaped.1,
      ),
    )
