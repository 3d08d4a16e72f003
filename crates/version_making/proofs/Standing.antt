-- What stands goes on to stand where the seat keeps a reference.
use Rattle.std.proofs.Common.{◌≡◌, ℕ, ◌+◌, ◌≤◌, List, refl, ap, sym, ◌∙◌, subst, arith}
use Rattle.std.specs.Prelude.{Option, Some, None, slice_index}
use Rattle.map_law.specs.plain_state.declared.slot.SlotId.{SlotId}
use Rattle.map_law.specs.plain_state.Lists.{times}
use Rattle.map_law.specs.plain_protocol.Owns.{Object}
use Rattle.map_law.specs.declared.view.Kid.{Kid}
use Rattle.map_law.specs.declared.view.View.{View}
use Rattle.map_law.specs.Views.{In, note}
use Rattle.map_law.specs.Nodes.{IsNode}
use Rattle.map_law.specs.Patterns.{Pattern, branch, hole, null, Spells}
use Rattle.map_law.specs.Plans.{height_of}
use Rattle.map_law.proofs.Growing.{spells_more}
use Rattle.map_law.proofs.Kit.{none_some, some_same}
use Rattle.slot_store.proofs.Below.core_law_Kit.{one_same}
use Rattle.slot_store.specs.counted_handles.Handles.{Handle}
use Rattle.slot_store.specs.domain_rule.Views.{object_in}
use Rattle.slot_store.specs.acquire_retire.Seats.{SeatState}
use Rattle.version_making.specs.Building.{height_by}
use Rattle.version_making.specs.Keeping.{Grows, Keeps, of_handle}
use Rattle.version_making.specs.Standing.{IsSolid, IsTree, Stands, kid_by, node_in}

-- where the views grow, notes spell what they spelled
pub spells_on : (v w : View) → Grows v w → (k : Option Kid) (pat : Pattern) → Spells v k pat → Spells w k pat
spells_on v w grows = spells_more v w grows.led

-- the seat keeps a reference beside those that a call gives
abbrev pub IsKept : (SlotId → ℕ) → Option Handle → SeatState View → Type 0
IsKept given k a = (x : SlotId) → given x + of_handle k x ≤ times x a.view.core.owned

module _ (m n : ℕ) (given gained : SlotId → ℕ) (a b : SeatState View)
    (keeps : Keeps m n given gained a b) where
  pub object_still : (s : SlotId) → IsKept given (Some (record { slot = s })) a
      → object_in b.view s ≡ object_in a.view s
  object_still s kept =
      let k = kept s in let one' = one_same s s refl in keeps.knows s (omega (arith, k, one'))

  pub solid_still : (s : SlotId) → IsKept given (Some (record { slot = s })) a → IsSolid s a
      → IsSolid s b
  solid_still s kept solid =
      let same = object_still s kept in record {
        node = subst (λ (o : Object). IsNode o.payload) (sym same) solid.node;
        known = keeps.grows.solid (note s (object_in b.view s).life)
            (subst (λ (o : Object). In (note s o.life) a.view.client.solid) (sym same) solid.known);
      }

  pub tree_still : (k : Option Handle) → IsKept given k a → IsTree k a → IsTree k b
  tree_still None kept tree = tt
  tree_still (Some h) kept tree = solid_still h.slot kept tree

  pub kid_still : (k : Option Handle) → IsKept given k a → kid_by k b ≡ kid_by k a
  kid_still None kept = refl
  kid_still (Some h) kept =
      ap (λ (o : Object). Some (Rattle.map_law.specs.Patterns.kid_of h.slot o))
      (object_still h.slot kept)

  pub height_still : (k : Option Handle) → IsKept given k a → height_by k b ≡ height_by k a
  height_still None kept = refl
  height_still (Some h) kept =
      ap (λ (o : Object). slice_index o.payload 3) (object_still h.slot kept)

  pub stands_still : (k : Option Handle) (pat : Pattern) → IsKept given k a → Stands k pat a
      → Stands k pat b
  stands_still k pat kept stands = record {
    tree = tree_still k kept stands.tree;
    spells = subst (λ (x : Option Kid). Spells b.view.client x pat) (sym (kid_still k kept))
        (spells_on a.view.client b.view.client keeps.grows (kid_by k a) pat stands.spells);
  }

-- the height that a pattern tells is that which the node keeps
pub stands_height : (k : Option Handle) (pat : Pattern) (seat : SeatState View) → Stands k pat seat
    → height_by k seat ≡ height_of pat
stands_height None null seat stands = refl
stands_height None (hole s d) seat stands = absurd (none_some stands.spells.0 stands.spells.1)
stands_height None (branch key value d l r) seat stands =
    absurd (none_some stands.spells.0 stands.spells.1)
stands_height (Some h) null seat stands = absurd (none_some (node_in h.slot seat) (sym stands.spells))
stands_height (Some h) (hole s d) seat stands =
    let is = some_same (node_in h.slot seat) stands.spells.0 stands.spells.1 in
    ap (λ (x : Kid). slice_index x.payload 3) is
    ∙ ap (λ (x : List ℕ). slice_index x 3) stands.spells.3.2
stands_height (Some h) (branch key value d l r) seat stands =
    let is = some_same (node_in h.slot seat) stands.spells.0 stands.spells.1 in
    ap (λ (x : Kid). slice_index x.payload 3) is
    ∙ ap (λ (x : List ℕ). slice_index x 3) stands.spells.2
