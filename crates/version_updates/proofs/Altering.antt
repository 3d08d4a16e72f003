-- An altered version is one with the change.
use Rattle.std.proofs.Common.{◌≡◌, ℕ, ◌<◌, ◌^◌, List, refl, ap, sym, ◌∙◌, subst}
use Rattle.std.specs.Prelude.{Option, Some, None, slice_index}
use Rattle.map_trees.specs.declared.change.Change.{Change}
use Rattle.map_trees.specs.Trees.{Shaped, pairs}
use Rattle.map_trees.proofs.Changing.{alters}
use Rattle.map_law.specs.declared.view.Kid.{Kid}
use Rattle.map_law.specs.declared.view.View.{View}
use Rattle.map_law.specs.Patterns.{IsChange, Pattern, Spells, branch, filled, hole, null}
use Rattle.map_law.specs.Plans.{height_of}
use Rattle.map_law.proofs.Kit.{none_some, some_same}
use Rattle.map_law.proofs.Plans.{height_is}
use Rattle.slot_store.specs.counted_handles.Handles.{Handle}
use Rattle.slot_store.specs.acquire_retire.Seats.{SeatState}
use Rattle.version_making.specs.Building.{height_by}
use Rattle.version_making.specs.Standing.{Stands, kid_by, node_in}
use Rattle.version_updates.specs.Changes.{IsAltered}
use Rattle.version_updates.specs.Publishing.{MakesVersion}
use Rattle.version_updates.specs.declared.update.Update.{Update}

pub change_is : (old new : Pattern) (key : ℕ) (change : Change) (answer : Option ℕ)
    → height_of old < 2 ^ 62 → IsAltered old new key change answer
    → IsChange old new key change answer
change_is old new key change answer low altered trees fits news shaped =
    let is = altered trees fits shaped
    (subst (λ (h : ℕ). h < 2 ^ 62) (sym (height_is trees old fits)) low) in
    let alters' = alters key change (filled trees old) shaped in (
      subst Shaped (sym is.1) alters'.0,
      is.2,
      ap pairs is.1 ∙ alters'.1,
    )

-- the height that a pattern tells is that which the root keeps
pub root_height : (root : Option Handle) (seat : SeatState View) (v : View) (pat : Pattern)
    → Spells v (kid_by root seat) pat → height_of pat ≡ height_by root seat
root_height None seat v null spells = refl
root_height None seat v (hole s d) spells = absurd (none_some spells.0 spells.1)
root_height None seat v (branch key value d l r) spells = absurd (none_some spells.0 spells.1)
root_height (Some h) seat v null spells = absurd (none_some (node_in h.slot seat) (sym spells))
root_height (Some h) seat v (hole s d) spells =
    let is = some_same (node_in h.slot seat) spells.0 spells.1 in
    sym (ap (λ (x : Kid). slice_index x.payload 3) is
    ∙ ap (λ (x : List ℕ). slice_index x 3) spells.3.2)
root_height (Some h) seat v (branch key value d l r) spells =
    let is = some_same (node_in h.slot seat) spells.0 spells.1 in
    sym (ap (λ (x : Kid). slice_index x.payload 3) is
    ∙ ap (λ (x : List ℕ). slice_index x 3) spells.2)

-- a version that was made of a low root, which the seat has kept
pub version_made : (root new : Option Handle) (u : Update) (a b : SeatState View)
    (before after : Pattern) → height_by root a < 2 ^ 62 → kid_by root b ≡ kid_by root a
    → Spells b.view.client (kid_by root a) before → Stands new after b
    → IsAltered before after u.key u.change u.answer → MakesVersion root new u b
version_made root new u a b before after low same spells stands altered = record {
  old_pattern = before;
  new_pattern = after;
  spells = subst (λ (k : Option Kid). Spells b.view.client k before) (sym same) spells;
  stands = stands;
  is_change = change_is before after u.key u.change u.answer
      (subst (λ (h : ℕ). h < 2 ^ 62) (sym (root_height root a b.view.client before spells)) low)
      altered;
}
