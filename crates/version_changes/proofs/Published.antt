-- A change of patterns as a publishing asks for it, and ways that aren't longer than the tree is high.
use Rattle.std.proofs.Common.{ℕ, ◌<◌, ◌≤◌, ap, sym, ◌∙◌, subst, arith}
use Rattle.std.specs.Prelude.{◌^◌, Option}
use Rattle.map_law.specs.plain_state.declared.slot.SlotId.{SlotId}
use Rattle.map_trees.specs.Trees.{Balanced, Shaped, Tree, height, pairs}
use Rattle.map_trees.specs.declared.change.Change.{Change}
use Rattle.map_trees.proofs.Changing.{alters}
use Rattle.map_law.specs.Patterns.{Fits, IsChange, Pattern, branch, filled, hole, null}
use Rattle.map_law.specs.Plans.{height_of}
use Rattle.map_law.proofs.Plans.{height_is}
use Rattle.version_changes.specs.Changing.{Alters}
use Rattle.version_changes.specs.Showing.{HasNodes, most_nodes}

pub is_change : (key : ℕ) (change : Change) (answer : Option ℕ) (before after : Pattern)
    → Alters key change answer before after → height_of before < 2 ^ 62
    → IsChange before after key change answer
is_change key change answer before after is low trees fits fits_after shaped =
    let h = height_is trees before fits in
    let a = is trees fits shaped (omega (arith, h, low)) in
    let kept = alters key change (filled trees before) shaped in
    (subst Shaped (sym a.altered) kept.0, a.answered, ap pairs a.altered ∙ kept.1)

pub not_longer : (trees : SlotId → Tree) (p : Pattern) → Fits trees p → HasNodes trees p
    → Balanced (filled trees p) → most_nodes p ≤ height (filled trees p)
not_longer trees null fits nodes balanced = omega arith
not_longer trees (hole s h) fits nodes balanced = omega (arith, nodes)
not_longer trees (branch k v h l r) fits nodes balanced =
    let x = not_longer trees l fits.0 nodes.0 balanced.3 in
    let y = not_longer trees r fits.1 nodes.1 balanced.4 in
    let e = balanced.0 in omega (arith, x, y, e)
