-- What a search finds on a way down a tree is the least pair of the tree, and no way is longer than the tree is high.
use Rattle.std.proofs.Common.{◌≡◌, ℕ, suc, ◌<◌, ◌≤◌, List, [], ◌∷◌, refl, ap, sym, ◌∙◌, subst, arith}
use Rattle.std.specs.Prelude.{max, Option, Some, None, slice_index}
use Rattle.map_law.specs.plain_state.declared.slot.SlotId.{SlotId}
use Rattle.map_law.specs.plain_state.State.{Plain}
use Rattle.map_law.specs.plain_protocol.Owns.{HasSlot}
use Rattle.map_trees.specs.Trees.{AllBelow, Balanced, Pair, Shaped, Tree, depth, height, leaf, node, pair, pairs}
use Rattle.map_trees.specs.Maps.{next, or_else}
use Rattle.map_law.specs.Patterns.{kid_of}
use Rattle.map_trees.proofs.Changing.{shaped_parts}
use Rattle.map_trees.proofs.Lists.{lt_false, lt_true, parts}
use Rattle.map_trees.proofs.Nexts.{next_at}
use Rattle.protected_loads.specs.core_events.Shows.{show_seat}
use Rattle.protected_loads.specs.domain_rule.Views.{object_in}
use Rattle.protected_loads.specs.acquire_retire.Seats.{SeatState}
use Rattle.map_law.specs.declared.view.View.{View}
use Rattle.version_reading.specs.Ways.{Way, ends, stops, left, right, Passes, Seeks, levels}
use Rattle.version_reading.specs.Reading.{HasNext, HasNode, IsLonger, KnowsRoot, Sought}
use Rattle.version_reading.proofs.Walking.{node_has, node_words}

-- all keys below this one are none of those from it on
next_none : (k : ℕ) (xs : List Pair) → AllBelow k xs → next k xs ≡ None
next_none k [] below = refl
next_none k (x ∷ xs) below = let c = lt_true x.key k below.0 in rw c (next_none k xs below.1)

-- at a node, by the side to which its key leads
module _ (k a d h : ℕ) (l r : Tree) (best : Option Pair) (s : Shaped (node a d h l r)) where
  next_left : k ≤ a → or_else (next k (pairs (node a d h l r))) best
      ≡ or_else (next k (pairs l)) (Some (pair a d))
  next_left low = let c = lt_false a k low in next_at k a d h l r best s ∙ rw c refl

  next_right : a < k → or_else (next k (pairs (node a d h l r))) best ≡ or_else (next k (pairs r)) best
  next_right low = let c = lt_true a k low in next_at k a d h l r best s ∙ rw c refl

  next_here : a ≡ k → or_else (next k (pairs (node a d h l r))) best ≡ Some (pair a d)
  next_here same =
      let below = (parts (pairs l) (pair a d) (pairs r) s.0).below in
      let none = next_none k (pairs l) (subst (λ (n : ℕ). AllBelow n (pairs l)) same below) in
      next_left (omega (arith, same))
      ∙ ap (λ (o : Option Pair). or_else o (Some (pair a d))) none

pub seeks_next : (way : Way) (k : ℕ) (best x : Option Pair) (t : Tree) → Shaped t → Passes way t
    → Seeks k best way x → or_else (next k (pairs t)) best ≡ x
seeks_next ends k best x t s at found =
    subst (λ (u : Tree). or_else (next k (pairs u)) best ≡ x) (sym at) (sym found)
seeks_next (stops a d h) k best x t s at found =
    let shaped = subst Shaped at.2 s in
    subst (λ (u : Tree). or_else (next k (pairs u)) best ≡ x) (sym at.2)
    (next_here k a d h at.0 at.1 best shaped found.0 ∙ sym found.1)
seeks_next (left a d h way) k best x t s at found =
    let shaped = subst Shaped at.2 s in
    let ps = shaped_parts a d h at.0 at.1 shaped in
    subst (λ (u : Tree). or_else (next k (pairs u)) best ≡ x) (sym at.2)
    (next_left k a d h at.0 at.1 best shaped found.0
    ∙ seeks_next way k (Some (pair a d)) x at.0 ps.0 at.3 found.1)
seeks_next (right a d h way) k best x t s at found =
    let shaped = subst Shaped at.2 s in
    let ps = shaped_parts a d h at.0 at.1 shaped in
    subst (λ (u : Tree). or_else (next k (pairs u)) best ≡ x) (sym at.2)
    (next_right k a d h at.0 at.1 best shaped found.0
    ∙ seeks_next way k best x at.1 ps.1 at.3 found.1)

or_none : (a : Option Pair) → or_else a None ≡ a
or_none None = refl
or_none (Some a) = refl

-- HEIGHTS
levels_deep : (way : Way) (t : Tree) → Passes way t → levels way ≤ depth t
levels_deep ends t at = omega arith
levels_deep (stops a d h) t at =
    let e : depth t ≡ suc (max (depth at.0) (depth at.1)) = ap depth at.2 in omega (arith, e)
levels_deep (left a d h way) t at =
    let e : depth t ≡ suc (max (depth at.0) (depth at.1)) = ap depth at.2 in
    let i = levels_deep way at.0 at.3 in omega (arith, e, i)
levels_deep (right a d h way) t at =
    let e : depth t ≡ suc (max (depth at.0) (depth at.1)) = ap depth at.2 in
    let i = levels_deep way at.1 at.3 in omega (arith, e, i)

depth_high : (t : Tree) → Balanced t → depth t ≤ height t
depth_high leaf b = omega arith
depth_high (node a d h l r) b =
    let x = depth_high l b.3 in let y = depth_high r b.4 in let e = b.0 in omega (arith, x, y, e)

-- WHERE THE CELL SHOWS THE ROOT that was read
module _ (c : ℕ) (r : SlotId) (seat : SeatState View) (p : Plain)
    (knows : KnowsRoot c (Some r) seat p) (held : HasNode r seat) where
  has : HasSlot (show_seat seat.view.core) r
  has = node_has seat r held

  -- what was found is the map's
  pub next_is : (key : ℕ) (found : Option Pair) → Sought r key found seat
      → next key (pairs knows.tree) ≡ found
  next_is key found sought =
      sym (or_none (next key (pairs knows.tree)))
      ∙ seeks_next sought.way key None found knows.tree knows.shaped
      (knows.ways r refl has sought.way sought.tells) sought.seeks

  pub next_found : (key : ℕ) (found : Option Pair) → Sought r key found seat → HasNext c key found p
  next_found key found sought =
      (knows.tree, knows.is, knows.shaped, next_is key found sought)

  -- and the way wasn't longer than the root's height tells
  pub not_longer : IsLonger r (slice_index (object_in seat.view r).payload 3) seat → ⊥
  not_longer longer =
      let o = object_in seat.view r in
      let at = knows.ways r refl has longer.way longer.tells in
      let here = knows.ways r refl has
      (stops (slice_index o.payload 1) (slice_index o.payload 2) (slice_index o.payload 3))
      (kid_of r o, refl, node_words o held.node) in
      let deep = levels_deep longer.way knows.tree at in
      let high = depth_high knows.tree knows.shaped.1 in
      let is : height knows.tree ≡ slice_index o.payload 3 = ap height here.2 in
      let more = longer.longer in absurd (omega (arith, deep, high, is, more))
