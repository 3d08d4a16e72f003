-- The least pair of a subtree is taken out of it: one level, and two subtrees that become one.
use Rattle.std.proofs.Common.{◌≡◌, ℕ, suc, ◌<◌, ◌≤◌, ap, sym, ◌∙◌, subst, arith}
use Rattle.std.specs.Prelude.{◌^◌, Some}
use Rattle.map_law.specs.plain_state.declared.slot.SlotId.{SlotId}
use Rattle.map_trees.specs.Trees.{Pair, Tree, pair, Balanced, height}
use Rattle.map_trees.specs.Balance.{first_of, glue, join, rest_of}
use Rattle.map_law.specs.Patterns.{Fits, Pattern, branch, filled}
use Rattle.map_law.specs.Plans.{height_of, joins}
use Rattle.map_law.proofs.Plans.{height_is, joins_is}
use Rattle.version_changes.proofs.Altered.{rest_loses}
use Rattle.version_changes.proofs.Levels.{Planned}
use Rattle.version_changes.proofs.Shown.{low_is}

-- a pair and a rest are the least pair of a node over two patterns, and the tree without it
abbrev pub IsRest : ℕ → ℕ → ℕ → Pattern → Pattern → ℕ → ℕ → Pattern → Type 0
IsRest root found high left right key value after =
    (trees : SlotId → Tree) → Fits trees left → Fits trees right
    → Balanced (filled trees (branch root found high left right)) → high < 2 ^ 62
    → Fits trees after
    × (pair key value ≡ first_of root found (filled trees left))
    × (filled trees after ≡ rest_of root found (filled trees left) (filled trees right))

module _ (root found high : ℕ) (left right : Pattern) (key value : ℕ) (after : Pattern)
    (rest : IsRest root found high left right key value after) (trees : SlotId → Tree)
    (fl : Fits trees left) (fr : Fits trees right)
    (balanced : Balanced (filled trees (branch root found high left right))) (low : high < 2 ^ 62) where
  abbrev whole : Tree
  whole = rest_of root found (filled trees left) (filled trees right)

  after_balanced : Balanced (filled trees after)
  after_balanced =
      subst Balanced (sym (rest trees fl fr balanced low).2)
      (rest_loses root found high (filled trees left) (filled trees right) balanced).balanced

  -- the rest is lower by one level at most
  after_high : (height_of after ≤ high) × (high ≤ suc (height_of after))
  after_high =
      let is = rest trees fl fr balanced low in
      let h = height_is trees after is.0 in
      let e : height (filled trees after) ≡ height whole = ap height is.2 in
      let lost = rest_loses root found high (filled trees left) (filled trees right) balanced in
      let x = lost.low in let y = lost.high in
      (omega (arith, h, e, y), omega (arith, h, e, x))

-- a node over the subtree from which it was taken
pub least_level : (k v h : ℕ) (root found high : ℕ) (left right r : Pattern) (key value : ℕ)
    (after joined : Pattern) → IsRest root found high left right key value after
    → Planned (λ b. joins k v after b) after r joined
    → IsRest k v h (branch root found high left right) r key value joined
least_level k v h root found high left right r key value after joined rest planned trees fits fr bal low =
    let b0 = bal.0 in let b1 = bal.1 in let b2 = bal.2 in
    let hr = height_is trees r fr in
    let lower : high < 2 ^ 62 = omega (arith, b0, low) in
    let is = rest trees fits.0 fits.1 bal.3 lower in
    let ah = after_high root found high left right key value after rest trees fits.0 fits.1 bal.3 lower in
    let a0 = ah.0 in
    let e : joins k v after r ≡ Some joined =
    planned (λ (up : suc (height_of r) < height_of after). absurd (omega (arith, up, a0, b1, hr)))
    (low_is trees after is.0
    (after_balanced root found high left right key value after rest trees fits.0 fits.1 bal.3 lower)
    (omega (arith, a0, lower)))
    (low_is trees r fr bal.4 (omega (arith, hr, b0, low))) in
    let ji = joins_is trees k v after r joined is.0 fr e in
    (ji.1, is.1, ji.0 ∙ ap (λ (t : Tree). join k v t (filled trees r)) is.2)

-- two subtrees, over which the least pair of the right one comes up
pub glue_level : (root found high : ℕ) (l left right : Pattern) (key value : ℕ)
    (after joined : Pattern) → IsRest root found high left right key value after
    → Planned (λ b. joins key value b after) after l joined
    → (trees : SlotId → Tree) → Fits trees l → Fits trees (branch root found high left right)
    → Balanced (filled trees l) → Balanced (filled trees (branch root found high left right))
    → height_of l ≤ suc high → high ≤ suc (height_of l) → height_of l < 2 ^ 62 → high < 2 ^ 62
    → Fits trees joined × (filled trees joined
    ≡ glue (filled trees l) (filled trees (branch root found high left right)))
glue_level root found high l left right key value after joined rest planned trees fl fits bl bal x y low lower =
    let is = rest trees fits.0 fits.1 bal lower in
    let ah = after_high root found high left right key value after rest trees fits.0 fits.1 bal lower in
    let a0 = ah.0 in
    let e : joins key value l after ≡ Some joined =
    planned (λ (up : suc (height_of l) < height_of after). absurd (omega (arith, up, a0, y)))
    (low_is trees after is.0
    (after_balanced root found high left right key value after rest trees fits.0 fits.1 bal lower)
    (omega (arith, a0, lower)))
    (low_is trees l fl bl (omega (arith, low))) in
    let ji = joins_is trees key value l after joined fl is.0 e in (
      ji.1,
      ji.0 ∙ (ap (λ (t : Tree). join key value (filled trees l) t) is.2
          ∙ ap (λ (p : Pair). join p.key p.value (filled trees l)
          (rest_of root found (filled trees left) (filled trees right))) is.1),
    )
