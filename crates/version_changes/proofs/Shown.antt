-- Patterns that show enough to be joined, and what the joined one shows.
use Rattle.std.proofs.Common.{◌≡◌, ℕ, suc, ◌<◌, ◌≤◌, Bool, true, false, refl, ap, sym, ◌∙◌, subst, arith}
use Rattle.std.specs.Prelude.{if◌then◌else◌, nat_lt, max, ◌^◌, Option, Some}
use Rattle.map_law.specs.plain_state.declared.slot.SlotId.{SlotId}
use Rattle.map_trees.specs.Trees.{Tree, Balanced}
use Rattle.map_trees.proofs.Joins.{lt_of}
use Rattle.map_law.specs.Patterns.{Fits, Pattern, branch, filled, hole, null}
use Rattle.map_law.specs.Plans.{height_of, inner_left, inner_right, joins, over_both, tilt_left, tilt_right}
use Rattle.map_law.proofs.Kit.{none_some, some_same}
use Rattle.map_law.proofs.Plans.{height_is}
use Rattle.version_making.specs.Joining.{IsLow}
use Rattle.version_making.proofs.Low.{left_deep, left_plain, right_deep, right_plain}
use Rattle.version_changes.specs.Showing.{ShowsRoot, ShowsTop}

-- a plan that isn't none
abbrev pub HasPlan : Option Pattern → Type 0
HasPlan plan = (q : Pattern) × (plan ≡ Some q)

-- the heights of the subtrees that it shows differ by at most 1
abbrev pub IsEven : Pattern → Type 0
IsEven null = Unit {0}
IsEven (hole s h) = Unit {0}
IsEven (branch k v h l r) = (height_of l ≤ suc (height_of r)) × (height_of r ≤ suc (height_of l))

pub even_is : (trees : SlotId → Tree) (p : Pattern) → Fits trees p → Balanced (filled trees p) → IsEven p
even_is trees null f b = tt
even_is trees (hole s h) f b = tt
even_is trees (branch k v h l r) f b =
    let x = height_is trees l f.0 in let y = height_is trees r f.1 in
    let c = b.1 in let d = b.2 in (omega (arith, x, y, c), omega (arith, x, y, d))

-- no height is 2^63 or more
pub low_is : (trees : SlotId → Tree) (p : Pattern) → Fits trees p → Balanced (filled trees p)
    → height_of p < 2 ^ 63 → IsLow p
low_is trees null f b low = tt
low_is trees (hole s h) f b low = low
low_is trees (branch k v h l r) f b low =
    let x = height_is trees l f.0 in let y = height_is trees r f.1 in let e = b.0 in
    (low, low_is trees l f.0 b.3 (omega (arith, x, e, low)), low_is trees r f.1 b.4 (omega (arith, y, e, low)))

module _ (k v : ℕ) where
  -- THE LEFT one is higher
  module _ (a b h : ℕ) (ll r : Pattern) where
    left_inner : (m : Pattern) → ShowsRoot m → HasPlan (inner_left k v a b ll m r)
    left_inner null root = absurd root
    left_inner (hole t i) root = absurd root
    left_inner (branch c d i ml mr) root =
        (over_both c d (over_both a b ll ml) (over_both k v mr r), refl)

    left_inner_top : (m j : Pattern) → inner_left k v a b ll m r ≡ Some j → ShowsTop j
    left_inner_top null j e = absurd (none_some j e)
    left_inner_top (hole t i) j e = absurd (none_some j e)
    left_inner_top (branch c d i ml mr) j e =
        subst ShowsTop
        (some_same (over_both c d (over_both a b ll ml) (over_both k v mr r)) j e)
        (λ less. tt, λ less. tt)

  left_plan : (l r : Pattern) → ShowsTop l → HasPlan (tilt_left k v l r)
  left_plan null r top = absurd top
  left_plan (hole s h) r top = absurd top
  left_plan (branch a b h ll lr) r top = go (nat_lt (height_of ll) (height_of lr)) refl
    where
      go : (z : Bool) → nat_lt (height_of ll) (height_of lr) ≡ z
          → HasPlan (tilt_left k v (branch a b h ll lr) r)
      go true up =
          let i = left_inner a b h ll r lr (top.0 (lt_of (height_of ll) (height_of lr) up)) in
          (i.0, left_deep k v a b h ll lr r up ∙ i.1)
      go false flat = (over_both a b ll (over_both k v lr r), left_plain k v a b h ll lr r flat)

  left_top : (l r j : Pattern) → tilt_left k v l r ≡ Some j → IsEven l → ShowsTop j
  left_top null r j e even = absurd (none_some j e)
  left_top (hole s h) r j e even = absurd (none_some j e)
  left_top (branch a b h ll lr) r j e even = go (nat_lt (height_of ll) (height_of lr)) refl
    where
      go : (z : Bool) → nat_lt (height_of ll) (height_of lr) ≡ z → ShowsTop j
      go true up = left_inner_top a b h ll r lr j (sym (left_deep k v a b h ll lr r up) ∙ e)
      go false flat =
          let x = even.0 in
          subst ShowsTop
          (some_same (over_both a b ll (over_both k v lr r)) j
          (sym (left_plain k v a b h ll lr r flat) ∙ e))
          (λ less. tt, λ less. absurd (omega (arith, x, less)))

  -- THE RIGHT one is
  module _ (a b h : ℕ) (l rr : Pattern) where
    right_inner : (m : Pattern) → ShowsRoot m → HasPlan (inner_right k v a b l m rr)
    right_inner null root = absurd root
    right_inner (hole t i) root = absurd root
    right_inner (branch c d i ml mr) root =
        (over_both c d (over_both k v l ml) (over_both a b mr rr), refl)

    right_inner_top : (m j : Pattern) → inner_right k v a b l m rr ≡ Some j → ShowsTop j
    right_inner_top null j e = absurd (none_some j e)
    right_inner_top (hole t i) j e = absurd (none_some j e)
    right_inner_top (branch c d i ml mr) j e =
        subst ShowsTop
        (some_same (over_both c d (over_both k v l ml) (over_both a b mr rr)) j e)
        (λ less. tt, λ less. tt)

  right_plan : (l r : Pattern) → ShowsTop r → HasPlan (tilt_right k v l r)
  right_plan l null top = absurd top
  right_plan l (hole s h) top = absurd top
  right_plan l (branch a b h rl rr) top = go (nat_lt (height_of rr) (height_of rl)) refl
    where
      go : (z : Bool) → nat_lt (height_of rr) (height_of rl) ≡ z
          → HasPlan (tilt_right k v l (branch a b h rl rr))
      go true up =
          let i = right_inner a b h l rr rl (top.1 (lt_of (height_of rr) (height_of rl) up)) in
          (i.0, right_deep k v a b h l rl rr up ∙ i.1)
      go false flat = (over_both a b (over_both k v l rl) rr, right_plain k v a b h l rl rr flat)

  right_top : (l r j : Pattern) → tilt_right k v l r ≡ Some j → IsEven r → ShowsTop j
  right_top l null j e even = absurd (none_some j e)
  right_top l (hole s h) j e even = absurd (none_some j e)
  right_top l (branch a b h rl rr) j e even = go (nat_lt (height_of rr) (height_of rl)) refl
    where
      go : (z : Bool) → nat_lt (height_of rr) (height_of rl) ≡ z → ShowsTop j
      go true up = right_inner_top a b h l rr rl j (sym (right_deep k v a b h l rl rr up) ∙ e)
      go false flat =
          let x = even.1 in
          subst ShowsTop
          (some_same (over_both a b (over_both k v l rl) rr) j
          (sym (right_plain k v a b h l rl rr flat) ∙ e))
          (λ less. absurd (omega (arith, x, less)), λ less. tt)

  -- BOTH
  abbrev pub plan_by : Bool → Bool → Pattern → Pattern → Option Pattern
  plan_by x y l r = if x then tilt_left k v l r
      else (if y then tilt_right k v l r else Some (over_both k v l r))

  joins_by : (l r : Pattern) (x y : Bool) → nat_lt (suc (height_of r)) (height_of l) ≡ x
      → nat_lt (suc (height_of l)) (height_of r) ≡ y → joins k v l r ≡ plan_by x y l r
  joins_by l r x y ex ey =
      ap (λ (z : Bool). plan_by z (nat_lt (suc (height_of l)) (height_of r)) l r) ex
      ∙ ap (λ (z : Bool). plan_by x z l r) ey

  pub joins_plan : (l r : Pattern) → (suc (height_of r) < height_of l → ShowsTop l)
      → (suc (height_of l) < height_of r → ShowsTop r) → HasPlan (joins k v l r)
  joins_plan l r tl tr =
      go (nat_lt (suc (height_of r)) (height_of l)) refl
      (nat_lt (suc (height_of l)) (height_of r)) refl
    where
      go : (x : Bool) → nat_lt (suc (height_of r)) (height_of l) ≡ x → (y : Bool)
          → nat_lt (suc (height_of l)) (height_of r) ≡ y → HasPlan (joins k v l r)
      go true ex y ey =
          let i = left_plan l r (tl (lt_of (suc (height_of r)) (height_of l) ex)) in
          (i.0, joins_by l r true y ex ey ∙ i.1)
      go false ex true ey =
          let i = right_plan l r (tr (lt_of (suc (height_of l)) (height_of r) ey)) in
          (i.0, joins_by l r false true ex ey ∙ i.1)
      go false ex false ey = (over_both k v l r, joins_by l r false false ex ey)

  pub joins_top : (m : ℕ) (l r j : Pattern) → joins k v l r ≡ Some j → IsEven l → IsEven r
      → (m < height_of l → ShowsTop l) → (m < height_of r → ShowsTop r)
      → suc m < height_of j → ShowsTop j
  joins_top m l r j e el er tl tr high =
      go (nat_lt (suc (height_of r)) (height_of l)) refl
      (nat_lt (suc (height_of l)) (height_of r)) refl
    where
      root : (p : Pattern) → ShowsTop p → ShowsRoot p
      root null top = absurd top
      root (hole s h) top = absurd top
      root (branch a b h x y) top = tt

      go : (x : Bool) → nat_lt (suc (height_of r)) (height_of l) ≡ x → (y : Bool)
          → nat_lt (suc (height_of l)) (height_of r) ≡ y → ShowsTop j
      go true ex y ey = left_top l r j (sym (joins_by l r true y ex ey) ∙ e) el
      go false ex true ey = right_top l r j (sym (joins_by l r false true ex ey) ∙ e) er
      go false ex false ey =
          let same : over_both k v l r ≡ j =
          some_same (over_both k v l r) j (sym (joins_by l r false false ex ey) ∙ e) in
          let up : suc m < suc (max (height_of l) (height_of r)) =
          subst (λ (p : Pattern). suc m < height_of p) (sym same) high in
          subst ShowsTop same (
            λ (less : height_of l < height_of r). root r (tr (omega (arith, up, less))),
            λ (less : height_of r < height_of l). root l (tl (omega (arith, up, less))),
          )
