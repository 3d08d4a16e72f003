-- Heights of patterns that are opened, and nodes whose height is below 2^64.
use Rattle.std.proofs.Common.{◌≡◌, ⊎_elim, ℕ, suc, ◌+◌, ◌<◌, ◌≤◌, Bool, true, false, refl, ap, sym, ◌∙◌, subst, arith}
use Rattle.std.specs.Prelude.{◌^◌, Some, max, nat_lt, if◌then◌else◌}
use Rattle.std.proofs.lemmas.Bool.Decides.{nat_tests}
use Rattle.map_law.specs.Patterns.{Pattern, branch, hole, null}
use Rattle.map_law.specs.Plans.{height_of, inner_left, inner_right, over_both, tilt_left, tilt_right}
use Rattle.version_making.specs.Building.{capped, put_over}
use Rattle.version_making.specs.Joining.{IsLow, Unfolds}
use Rattle.version_making.specs.Opening.{Opens}

pub unfolds_self : (p : Pattern) → Unfolds p p
unfolds_self null = refl
unfolds_self (hole s h) = refl
unfolds_self (branch k v h l r) = (l, r, refl, unfolds_self l, unfolds_self r)

pub unfolds_height : (p q : Pattern) → Unfolds p q → height_of q ≡ height_of p
unfolds_height null q u = ap height_of u
unfolds_height (hole s h) q u = u
unfolds_height (branch k v h l r) q u = ap height_of u.2

pub opens_unfolds : (p q : Pattern) → Opens p q → Unfolds p q
opens_unfolds p q o = ⊎_elim
    (λ (e : q ≡ p). subst (λ (z : Pattern). Unfolds p z) (sym e) (unfolds_self p))
    (λ h. subst (λ (z : Pattern). Unfolds z q) (sym h.1) refl)
    o

pub low_height : (p : Pattern) → IsLow p → height_of p ≤ 2 ^ 63
low_height null low = omega arith
low_height (hole s h) low = omega (arith, low)
low_height (branch k v h l r) low = let l' = low.0 in omega (arith, l')

-- below the bound the word is the height
word_height : (h : ℕ) → h ≤ 2 ^ 63 + 2 → capped h ≡ h
word_height h le = omega (arith, le)

most : (a b n : ℕ) → a ≤ n → b ≤ n → suc (max a b) ≤ suc n
most a b n p q = omega (arith, p, q)

pub put_is : (k v : ℕ) (l r : Pattern) → height_of l ≤ 2 ^ 63 + 1 → height_of r ≤ 2 ^ 63 + 1
    → put_over k v l r ≡ over_both k v l r
put_is k v l r hl hr =
    let m = most (height_of l) (height_of r) (2 ^ 63 + 1) hl hr in
    ap (λ (h : ℕ). branch k v h l r) (word_height (suc (max (height_of l) (height_of r)))
    (omega (arith, m)))

over_low : (k v : ℕ) (l r : Pattern) → height_of l ≤ 2 ^ 63 → height_of r ≤ 2 ^ 63
    → height_of (over_both k v l r) ≤ 2 ^ 63 + 1
over_low k v l r hl hr = most (height_of l) (height_of r) (2 ^ 63) hl hr

-- TWO NODES, the lower one on the right or on the left, and three
pub right_is : (k v a b : ℕ) (x l r : Pattern) → IsLow x → IsLow l → IsLow r
    → put_over a b x (put_over k v l r) ≡ over_both a b x (over_both k v l r)
right_is k v a b x l r lx ll lr =
    let hx = low_height x lx in let hl = low_height l ll in let hr = low_height r lr in
    ap (put_over a b x) (put_is k v l r (omega (arith, hl)) (omega (arith, hr)))
    ∙ put_is a b x (over_both k v l r) (omega (arith, hx)) (over_low k v l r hl hr)

pub left_is : (k v a b : ℕ) (l r x : Pattern) → IsLow l → IsLow r → IsLow x
    → put_over a b (put_over k v l r) x ≡ over_both a b (over_both k v l r) x
left_is k v a b l r x ll lr lx =
    let hx = low_height x lx in let hl = low_height l ll in let hr = low_height r lr in
    ap (λ (z : Pattern). put_over a b z x) (put_is k v l r (omega (arith, hl)) (omega (arith, hr)))
    ∙ put_is a b (over_both k v l r) x (over_low k v l r hl hr) (omega (arith, hx))

pub both_is : (k v a b c d : ℕ) (w x y z : Pattern) → IsLow w → IsLow x → IsLow y → IsLow z
    → put_over c d (put_over a b w x) (put_over k v y z)
    ≡ over_both c d (over_both a b w x) (over_both k v y z)
both_is k v a b c d w x y z lw lx ly lz =
    let hw = low_height w lw in let hx = low_height x lx in
    let hy = low_height y ly in let hz = low_height z lz in
    ap (λ (p : Pattern). put_over c d p (put_over k v y z))
    (put_is a b w x (omega (arith, hw)) (omega (arith, hx)))
    ∙ ap (put_over c d (over_both a b w x)) (put_is k v y z (omega (arith, hy)) (omega (arith, hz)))
    ∙ put_is c d (over_both a b w x) (over_both k v y z) (over_low a b w x hw hx)
    (over_low k v y z hy hz)

-- THE PLANS, by which inner subtree is higher
pub tests : (a b x y : ℕ) → x ≡ a → y ≡ b → y ≤ x → nat_lt a b ≡ false
tests a b x y e f le = let g : b ≤ a = omega (arith, e, f, le) in grind (arith, nat_tests)

pub tests_not : (a b x y : ℕ) → x ≡ a → y ≡ b → x < y → nat_lt a b ≡ true
tests_not a b x y e f lt = let g : a < b = omega (arith, e, f, lt) in grind (arith, nat_tests)

module _ (k v a b h : ℕ) where
  pub left_plain : (ll lr r : Pattern) → nat_lt (height_of ll) (height_of lr) ≡ false
      → tilt_left k v (branch a b h ll lr) r ≡ Some (over_both a b ll (over_both k v lr r))
  left_plain ll lr r flat =
      ap (λ (z : Bool). if z then inner_left k v a b ll lr r
      else Some (over_both a b ll (over_both k v lr r))) flat

  pub left_deep : (ll lr r : Pattern) → nat_lt (height_of ll) (height_of lr) ≡ true
      → tilt_left k v (branch a b h ll lr) r ≡ inner_left k v a b ll lr r
  left_deep ll lr r up =
      ap (λ (z : Bool). if z then inner_left k v a b ll lr r
      else Some (over_both a b ll (over_both k v lr r))) up

  pub right_plain : (l rl rr : Pattern) → nat_lt (height_of rr) (height_of rl) ≡ false
      → tilt_right k v l (branch a b h rl rr) ≡ Some (over_both a b (over_both k v l rl) rr)
  right_plain l rl rr flat =
      ap (λ (z : Bool). if z then inner_right k v a b l rl rr
      else Some (over_both a b (over_both k v l rl) rr)) flat

  pub right_deep : (l rl rr : Pattern) → nat_lt (height_of rr) (height_of rl) ≡ true
      → tilt_right k v l (branch a b h rl rr) ≡ inner_right k v a b l rl rr
  right_deep l rl rr up =
      ap (λ (z : Bool). if z then inner_right k v a b l rl rr
      else Some (over_both a b (over_both k v l rl) rr)) up
