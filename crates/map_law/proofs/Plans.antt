-- What calls do with patterns is what the plain functions do with trees.
use Rattle.std.proofs.Common.{◌≡◌, ℕ, suc, Bool, true, false, refl, ap, sym, ◌∙◌, subst}
use Rattle.std.specs.Prelude.{if◌then◌else◌, ◌==◌, nat_lt, Option, Some, None}
use Rattle.plain_protocol.specs.plain_state.declared.slot.SlotId.{SlotId}
use Rattle.map_trees.specs.Trees.{Tree, leaf, node, Pair, pair, pairs, height, Shaped}
use Rattle.map_trees.specs.Maps.{get, next, or_else}
use Rattle.map_trees.specs.Balance.{over, outgrows, lean_left, lean_right, join}
use Rattle.map_trees.proofs.Changing.{get_at, shaped_parts}
use Rattle.map_trees.proofs.Nexts.{next_at}
use Rattle.map_law.specs.Patterns.{Pattern, null, hole, branch, filled, Fits}
use Rattle.map_law.specs.Plans.{height_of, look, seek, over_both, inner_left, tilt_left, inner_right, tilt_right, joins}
use Rattle.map_law.proofs.Kit.{some_same, none_some}

module _ (trees : SlotId → Tree) where
  pub height_is : (pat : Pattern) → Fits trees pat → height (filled trees pat) ≡ height_of pat
  height_is null f = refl
  height_is (hole s h) f = f
  height_is (branch k v h l r) f = refl

  -- READS
  pub look_is : (k : ℕ) (pat : Pattern) (x : Option ℕ) → look k pat ≡ Some x → Shaped (filled trees pat)
      → get k (pairs (filled trees pat)) ≡ x
  look_is k null x e s = some_same None x e
  look_is k (hole t h) x e s = absurd (none_some x e)
  look_is k (branch a d h l r) x e s =
      let ps = shaped_parts a d h (filled trees l) (filled trees r) s in
      get_at k a d h (filled trees l) (filled trees r) s ∙ go (nat_lt k a) (a == k) e (λ z. look_is k l x z ps.0)
      (λ z. look_is k r x z ps.1)
    where
      go : (y z : Bool) → (if y then look k l else (if z then Some (Some d) else look k r)) ≡ Some x
          → (look k l ≡ Some x → get k (pairs (filled trees l)) ≡ x)
          → (look k r ≡ Some x → get k (pairs (filled trees r)) ≡ x)
          → (if y then get k (pairs (filled trees l)) else (if z then Some d else get k (pairs (filled trees r)))) ≡ x
      go true z e il ir = il e
      go false true e il ir = some_same (Some d) x e
      go false false e il ir = ir e

  pub seek_is : (k : ℕ) (pat : Pattern) (best x : Option Pair) → seek k best pat ≡ Some x → Shaped (filled trees pat)
      → or_else (next k (pairs (filled trees pat))) best ≡ x
  seek_is k null best x e s = some_same best x e
  seek_is k (hole t h) best x e s = absurd (none_some x e)
  seek_is k (branch a d h l r) best x e s =
      let ps = shaped_parts a d h (filled trees l) (filled trees r) s in
      next_at k a d h (filled trees l) (filled trees r) best s
      ∙ go (nat_lt a k) e (λ z. seek_is k r best x z ps.1) (λ z. seek_is k l (Some (pair a d)) x z ps.0)
    where
      go : (y : Bool) → (if y then seek k best r else seek k (Some (pair a d)) l) ≡ Some x
          → (seek k best r ≡ Some x → or_else (next k (pairs (filled trees r))) best ≡ x)
          → (seek k (Some (pair a d)) l ≡ Some x → or_else (next k (pairs (filled trees l))) (Some (pair a d)) ≡ x)
          → (if y then or_else (next k (pairs (filled trees r))) best
          else or_else (next k (pairs (filled trees l))) (Some (pair a d))) ≡ x
      go true e ir il = ir e
      go false e ir il = il e

  -- JOINS
  over_is : (k v : ℕ) (l r : Pattern) → Fits trees l → Fits trees r
      → filled trees (over_both k v l r) ≡ over k v (filled trees l) (filled trees r)
  over_is k v l r fl fr = let a = height_is l fl in let b = height_is r fr in rw a (rw b refl)

  -- the one that isn't opened
  plain_left : (k v a b h : ℕ) (ll t r : Tree) → nat_lt (height ll) (height t) ≡ false
      → lean_left k v (node a b h ll t) r ≡ over a b ll (over k v t r)
  plain_left k v a b h ll leaf r e = refl
  plain_left k v a b h ll (node c d i x y) r e = rw e refl

  plain_right : (k v a b h : ℕ) (l t rr : Tree) → nat_lt (height rr) (height t) ≡ false
      → lean_right k v l (node a b h t rr) ≡ over a b (over k v l t) rr
  plain_right k v a b h l leaf rr e = refl
  plain_right k v a b h l (node c d i x y) rr e = rw e refl

  over_twice : (k v a b : ℕ) (x l r : Pattern) → Fits trees x → Fits trees l → Fits trees r
      → filled trees (over_both a b x (over_both k v l r))
      ≡ over a b (filled trees x) (over k v (filled trees l) (filled trees r))
  over_twice k v a b x l r fx fl fr = over_is a b x (over_both k v l r) fx (fl, fr)
      ∙ ap (λ (z : Tree). over a b (filled trees x) z) (over_is k v l r fl fr)

  over_first : (k v a b : ℕ) (l r x : Pattern) → Fits trees l → Fits trees r → Fits trees x
      → filled trees (over_both a b (over_both k v l r) x)
      ≡ over a b (over k v (filled trees l) (filled trees r)) (filled trees x)
  over_first k v a b l r x fl fr fx = over_is a b (over_both k v l r) x (fl, fr) fx
      ∙ ap (λ (z : Tree). over a b z (filled trees x)) (over_is k v l r fl fr)

  over_four : (k v a b c d : ℕ) (w x y z : Pattern) → Fits trees w → Fits trees x → Fits trees y → Fits trees z
      → filled trees (over_both c d (over_both a b w x) (over_both k v y z))
      ≡ over c d (over a b (filled trees w) (filled trees x)) (over k v (filled trees y) (filled trees z))
  over_four k v a b c d w x y z fw fx fy fz =
      over_is c d (over_both a b w x) (over_both k v y z) (fw, fx) (fy, fz)
      ∙ (ap (λ (t : Tree). over c d t (filled trees (over_both k v y z))) (over_is a b w x fw fx)
      ∙ ap (λ (t : Tree). over c d (over a b (filled trees w) (filled trees x)) t) (over_is k v y z fy fz))

  -- a pattern, and the tree that it is to be
  abbrev pub Is : Pattern → Tree → Type 0
  Is pat t = (filled trees pat ≡ t) × Fits trees pat

  tilt_left_is : (k v : ℕ) (l r pat : Pattern) → Fits trees l → Fits trees r → tilt_left k v l r ≡ Some pat
      → Is pat (lean_left k v (filled trees l) (filled trees r))
  tilt_left_is k v null r pat fl fr e = absurd (none_some pat e)
  tilt_left_is k v (hole s h) r pat fl fr e = absurd (none_some pat e)
  tilt_left_is k v (branch a b h ll lr) r pat fl fr e = by (nat_lt (height_of ll) (height_of lr)) refl
    where
      plain : (m : Pattern) → Fits trees m → nat_lt (height_of ll) (height_of m) ≡ false
          → Some (over_both a b ll (over_both k v m r)) ≡ Some pat
          → Is pat (lean_left k v (node a b h (filled trees ll) (filled trees m)) (filled trees r))
      plain m fm flat e =
          let same : over_both a b ll (over_both k v m r) ≡ pat =
          some_same (over_both a b ll (over_both k v m r)) pat e in
          let t1 = height_is ll fl.0 in let t2 = height_is m fm in
          let flat2 : nat_lt (height (filled trees ll)) (height (filled trees m)) ≡ false = rw t1 (rw t2 flat) in
          subst (λ (x : Pattern). Is x (lean_left k v (node a b h (filled trees ll) (filled trees m))
          (filled trees r))) same (
            over_twice k v a b ll m r fl.0 fm fr
                ∙ sym (plain_left k v a b h (filled trees ll) (filled trees m) (filled trees r) flat2),
            (fl.0, (fm, fr)),
          )

      deep : (m : Pattern) → Fits trees m → nat_lt (height_of ll) (height_of m) ≡ true
          → inner_left k v a b ll m r ≡ Some pat
          → Is pat (lean_left k v (node a b h (filled trees ll) (filled trees m)) (filled trees r))
      deep null fm up e = absurd (none_some pat e)
      deep (hole s i) fm up e = absurd (none_some pat e)
      deep (branch c d i ml mr) fm up e =
          let res = over_both c d (over_both a b ll ml) (over_both k v mr r) in
          let same : res ≡ pat = some_same res pat e in
          let t1 = height_is ll fl.0 in
          let up2 : nat_lt (height (filled trees ll)) i ≡ true = rw t1 up in
          let tree : lean_left k v (node a b h (filled trees ll) (node c d i (filled trees ml) (filled trees mr)))
          (filled trees r)
          ≡ over c d (over a b (filled trees ll) (filled trees ml)) (over k v (filled trees mr) (filled trees r)) =
          rw up2 refl in
          subst (λ (x : Pattern). Is x
          (lean_left k v (node a b h (filled trees ll) (node c d i (filled trees ml) (filled trees mr)))
          (filled trees r))) same
          (over_four k v a b c d ll ml mr r fl.0 fm.0 fm.1 fr ∙ sym tree, ((fl.0, fm.0), (fm.1, fr)))

      at : (z : Bool) → nat_lt (height_of ll) (height_of lr) ≡ z
          → (if z then inner_left k v a b ll lr r else Some (over_both a b ll (over_both k v lr r))) ≡ Some pat
      at z is = sym (ap (λ (x : Bool). if x then inner_left k v a b ll lr r
          else Some (over_both a b ll (over_both k v lr r))) is) ∙ e

      by : (z : Bool) → nat_lt (height_of ll) (height_of lr) ≡ z
          → Is pat (lean_left k v (node a b h (filled trees ll) (filled trees lr)) (filled trees r))
      by true is = deep lr fl.1 is (at true is)
      by false is = plain lr fl.1 is (at false is)

  tilt_right_is : (k v : ℕ) (l r pat : Pattern) → Fits trees l → Fits trees r → tilt_right k v l r ≡ Some pat
      → Is pat (lean_right k v (filled trees l) (filled trees r))
  tilt_right_is k v l null pat fl fr e = absurd (none_some pat e)
  tilt_right_is k v l (hole s h) pat fl fr e = absurd (none_some pat e)
  tilt_right_is k v l (branch a b h rl rr) pat fl fr e = by (nat_lt (height_of rr) (height_of rl)) refl
    where
      plain : (m : Pattern) → Fits trees m → nat_lt (height_of rr) (height_of m) ≡ false
          → Some (over_both a b (over_both k v l m) rr) ≡ Some pat
          → Is pat (lean_right k v (filled trees l) (node a b h (filled trees m) (filled trees rr)))
      plain m fm flat e =
          let same : over_both a b (over_both k v l m) rr ≡ pat =
          some_same (over_both a b (over_both k v l m) rr) pat e in
          let t1 = height_is rr fr.1 in let t2 = height_is m fm in
          let flat2 : nat_lt (height (filled trees rr)) (height (filled trees m)) ≡ false = rw t1 (rw t2 flat) in
          subst (λ (x : Pattern). Is x (lean_right k v (filled trees l)
          (node a b h (filled trees m) (filled trees rr)))) same (
            over_first k v a b l m rr fl fm fr.1
                ∙ sym (plain_right k v a b h (filled trees l) (filled trees m) (filled trees rr) flat2),
            ((fl, fm), fr.1),
          )

      deep : (m : Pattern) → Fits trees m → nat_lt (height_of rr) (height_of m) ≡ true
          → inner_right k v a b l m rr ≡ Some pat
          → Is pat (lean_right k v (filled trees l) (node a b h (filled trees m) (filled trees rr)))
      deep null fm up e = absurd (none_some pat e)
      deep (hole s i) fm up e = absurd (none_some pat e)
      deep (branch c d i ml mr) fm up e =
          let res = over_both c d (over_both k v l ml) (over_both a b mr rr) in
          let same : res ≡ pat = some_same res pat e in
          let t1 = height_is rr fr.1 in
          let up2 : nat_lt (height (filled trees rr)) i ≡ true = rw t1 up in
          let tree : lean_right k v (filled trees l) (node a b h (node c d i (filled trees ml) (filled trees mr))
          (filled trees rr))
          ≡ over c d (over k v (filled trees l) (filled trees ml)) (over a b (filled trees mr) (filled trees rr)) =
          rw up2 refl in
          subst (λ (x : Pattern). Is x (lean_right k v (filled trees l)
          (node a b h (node c d i (filled trees ml) (filled trees mr)) (filled trees rr)))) same
          (over_four a b k v c d l ml mr rr fl fm.0 fm.1 fr.1 ∙ sym tree, ((fl, fm.0), (fm.1, fr.1)))

      at : (z : Bool) → nat_lt (height_of rr) (height_of rl) ≡ z
          → (if z then inner_right k v a b l rl rr else Some (over_both a b (over_both k v l rl) rr)) ≡ Some pat
      at z is = sym (ap (λ (x : Bool). if x then inner_right k v a b l rl rr
          else Some (over_both a b (over_both k v l rl) rr)) is) ∙ e

      by : (z : Bool) → nat_lt (height_of rr) (height_of rl) ≡ z
          → Is pat (lean_right k v (filled trees l) (node a b h (filled trees rl) (filled trees rr)))
      by true is = deep rl fr.0 is (at true is)
      by false is = plain rl fr.0 is (at false is)

  pub joins_is : (k v : ℕ) (l r pat : Pattern) → Fits trees l → Fits trees r → joins k v l r ≡ Some pat
      → Is pat (join k v (filled trees l) (filled trees r))
  joins_is k v l r pat fl fr e = by (nat_lt (suc (height_of r)) (height_of l)) refl
      (nat_lt (suc (height_of l)) (height_of r)) refl
    where
      Goal : Type 0
      Goal = Is pat (join k v (filled trees l) (filled trees r))

      by : (x : Bool) → nat_lt (suc (height_of r)) (height_of l) ≡ x → (y : Bool)
          → nat_lt (suc (height_of l)) (height_of r) ≡ y → Is pat (join k v (filled trees l) (filled trees r))
      by x ex y ey = go x ex y ey
        where
          a : outgrows (filled trees l) (filled trees r) ≡ x
          a = let t1 = height_is l fl in let t2 = height_is r fr in rw t1 (rw t2 ex)

          b : outgrows (filled trees r) (filled trees l) ≡ y
          b = let t1 = height_is l fl in let t2 = height_is r fr in rw t1 (rw t2 ey)

          tree : join k v (filled trees l) (filled trees r)
              ≡ (if x then lean_left k v (filled trees l) (filled trees r)
              else (if y then lean_right k v (filled trees l) (filled trees r)
              else over k v (filled trees l) (filled trees r)))
          tree = rw a (rw b refl)

          plan : (if x then tilt_left k v l r else (if y then tilt_right k v l r else Some (over_both k v l r)))
              ≡ Some pat
          plan = let g : joins k v l r
              ≡ (if x then tilt_left k v l r else (if y then tilt_right k v l r else Some (over_both k v l r))) =
              rw ex (rw ey refl) in sym g ∙ e

          go : (x' : Bool) → nat_lt (suc (height_of r)) (height_of l) ≡ x' → (y' : Bool)
              → nat_lt (suc (height_of l)) (height_of r) ≡ y' → Is pat (join k v (filled trees l) (filled trees r))
          go x' ex' y' ey' = subst (Is pat) (sym tree) (choose x y plan)
            where
              choose : (x y : Bool) → (if x then tilt_left k v l r
                  else (if y then tilt_right k v l r else Some (over_both k v l r))) ≡ Some pat
                  → Is pat (if x then lean_left k v (filled trees l) (filled trees r)
                  else (if y then lean_right k v (filled trees l) (filled trees r)
                  else over k v (filled trees l) (filled trees r)))
              choose true y h = tilt_left_is k v l r pat fl fr h
              choose false true h = tilt_right_is k v l r pat fl fr h
              choose false false h =
                  let same : over_both k v l r ≡ pat = some_same (over_both k v l r) pat h in
                  subst (λ (z : Pattern). Is z (over k v (filled trees l) (filled trees r))) same
                  (over_is k v l r fl fr, (fl, fr))
