-- The subtrees of a node that was opened, and one beside it.
use Rattle.std.proofs.Common.{◌≡◌, ⊎_elim, ℕ, ◌+◌, ◌<◌, ◌≤◌, true, refl, ap, sym, ◌∙◌, subst, arith}
use Rattle.std.specs.Prelude.{IfOk, Ok, Err, Option, Result, Some, nat_lt}
use Rattle.map_law.specs.plain_state.declared.slot.SlotId.{SlotId}
use Rattle.map_law.specs.plain_state.Lists.{times}
use Rattle.map_law.specs.declared.view.Kid.{Kid}
use Rattle.map_law.specs.declared.view.View.{View}
use Rattle.map_law.specs.Patterns.{Pattern, Spells, branch, hole}
use Rattle.map_law.specs.Plans.{height_of, tilt_left, tilt_right}
use Rattle.map_law.proofs.Kit.{none_some}
use Rattle.slot_store.specs.counted_handles.Handles.{Handle}
use Rattle.slot_store.specs.acquire_retire.Seats.{SeatState}
use Rattle.version_making.specs.Building.{height_by, put_over}
use Rattle.version_making.specs.Joining.{IsLow, IsTilted, IsTurned, Unfolds}
use Rattle.version_making.specs.Keeping.{Keeps, none, of_answer, of_both, of_handle}
use Rattle.version_making.specs.Standing.{IsTree, Stands, kid_by}
use Rattle.version_making.proofs.Keeping.{keeps_most, keeps_then}
use Rattle.version_making.proofs.Standing.{IsKept, height_still, kid_still, spells_on, stands_height, stands_still, tree_still}
use Rattle.version_making.proofs.Low.{both_is, left_deep, left_is, left_plain, opens_unfolds, right_deep, right_is, right_plain, tests, tests_not, unfolds_height, unfolds_self}

-- THE HEIGHTS are read of two subtrees, beside which there is a third
module _ (near far side : Option Handle) (s0 s1 s2 : SeatState View)
    (owned : (x : SlotId) → of_both near far x + of_handle side x ≤ times x s0.view.core.owned)
    (k1 : Keeps 0 0 none none s0 s1) (k2 : Keeps 0 0 none none s1 s2) where
  both : Keeps 0 0 none none s0 s2
  both = keeps_then 0 0 0 0 none none none none none none s0 s1 s2 k1 k2
      (λ x. (omega arith, omega arith, refl))

  kept_near : IsKept none near s0
  kept_near x = let o = owned x in omega (arith, o)

  kept_far : IsKept none far s0
  kept_far x = let o = owned x in omega (arith, o)

  kept_side : IsKept none side s0
  kept_side x = let o = owned x in omega (arith, o)

  pub owned_one : (x : SlotId) → of_handle far x ≤ times x s1.view.core.owned
  owned_one x = let o = owned x in let p = k1.owns x in omega (arith, o, p)

  pub owned_near : (x : SlotId) → of_handle near x ≤ times x s0.view.core.owned
  owned_near x = let o = owned x in omega (arith, o)

  pub owned_two : (x : SlotId) → of_both near far x + of_handle side x ≤ times x s2.view.core.owned
  owned_two x = let o = owned x in let p = both.owns x in omega (arith, o, p)

  pub owned_turned : (x : SlotId) → of_handle near x + of_both far side x ≤ times x s2.view.core.owned
  owned_turned x = let o = owned_two x in omega (arith, o)

  pub owned_left : (x : SlotId) → of_both side far x + of_handle near x ≤ times x s2.view.core.owned
  owned_left x = let o = owned_two x in omega (arith, o)

  pub trees_two : IsTree near s0 × IsTree far s0 × IsTree side s0
      → IsTree near s2 × IsTree far s2 × IsTree side s2
  trees_two t = (
    tree_still 0 0 none none s0 s2 both near kept_near t.0,
    tree_still 0 0 none none s0 s2 both far kept_far t.1,
    tree_still 0 0 none none s0 s2 both side kept_side t.2,
  )

  near_stands : (a : Pattern) → Stands near a s0 → Stands near a s2
  near_stands a = stands_still 0 0 none none s0 s2 both near a kept_near

  far_stands : (m : Pattern) → Stands far m s0 → Stands far m s2
  far_stands m = stands_still 0 0 none none s0 s2 both far m kept_far

  side_stands : (d : Pattern) → Stands side d s0 → Stands side d s2
  side_stands d = stands_still 0 0 none none s0 s2 both side d kept_side

  far_height : height_by far s1 ≡ height_by far s0
  far_height = height_still 0 0 none none s0 s1 k1 far kept_far

  pub lift_keeps : {E : Type 0} (m n : ℕ) (r : Result Handle E) (s3 : SeatState View) (given : SlotId → ℕ)
      → m ≤ 3 → n ≤ 5 → ((x : SlotId) → given x ≡ of_both near far x + of_handle side x)
      → Keeps m n given (of_answer r) s2 s3
      → Keeps 3 5 (λ x. of_both near far x + of_handle side x) (of_answer r) s0 s3
  lift_keeps m n r s3 given lm ln sum k3 =
      keeps_then 0 0 3 5 none none given (of_answer r)
      (λ x. of_both near far x + of_handle side x) (of_answer r) s0 s2 s3 both
      (keeps_most m n 3 5 given (of_answer r) s2 s3 lm ln k3)
      (λ x. let e = sum x in (omega arith, omega arith, omega (arith, e)))

  module _ (outer inner : ℕ) (outer_is : outer ≡ height_by near s0) (inner_is : inner ≡ height_by far s1)
      (s3 : SeatState View) (item_key item_value top_key top_value : ℕ) where
    heights : (a m : Pattern) → Stands near a s0 → Stands far m s0
        → (outer ≡ height_of a) × (inner ≡ height_of m)
    heights a m sa sm = (
      outer_is ∙ stands_height near a s0 sa,
      inner_is ∙ (far_height ∙ stands_height far m s0 sm),
    )

    -- FAR ISN'T HIGHER
    module _ {E : Type 0} (r : Result Handle E) (le : inner ≤ outer)
        (k3 : Keeps 3 5 (λ x. of_both near far x + of_handle side x) (of_answer r) s0 s3) where
      plain_spells : (m : Pattern) → Stands far m s0 → Spells s3.view.client (kid_by far s0) m
      plain_spells m sm =
          spells_on s0.view.client s3.view.client k3.grows (kid_by far s0) m sm.spells

      pub plain_left : IfOk r (λ node. (l m r : Pattern) → Stands near l s2 → Stands far m s2
          → Stands side r s2 → Stands (Some node)
          (put_over top_key top_value l (put_over item_key item_value m r)) s3)
          → IfOk r (λ node. (h : ℕ) (a m d : Pattern) → Stands near a s0 → Stands far m s0
          → Stands side d s0 → IsTilted
          (λ p. tilt_left item_key item_value (branch top_key top_value h a p) d)
          (IsLow a × IsLow d) node far s0 s3 m)
      plain_left put = go r put
        where
          go : (o : Result Handle E)
              → IfOk o (λ node. (l m r : Pattern) → Stands near l s2 → Stands far m s2
              → Stands side r s2 → Stands (Some node)
              (put_over top_key top_value l (put_over item_key item_value m r)) s3)
              → IfOk o (λ node. (h : ℕ) (a m d : Pattern) → Stands near a s0 → Stands far m s0
              → Stands side d s0 → IsTilted
              (λ p. tilt_left item_key item_value (branch top_key top_value h a p) d)
              (IsLow a × IsLow d) node far s0 s3 m)
          go (Ok node) put = λ h a m d sa sm sd.
              let hs = heights a m sa sm in record {
                opened = m;
                tilted = put_over top_key top_value a (put_over item_key item_value m d);
                spells = plain_spells m sm;
                unfolds = unfolds_self m;
                planned = λ lm low.
                    left_plain item_key item_value top_key top_value h a m d
                    (tests (height_of a) (height_of m) outer inner hs.0 hs.1 le)
                    ∙ ap (λ (z : Pattern). Some z)
                    (sym (right_is item_key item_value top_key top_value a m d low.0 lm low.1));
                stands = put a m d (near_stands a sa) (far_stands m sm) (side_stands d sd);
                enough = λ q e. refl;
              }
          go (Err e) put = tt

      pub plain_right : IfOk r (λ node. (l m r : Pattern) → Stands side l s2 → Stands far m s2
          → Stands near r s2 → Stands (Some node)
          (put_over top_key top_value (put_over item_key item_value l m) r) s3)
          → IfOk r (λ node. (h : ℕ) (a m d : Pattern) → Stands near a s0 → Stands far m s0
          → Stands side d s0 → IsTilted
          (λ p. tilt_right item_key item_value d (branch top_key top_value h p a))
          (IsLow a × IsLow d) node far s0 s3 m)
      plain_right put = go r put
        where
          go : (o : Result Handle E)
              → IfOk o (λ node. (l m r : Pattern) → Stands side l s2 → Stands far m s2
              → Stands near r s2 → Stands (Some node)
              (put_over top_key top_value (put_over item_key item_value l m) r) s3)
              → IfOk o (λ node. (h : ℕ) (a m d : Pattern) → Stands near a s0 → Stands far m s0
              → Stands side d s0 → IsTilted
              (λ p. tilt_right item_key item_value d (branch top_key top_value h p a))
              (IsLow a × IsLow d) node far s0 s3 m)
          go (Ok node) put = λ h a m d sa sm sd.
              let hs = heights a m sa sm in record {
                opened = m;
                tilted = put_over top_key top_value (put_over item_key item_value d m) a;
                spells = plain_spells m sm;
                unfolds = unfolds_self m;
                planned = λ lm low.
                    right_plain item_key item_value top_key top_value h d m a
                    (tests (height_of a) (height_of m) outer inner hs.0 hs.1 le)
                    ∙ ap (λ (z : Pattern). Some z)
                    (sym (left_is item_key item_value top_key top_value d m a low.1 lm low.0));
                stands = put d m a (side_stands d sd) (far_stands m sm) (near_stands a sa);
                enough = λ q e. refl;
              }
          go (Err e) put = tt

    -- FAR IS HIGHER
    module _ {E : Type 0} (r : Result Handle E) (lt : outer < inner) (mid : Handle)
        (is : far ≡ Some mid) where
      mid_spells : (m p : Pattern) → Spells s3.view.client (kid_by (Some mid) s2) p
          → Spells s3.view.client (kid_by far s0) p
      mid_spells m p sp =
          subst (λ (k : Option Kid). Spells s3.view.client k p)
          (ap (λ (h : Option Handle). kid_by h s2) (sym is)
          ∙ kid_still 0 0 none none s0 s2 both far kept_far) sp

      up : (a m p : Pattern) → Stands near a s0 → Stands far m s0 → Unfolds m p
          → nat_lt (height_of a) (height_of p) ≡ true
      up a m p sa sm u =
          let hs = heights a m sa sm in
          tests_not (height_of a) (height_of p) outer inner hs.0 (hs.1 ∙ sym (unfolds_height m p u)) lt

      pub deep_left : IfOk r (λ node. (a m d : Pattern) → Stands near a s2 → Stands (Some mid) m s2
          → Stands side d s2
          → IsTurned node mid top_key top_value item_key item_value s2 s3 a m d)
          → IfOk r (λ node. (h : ℕ) (a m d : Pattern) → Stands near a s0 → Stands far m s0
          → Stands side d s0 → IsTilted
          (λ p. tilt_left item_key item_value (branch top_key top_value h a p) d)
          (IsLow a × IsLow d) node far s0 s3 m)
      deep_left turned = go r turned
        where
          go : (o : Result Handle E)
              → IfOk o (λ node. (a m d : Pattern) → Stands near a s2 → Stands (Some mid) m s2
              → Stands side d s2
              → IsTurned node mid top_key top_value item_key item_value s2 s3 a m d)
              → IfOk o (λ node. (h : ℕ) (a m d : Pattern) → Stands near a s0 → Stands far m s0
              → Stands side d s0 → IsTilted
              (λ p. tilt_left item_key item_value (branch top_key top_value h a p) d)
              (IsLow a × IsLow d) node far s0 s3 m)
          go (Ok node) turned = λ h a m d sa sm sd.
              let t = turned a m d (near_stands a sa)
              (subst (λ (k : Option Handle). Stands k m s2) is (far_stands m sm))
              (side_stands d sd) in
              let p = branch t.key t.value t.height t.left t.right in
              let u = opens_unfolds m p t.opens in record {
                opened = p;
                tilted = put_over t.key t.value (put_over top_key top_value a t.left)
                    (put_over item_key item_value t.right d);
                spells = mid_spells m p t.spells;
                unfolds = u;
                planned = λ lp low.
                    left_deep item_key item_value top_key top_value h a p d (up a m p sa sm u)
                    ∙ ap (λ (z : Pattern). Some z)
                    (sym (both_is item_key item_value top_key top_value t.key t.value a t.left
                    t.right d low.0 lp.1 lp.2 low.1));
                stands = t.stands;
                enough = λ q e. ⊎_elim
                    (λ (same : p ≡ m). same)
                    (λ open'. absurd (none_some q
                    (sym (left_deep item_key item_value top_key top_value h a (hole open'.0 t.height) d
                    (up a m (hole open'.0 t.height) sa sm (subst (λ (z : Pattern). Unfolds z (hole open'.0 t.height)) (sym open'.1) refl)))
                    ∙ (ap (λ (z : Pattern). tilt_left item_key item_value
                    (branch top_key top_value h a z) d) (sym open'.1) ∙ e))))
                    t.opens;
              }
          go (Err e) turned = tt

      pub deep_right : IfOk r (λ node. (a m d : Pattern) → Stands side a s2 → Stands (Some mid) m s2
          → Stands near d s2
          → IsTurned node mid item_key item_value top_key top_value s2 s3 a m d)
          → IfOk r (λ node. (h : ℕ) (a m d : Pattern) → Stands near a s0 → Stands far m s0
          → Stands side d s0 → IsTilted
          (λ p. tilt_right item_key item_value d (branch top_key top_value h p a))
          (IsLow a × IsLow d) node far s0 s3 m)
      deep_right turned = go r turned
        where
          go : (o : Result Handle E)
              → IfOk o (λ node. (a m d : Pattern) → Stands side a s2 → Stands (Some mid) m s2
              → Stands near d s2
              → IsTurned node mid item_key item_value top_key top_value s2 s3 a m d)
              → IfOk o (λ node. (h : ℕ) (a m d : Pattern) → Stands near a s0 → Stands far m s0
              → Stands side d s0 → IsTilted
              (λ p. tilt_right item_key item_value d (branch top_key top_value h p a))
              (IsLow a × IsLow d) node far s0 s3 m)
          go (Ok node) turned = λ h a m d sa sm sd.
              let t = turned d m a (side_stands d sd)
              (subst (λ (k : Option Handle). Stands k m s2) is (far_stands m sm))
              (near_stands a sa) in
              let p = branch t.key t.value t.height t.left t.right in
              let u = opens_unfolds m p t.opens in record {
                opened = p;
                tilted = put_over t.key t.value (put_over item_key item_value d t.left)
                    (put_over top_key top_value t.right a);
                spells = mid_spells m p t.spells;
                unfolds = u;
                planned = λ lp low.
                    right_deep item_key item_value top_key top_value h d p a (up a m p sa sm u)
                    ∙ ap (λ (z : Pattern). Some z)
                    (sym (both_is top_key top_value item_key item_value t.key t.value d t.left
                    t.right a low.1 lp.1 lp.2 low.0));
                stands = t.stands;
                enough = λ q e. ⊎_elim
                    (λ (same : p ≡ m). same)
                    (λ open'. absurd (none_some q
                    (sym (right_deep item_key item_value top_key top_value h d (hole open'.0 t.height) a
                    (up a m (hole open'.0 t.height) sa sm (subst (λ (z : Pattern). Unfolds z (hole open'.0 t.height)) (sym open'.1) refl)))
                    ∙ (ap (λ (z : Pattern). tilt_right item_key item_value d
                    (branch top_key top_value h z a)) (sym open'.1) ∙ e))))
                    t.opens;
              }
          go (Err e) turned = tt
