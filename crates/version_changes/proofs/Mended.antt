-- A changed subtree is joined with the one beside it.
use Rattle.std.proofs.Common.{◌≡◌, ⊎_elim, ℕ, suc, ◌<◌, ◌≤◌, ap, sym, ◌∙◌, subst, arith}
use Rattle.std.specs.Prelude.{IfOk, Ok, Err, Option, Result, Some}
use Rattle.std.proofs.lemmas.Bool.{cases_lt}
use Rattle.map_law.specs.plain_state.declared.slot.SlotId.{SlotId}
use Rattle.map_law.specs.plain_state.Lists.{times}
use Rattle.map_law.specs.declared.view.Kid.{Kid}
use Rattle.map_law.specs.declared.view.View.{View}
use Rattle.map_law.specs.Patterns.{Pattern, Spells}
use Rattle.map_law.specs.Plans.{height_of, joins}
use Rattle.slot_store.specs.counted_handles.Handles.{Handle}
use Rattle.slot_store.specs.acquire_retire.Seats.{SeatState}
use Rattle.version_making.specs.Building.{height_by}
use Rattle.version_making.specs.Joining.{IsJoined, IsLow}
use Rattle.version_making.specs.Keeping.{Keeps, OwnsBoth, none, of_both, of_handle}
use Rattle.version_making.specs.Standing.{IsTree, Stands, kid_by}
use Rattle.version_making.proofs.Keeping.{keeps_most, keeps_then}
use Rattle.version_making.proofs.Standing.{IsKept, height_still, kid_still, spells_on, stands_height, stands_still, tree_still}
use Rattle.version_making.proofs.Subtrees.{rough, rough_stands}
use Rattle.version_changes.specs.Changing.{IsMended}
use Rattle.version_changes.specs.Showing.{IsSeen, ShowsTop}
use Rattle.version_changes.proofs.Shown.{joins_plan}

-- what a join tells where it needs nothing more than is shown
joined_is : (node : Handle) (key value : ℕ) (left right : Option Handle) (old new : SeatState View)
    (l r : Pattern) (j : IsJoined node key value left right old new l r)
    → (suc (height_of r) < height_of l → ShowsTop l) → (suc (height_of l) < height_of r → ShowsTop r)
    → IsLow l → IsLow r → joins key value l r ≡ Some j.joined
joined_is node key value left right old new l r j tl tr low_left low_right =
    let plan = joins_plan key value l r tl tr in
    let same = j.enough plan.0 plan.1 in
    ap (λ (p : Pattern). joins key value p r) (sym same.0)
    ∙ (ap (λ (p : Pattern). joins key value j.left_opened p) (sym same.1)
    ∙ j.planned (subst IsLow (sym same.0) low_left) (subst IsLow (sym same.1) low_right))

module _ (changed beside : Option Handle) (s0 s1 : SeatState View) (owned : OwnsBoth changed beside s0)
    (k1 : Keeps 0 6 none none s0 s1) where
  kept_changed : IsKept none changed s0
  kept_changed x = let o = owned x in omega (arith, o)

  kept_beside : IsKept none beside s0
  kept_beside x = let o = owned x in omega (arith, o)

  pub owned_after : OwnsBoth changed beside s1
  owned_after x = let o = owned x in let p = k1.owns x in omega (arith, o, p)

  pub owned_turned : OwnsBoth beside changed s1
  owned_turned x = let o = owned x in let p = k1.owns x in omega (arith, o, p)

  pub changed_tree : IsTree changed s0 → IsTree changed s1
  changed_tree = tree_still 0 6 none none s0 s1 k1 changed kept_changed

  pub beside_tree : IsTree beside s0 → IsTree beside s1
  beside_tree = tree_still 0 6 none none s0 s1 k1 beside kept_beside

  pub mended_keeps : (given gained : SlotId → ℕ) (s2 : SeatState View) → Keeps 3 7 given gained s1 s2
      → ((x : SlotId) → given x ≡ of_both changed beside x)
      → Keeps 3 13 (of_both changed beside) gained s0 s2
  mended_keeps given gained s2 k2 same =
      keeps_then 0 6 3 7 none none given gained (of_both changed beside) gained s0 s1 s2 k1 k2
      (λ x. let e = same x in (omega arith, omega arith, omega (arith, e)))

  pub refused_keeps : (s2 s3 : SeatState View) → Keeps 0 0 (of_handle changed) none s1 s2
      → Keeps 0 0 (of_handle beside) none s2 s3 → Keeps 3 13 (of_both changed beside) none s0 s3
  refused_keeps s2 s3 k2 k3 =
      keeps_most 0 6 3 13 (of_both changed beside) none s0 s3 (omega arith) (omega arith)
      (keeps_then 0 6 0 0 none none (of_both changed beside) none (of_both changed beside) none
      s0 s1 s3 k1
      (keeps_then 0 0 0 0 (of_handle changed) none (of_handle beside) none (of_both changed beside)
      none s1 s2 s3 k2 k3 (λ x. (omega arith, omega arith, omega arith)))
      (λ x. (omega arith, omega arith, omega arith)))

  pub owned_later : (s2 : SeatState View) → Keeps 0 0 (of_handle changed) none s1 s2
      → (x : SlotId) → of_handle beside x ≤ times x s2.view.core.owned
  owned_later s2 k2 x =
      let o = owned x in let p = k1.owns x in let q = k2.owns x in omega (arith, o, p, q)

  module _ (tree : IsTree beside s0)
      (seen : suc (height_by changed s0) < height_by beside s0 → IsSeen beside s0 s1) where
    -- what the notes spell of the one beside: its top, if it is higher by 2 or more
    pub record IsBeside (c : Pattern) : Type 0 where
      pub pattern : Pattern
      pub stands : Stands beside pattern s1
      pub top : suc (height_of c) < height_of pattern → ShowsTop pattern

    beside_is : (c : Pattern) → Stands changed c s0 → IsBeside c
    beside_is c sc = ⊎_elim
        (λ (up : suc (height_by changed s0) < height_by beside s0).
        let s = seen up in record {
          pattern = s.pattern;
          stands = record {
            tree = beside_tree tree;
            spells = subst (λ (k : Option Kid). Spells s1.view.client k s.pattern)
                (sym (kid_still 0 6 none none s0 s1 k1 beside kept_beside)) s.spells;
          };
          top = λ higher. s.top;
        })
        (λ (flat : height_by beside s0 ≤ suc (height_by changed s0)).
        let st = rough_stands beside s1 (beside_tree tree) in
        let hc = stands_height changed c s0 sc in
        let hb = stands_height beside (rough beside s1) s1 st in
        let same = height_still 0 6 none none s0 s1 k1 beside kept_beside in record {
          pattern = rough beside s1;
          stands = st;
          top = λ (higher : suc (height_of c) < height_of (rough beside s1)). absurd
              (omega (arith, higher, flat, hc, hb, same));
        })
        (cases_lt (suc (height_by changed s0)) (height_by beside s0))

    spells_beside : (s2 : SeatState View) (m n : ℕ) (given gained : SlotId → ℕ)
        → Keeps m n given gained s1 s2 → (p : Pattern) → Stands beside p s1
        → Spells s2.view.client (kid_by beside s0) p
    spells_beside s2 m n given gained k2 p st =
        spells_on s1.view.client s2.view.client k2.grows (kid_by beside s0) p
        (subst (λ (k : Option Kid). Spells s1.view.client k p)
        (kid_still 0 6 none none s0 s1 k1 beside kept_beside) st.spells)

    pub left_mended : {E : Type 0} (key value : ℕ) (r : Result Handle E) (s2 : SeatState View)
        (given gained : SlotId → ℕ) → Keeps 3 7 given gained s1 s2
        → IfOk r (λ node. (l r : Pattern) → Stands changed l s1 → Stands beside r s1
        → IsJoined node key value changed beside s1 s2 l r)
        → IfOk r (λ node. (c : Pattern) → Stands changed c s0
        → IsMended (λ b. joins key value c b) node beside c s0 s2)
    left_mended key value (Ok node) s2 given gained k2 joined = λ c sc.
        let b = beside_is c sc in
        let j = joined c b.pattern
        (stands_still 0 6 none none s0 s1 k1 changed c kept_changed sc) b.stands in record {
          whole = b.pattern;
          joined = j.joined;
          spells = spells_beside s2 3 7 given gained k2 b.pattern b.stands;
          stands = j.stands;
          planned = λ tops low_changed low_whole.
              joined_is node key value changed beside s1 s2 c b.pattern j tops b.top
              low_changed low_whole;
        }
    left_mended key value (Err e) s2 given gained k2 joined = tt

    pub right_mended : {E : Type 0} (key value : ℕ) (r : Result Handle E) (s2 : SeatState View)
        (given gained : SlotId → ℕ) → Keeps 3 7 given gained s1 s2
        → IfOk r (λ node. (l r : Pattern) → Stands beside l s1 → Stands changed r s1
        → IsJoined node key value beside changed s1 s2 l r)
        → IfOk r (λ node. (c : Pattern) → Stands changed c s0
        → IsMended (λ b. joins key value b c) node beside c s0 s2)
    right_mended key value (Ok node) s2 given gained k2 joined = λ c sc.
        let b = beside_is c sc in
        let j = joined b.pattern c b.stands
        (stands_still 0 6 none none s0 s1 k1 changed c kept_changed sc) in record {
          whole = b.pattern;
          joined = j.joined;
          spells = spells_beside s2 3 7 given gained k2 b.pattern b.stands;
          stands = j.stands;
          planned = λ tops low_changed low_whole.
              joined_is node key value beside changed s1 s2 b.pattern c j b.top tops
              low_whole low_changed;
        }
    right_mended key value (Err e) s2 given gained k2 joined = tt
