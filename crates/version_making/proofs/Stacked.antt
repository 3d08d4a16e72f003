-- A node that is made over one that was made before it.
use Rattle.std.proofs.Common.{◌≡◌, ℕ, ◌+◌, ◌≤◌, arith}
use Rattle.std.specs.Prelude.{IfOk, Ok, Err, Option, Result, Some}
use Rattle.map_law.specs.plain_state.declared.slot.SlotId.{SlotId}
use Rattle.map_law.specs.plain_state.Lists.{times}
use Rattle.map_law.specs.declared.view.View.{View}
use Rattle.map_law.specs.Patterns.{Pattern}
use Rattle.slot_store.specs.counted_handles.Handles.{Handle}
use Rattle.slot_store.specs.acquire_retire.Seats.{SeatState}
use Rattle.version_making.specs.Building.{IsPut, put_over}
use Rattle.version_making.specs.Keeping.{Keeps, none, of_answer, of_both, of_handle}
use Rattle.version_making.specs.Standing.{IsTree, Stands}
use Rattle.version_making.proofs.Keeping.{keeps_then}
use Rattle.version_making.proofs.Standing.{IsKept, stands_still, tree_still}

module _ (first second third : Option Handle) (lower : Handle) (s0 s1 s2 : SeatState View)
    (owned : (x : SlotId) → of_both first second x + of_handle third x ≤ times x s0.view.core.owned)
    (k1 : Keeps 1 1 (of_both first second) (of_handle (Some lower)) s0 s1) where
  kept_third : IsKept (of_both first second) third s0
  kept_third x = owned x

  pub third_tree : IsTree third s0 → IsTree third s1
  third_tree = tree_still 1 1 (of_both first second) (of_handle (Some lower)) s0 s1 k1 third kept_third

  pub third_stands : (pat : Pattern) → Stands third pat s0 → Stands third pat s1
  third_stands pat =
      stands_still 1 1 (of_both first second) (of_handle (Some lower)) s0 s1 k1 third pat kept_third

  -- it is on the left, or on the right
  pub left_keeps : {E : Type 0} (r : Result Handle E)
      → Keeps 1 1 (of_both (Some lower) third) (of_answer r) s1 s2
      → Keeps 2 2 (λ x. of_both first second x + of_handle third x) (of_answer r) s0 s2
  left_keeps r k2 =
      keeps_then 1 1 1 1 (of_both first second) (of_handle (Some lower))
      (of_both (Some lower) third) (of_answer r)
      (λ x. of_both first second x + of_handle third x) (of_answer r) s0 s1 s2 k1 k2
      (λ x. (omega arith, omega arith, omega arith))

  pub right_keeps : {E : Type 0} (r : Result Handle E)
      → Keeps 1 1 (of_both third (Some lower)) (of_answer r) s1 s2
      → Keeps 2 2 (λ x. of_handle third x + of_both first second x) (of_answer r) s0 s2
  right_keeps r k2 =
      keeps_then 1 1 1 1 (of_both first second) (of_handle (Some lower))
      (of_both third (Some lower)) (of_answer r)
      (λ x. of_handle third x + of_both first second x) (of_answer r) s0 s1 s2 k1 k2
      (λ x. (omega arith, omega arith, omega arith))

  module _ (low_key low_value key value : ℕ)
      (put : IsPut lower low_key low_value first second s0 s1) where
    pub left_put : {E : Type 0} (r : Result Handle E)
        → IfOk r (λ node. IsPut node key value (Some lower) third s1 s2)
        → IfOk r (λ node. (l m r : Pattern) → Stands first l s0 → Stands second m s0
        → Stands third r s0
        → Stands (Some node) (put_over key value (put_over low_key low_value l m) r) s2)
    left_put (Ok node) over = λ l m r sl sm sr.
        over (put_over low_key low_value l m) r (put l m sl sm) (third_stands r sr)
    left_put (Err e) over = tt

    pub right_put : {E : Type 0} (r : Result Handle E)
        → IfOk r (λ node. IsPut node key value third (Some lower) s1 s2)
        → IfOk r (λ node. (l m r : Pattern) → Stands third l s0 → Stands first m s0
        → Stands second r s0
        → Stands (Some node) (put_over key value l (put_over low_key low_value m r)) s2)
    right_put (Ok node) over = λ l m r sl sm sr.
        over l (put_over low_key low_value m r) (third_stands l sl) (put m r sm sr)
    right_put (Err e) over = tt

-- what a refusal gave up
pub refused_three : (g h : SlotId → ℕ) (s0 s1 s2 : SeatState View) → Keeps 1 1 g none s0 s1
    → Keeps 0 0 h none s1 s2 → (given : SlotId → ℕ)
    → ((x : SlotId) → given x ≡ g x + h x) → Keeps 1 1 given none s0 s2
refused_three g h s0 s1 s2 k1 k2 given sum =
    keeps_then 1 1 0 0 g none h none given none s0 s1 s2 k1 k2
    (λ x. let e = sum x in (omega (arith, e), omega arith, omega (arith, e)))

-- THREE NODES over four subtrees
module _ (first second third fourth : Option Handle) (lower : Handle) (s0 s1 s2 : SeatState View)
    (owned : (x : SlotId)
    → of_both first second x + of_both third fourth x ≤ times x s0.view.core.owned)
    (k1 : Keeps 1 1 (of_both first second) (of_handle (Some lower)) s0 s1) where
  kept_one : IsKept (of_both first second) third s0
  kept_one x = let o = owned x in omega (arith, o)

  kept_two : IsKept (of_both first second) fourth s0
  kept_two x = let o = owned x in omega (arith, o)

  pub two_trees : IsTree third s0 → IsTree fourth s0 → IsTree third s1 × IsTree fourth s1
  two_trees t f = (
    tree_still 1 1 (of_both first second) (of_handle (Some lower)) s0 s1 k1 third kept_one t,
    tree_still 1 1 (of_both first second) (of_handle (Some lower)) s0 s1 k1 fourth kept_two f,
  )

  pub both_keeps : {E : Type 0} (r : Result Handle E)
      → Keeps 2 2 (λ x. of_handle (Some lower) x + of_both third fourth x) (of_answer r) s1 s2
      → Keeps 3 3 (λ x. of_both first second x + of_both third fourth x) (of_answer r) s0 s2
  both_keeps r k2 =
      keeps_then 1 1 2 2 (of_both first second) (of_handle (Some lower))
      (λ x. of_handle (Some lower) x + of_both third fourth x) (of_answer r)
      (λ x. of_both first second x + of_both third fourth x) (of_answer r) s0 s1 s2 k1 k2
      (λ x. (omega arith, omega arith, omega arith))

  pub both_put : {E : Type 0} (r : Result Handle E) (lk lv rk rv key value : ℕ)
      → IsPut lower lk lv first second s0 s1
      → IfOk r (λ node. (l m r : Pattern) → Stands (Some lower) l s1 → Stands third m s1
      → Stands fourth r s1
      → Stands (Some node) (put_over key value l (put_over rk rv m r)) s2)
      → IfOk r (λ node. (k l m n : Pattern) → Stands first k s0 → Stands second l s0
      → Stands third m s0 → Stands fourth n s0
      → Stands (Some node) (put_over key value (put_over lk lv k l) (put_over rk rv m n)) s2)
  both_put (Ok node) lk lv rk rv key value put over = λ k l m n sk sl sm sn.
      over (put_over lk lv k l) m n (put k l sk sl)
      (stands_still 1 1 (of_both first second) (of_handle (Some lower)) s0 s1 k1 third m kept_one sm)
      (stands_still 1 1 (of_both first second) (of_handle (Some lower)) s0 s1 k1 fourth n kept_two sn)
  both_put (Err e) lk lv rk rv key value put over = tt
