-- A node that was opened comes up over two.
use Rattle.std.proofs.Common.{ℕ, ◌+◌, ◌≤◌, arith}
use Rattle.std.specs.Prelude.{IfOk, Ok, Err, Option, Result, Some}
use Rattle.map_law.specs.plain_state.declared.slot.SlotId.{SlotId}
use Rattle.map_law.specs.plain_state.Lists.{times}
use Rattle.map_law.specs.declared.view.View.{View}
use Rattle.map_law.specs.Patterns.{Pattern, branch}
use Rattle.slot_store.specs.core_events.Counts.{one}
use Rattle.slot_store.specs.counted_handles.Handles.{Handle}
use Rattle.slot_store.specs.acquire_retire.Seats.{SeatState}
use Rattle.version_making.specs.Building.{put_over}
use Rattle.version_making.specs.Joining.{IsTurned}
use Rattle.version_making.specs.Keeping.{Keeps, none, of_answer, of_both, of_handle}
use Rattle.version_making.specs.Opening.{IsTaken}
use Rattle.version_making.specs.Standing.{IsTree, Stands, kid_by}
use Rattle.version_making.proofs.Keeping.{keeps_most, keeps_then}
use Rattle.version_making.proofs.Standing.{IsKept, spells_on, stands_still, tree_still}

module _ (first last : Option Handle) (mid : Handle) (s0 s1 : SeatState View)
    (owned : (x : SlotId) → one x mid.slot + of_both first last x ≤ times x s0.view.core.owned) where
  abbrev given : SlotId → ℕ
  given x = one x mid.slot

  kept_first : IsKept given first s0
  kept_first x = let o = owned x in omega (arith, o)

  kept_last : IsKept given last s0
  kept_last x = let o = owned x in omega (arith, o)

  pub refused_turn : (s2 s3 : SeatState View) → Keeps 0 2 given none s0 s1
      → Keeps 0 0 (of_handle first) none s1 s2 → Keeps 0 0 (of_handle last) none s2 s3
      → Keeps 3 5 (λ x. one x mid.slot + of_both first last x) none s0 s3
  refused_turn s2 s3 k1 k2 k3 =
      keeps_most 0 2 3 5 (λ x. one x mid.slot + of_both first last x) none s0 s3 (omega arith)
      (omega arith)
      (keeps_then 0 2 0 0 given none (of_both first last) none
      (λ x. one x mid.slot + of_both first last x) none s0 s1 s3 k1
      (keeps_then 0 0 0 0 (of_handle first) none (of_handle last) none (of_both first last) none
      s1 s2 s3 k2 k3 (λ x. (omega arith, omega arith, omega arith)))
      (λ x. (omega arith, omega arith, omega arith)))

  module _ (left right : Option Handle) (k1 : Keeps 0 2 given (of_both left right) s0 s1) where
    pub owned_four : (x : SlotId)
        → of_both first left x + of_both right last x ≤ times x s1.view.core.owned
    owned_four x = let o = owned x in let p = k1.owns x in omega (arith, o, p)

    pub trees_four : IsTree first s0 → IsTree left s1 → IsTree right s1 → IsTree last s0
        → IsTree first s1 × IsTree left s1 × IsTree right s1 × IsTree last s1
    trees_four a b c d = (
      tree_still 0 2 given (of_both left right) s0 s1 k1 first kept_first a,
      b,
      c,
      tree_still 0 2 given (of_both left right) s0 s1 k1 last kept_last d,
    )

    module _ {E : Type 0} (s2 : SeatState View) (r : Result Handle E)
        (k2 : Keeps 3 3 (λ x. of_both first left x + of_both right last x) (of_answer r) s1 s2)
      where
        pub turn_keeps : Keeps 3 5 (λ x. one x mid.slot + of_both first last x) (of_answer r) s0 s2
        turn_keeps =
            keeps_then 0 2 3 3 given (of_both left right)
            (λ x. of_both first left x + of_both right last x) (of_answer r)
            (λ x. one x mid.slot + of_both first last x) (of_answer r) s0 s1 s2 k1 k2
            (λ x. (omega arith, omega arith, omega arith))

        pub turn_ok : (fk fv lk lv key value height : ℕ)
            → IsTaken mid key value height left right s0 s1
            → IfOk r (λ node. (k l m n : Pattern) → Stands first k s1 → Stands left l s1
            → Stands right m s1 → Stands last n s1
            → Stands (Some node) (put_over key value (put_over fk fv k l) (put_over lk lv m n)) s2)
            → IfOk r (λ node. (a m d : Pattern) → Stands first a s0 → Stands (Some mid) m s0
            → Stands last d s0 → IsTurned node mid fk fv lk lv s0 s2 a m d)
        turn_ok fk fv lk lv key value height taken put = go r put
          where
            go : (o : Result Handle E)
                → IfOk o (λ node. (k l m n : Pattern) → Stands first k s1 → Stands left l s1
                → Stands right m s1 → Stands last n s1
                → Stands (Some node) (put_over key value (put_over fk fv k l) (put_over lk lv m n))
                s2)
                → IfOk o (λ node. (a m d : Pattern) → Stands first a s0 → Stands (Some mid) m s0
                → Stands last d s0 → IsTurned node mid fk fv lk lv s0 s2 a m d)
            go (Ok node) put = λ a m d sa sm sd.
                let t = taken.stands m sm in record {
                  key = key;
                  value = value;
                  height = height;
                  left = t.0;
                  right = t.1;
                  opens = t.5;
                  spells = spells_on s1.view.client s2.view.client k2.grows (kid_by (Some mid) s0)
                      (branch key value height t.0 t.1) t.4;
                  stands = put a t.0 t.1 d
                      (stands_still 0 2 given (of_both left right) s0 s1 k1 first a kept_first sa)
                      t.2 t.3
                      (stands_still 0 2 given (of_both left right) s0 s1 k1 last d kept_last sd);
                }
            go (Err e) put = tt
