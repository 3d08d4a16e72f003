-- A node that was opened, and the reference to it given up.
use Rattle.std.proofs.Common.{ℕ, ◌<◌, ◌≤◌, subst, arith}
use Rattle.std.specs.Prelude.{Option, Some}
use Rattle.map_law.specs.plain_state.declared.slot.SlotId.{SlotId}
use Rattle.map_law.specs.plain_state.Lists.{times}
use Rattle.map_law.specs.declared.view.Kid.{Kid}
use Rattle.map_law.specs.declared.view.View.{View}
use Rattle.map_law.specs.Patterns.{Spells, branch}
use Rattle.slot_store.specs.core_events.Counts.{one}
use Rattle.slot_store.specs.counted_handles.Handles.{Handle}
use Rattle.slot_store.specs.acquire_retire.Seats.{SeatState}
use Rattle.slot_store.proofs.Below.core_law_Kit.{times_without}
use Rattle.version_making.specs.Keeping.{Keeps, none, of_both}
use Rattle.version_making.specs.Opening.{IsOpened, IsTaken}
use Rattle.version_making.specs.Standing.{kid_by}
use Rattle.version_making.proofs.Keeping.{grows_then, keeps_then}
use Rattle.version_making.proofs.Standing.{IsKept, kid_still, spells_on, stands_still, tree_still}

-- one reference of a slot that is owned
pub one_owned : (s : SlotId) (a : SeatState View) → 0 < times s a.view.core.owned → (x : SlotId)
    → one x s ≤ times x a.view.core.owned
one_owned s a owned x = let w = times_without x s a.view.core.owned owned in omega (arith, w)

pub still_owned : (s : SlotId) (n : ℕ) (gained : SlotId → ℕ) (a b : SeatState View)
    → Keeps 0 n none gained a b → 0 < times s a.view.core.owned → (x : SlotId)
    → one x s ≤ times x b.view.core.owned
still_owned s n gained a b keeps owned x =
    let o = keeps.owns x in let p = one_owned s a owned x in omega (arith, o, p)

pub refused_taken : (s : SlotId) (s0 s1 s2 : SeatState View) → Keeps 0 2 none none s0 s1
    → Keeps 0 0 (λ x. one x s) none s1 s2 → Keeps 0 2 (λ x. one x s) none s0 s2
refused_taken s s0 s1 s2 k1 k2 =
    keeps_then 0 2 0 0 none none (λ x. one x s) none (λ x. one x s) none s0 s1 s2 k1 k2
    (λ x. (omega arith, omega arith, omega arith))

module _ (node : Handle) (left right : Option Handle) (s0 s1 s2 : SeatState View)
    (owned : 0 < times node.slot s0.view.core.owned)
    (k1 : Keeps 0 2 none (of_both left right) s0 s1)
    (k2 : Keeps 0 0 (λ x. one x node.slot) none s1 s2) where
  pub keeps_taken : Keeps 0 2 (λ x. one x node.slot) (of_both left right) s0 s2
  keeps_taken =
      keeps_then 0 2 0 0 none (of_both left right) (λ x. one x node.slot) none
      (λ x. one x node.slot) (of_both left right) s0 s1 s2 k1 k2
      (λ x. (omega arith, omega arith, omega arith))

  kept_left : IsKept (λ x. one x node.slot) left s1
  kept_left x = let o = k1.owns x in let p = one_owned node.slot s0 owned x in omega (arith, o, p)

  kept_right : IsKept (λ x. one x node.slot) right s1
  kept_right x = let o = k1.owns x in let p = one_owned node.slot s0 owned x in omega (arith, o, p)

  pub is_taken : (key value height : ℕ) → IsOpened node key value height left right s0 s1
      → IsTaken node key value height left right s0 s2
  is_taken key value height o = record {
    payload = o.payload;
    left_tree = tree_still 0 0 (λ x. one x node.slot) none s1 s2 k2 left kept_left o.left_tree;
    right_tree = tree_still 0 0 (λ x. one x node.slot) none s1 s2 k2 right kept_right o.right_tree;
    stands = λ pat st.
        let t = o.stands pat st in
        let same = kid_still 0 2 none (of_both left right) s0 s1 k1 (Some node)
        (λ x. let p = one_owned node.slot s0 owned x in omega (arith, p)) in (
          t.0,
          t.1,
          stands_still 0 0 (λ x. one x node.slot) none s1 s2 k2 left t.0 kept_left t.2,
          stands_still 0 0 (λ x. one x node.slot) none s1 s2 k2 right t.1 kept_right t.3,
          subst (λ (k : Option Kid). Spells s2.view.client k (branch key value height t.0 t.1)) same
              (spells_on s1.view.client s2.view.client k2.grows (kid_by (Some node) s1)
              (branch key value height t.0 t.1) t.4.spells),
          t.5,
        );
    over = λ w grows a b sa sb.
        o.over w (grows_then s1.view.client s2.view.client w k2.grows grows) a b
        (subst (λ (k : Option Kid). Spells w k a)
        (kid_still 0 0 (λ x. one x node.slot) none s1 s2 k2 left kept_left) sa)
        (subst (λ (k : Option Kid). Spells w k b)
        (kid_still 0 0 (λ x. one x node.slot) none s1 s2 k2 right kept_right) sb);
  }
