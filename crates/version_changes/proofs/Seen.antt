-- What a seat sees of a subtree: its root, and those of its subtrees.
use Rattle.std.proofs.Common.{◌≡◌, ℕ, ◌<◌, ◌≤◌, refl, subst, arith}
use Rattle.std.specs.Prelude.{Option, Some, None}
use Rattle.map_law.specs.plain_state.declared.slot.SlotId.{SlotId}
use Rattle.map_law.specs.plain_state.Lists.{times}
use Rattle.map_law.specs.declared.view.Kid.{Kid}
use Rattle.map_law.specs.declared.view.View.{View}
use Rattle.map_law.specs.Patterns.{Spells, branch, null}
use Rattle.map_law.specs.Plans.{height_of}
use Rattle.slot_store.specs.core_events.Counts.{one}
use Rattle.slot_store.specs.counted_handles.Handles.{Handle}
use Rattle.slot_store.specs.acquire_retire.Seats.{SeatState}
use Rattle.version_making.specs.Building.{height_by}
use Rattle.version_making.specs.Keeping.{Keeps, OwnsBoth, none, of_both, of_handle}
use Rattle.version_making.specs.Opening.{IsOpened, IsTaken}
use Rattle.version_making.specs.Standing.{IsTree, kid_by}
use Rattle.version_making.proofs.Keeping.{grows_then, keeps_most, keeps_then}
use Rattle.version_making.proofs.Standing.{IsKept, height_still, kid_still, spells_on, tree_still}
use Rattle.version_making.proofs.Subtrees.{rough, rough_stands}
use Rattle.version_changes.specs.Showing.{IsRead, IsSeen}

-- NULL
pub null_read : (s0 s1 : SeatState View) → IsRead None s0 s1
null_read s0 s1 = record {
  pattern = null;
  spells = refl;
  root = λ (up : 0 < 0). absurd (omega (arith, up));
}

-- A ROOT is opened, and all references given up
module _ (node : Handle) (left right : Option Handle) (s0 s1 s2 s3 : SeatState View)
    (k1 : Keeps 0 2 (λ x. one x node.slot) (of_both left right) s0 s1)
    (k2 : Keeps 0 0 (of_handle left) none s1 s2) (k3 : Keeps 0 0 (of_handle right) none s2 s3) where
  pub root_keeps : Keeps 0 2 (of_handle (Some node)) none s0 s3
  root_keeps =
      keeps_then 0 2 0 0 (λ x. one x node.slot) (of_both left right) (of_both left right) none
      (of_handle (Some node)) none s0 s1 s3 k1
      (keeps_then 0 0 0 0 (of_handle left) none (of_handle right) none (of_both left right) none
      s1 s2 s3 k2 k3 (λ x. (omega arith, omega arith, omega arith)))
      (λ x. (omega arith, omega arith, omega arith))

  pub root_read : (key value height : ℕ) → IsTree (Some node) s0
      → IsTaken node key value height left right s0 s1 → IsRead (Some node) s0 s3
  root_read key value height tree taken =
      let t = taken.stands (rough (Some node) s0) (rough_stands (Some node) s0 tree) in record {
        pattern = branch key value height t.0 t.1;
        spells = spells_on s1.view.client s3.view.client
            (grows_then s1.view.client s2.view.client s3.view.client k2.grows k3.grows)
            (kid_by (Some node) s0) (branch key value height t.0 t.1) t.4;
        root = λ up. tt;
      }

module _ (left right : Option Handle) (s1 : SeatState View) (given : SlotId → ℕ)
    (s0 : SeatState View) (k1 : Keeps 0 2 given (of_both left right) s0 s1)
    (owned : (x : SlotId) → given x ≤ times x s0.view.core.owned) where
  pub owns_kids : OwnsBoth left right s1
  owns_kids x = let o = k1.owns x in let p = owned x in omega (arith, o, p)

-- A NODE is opened, and its subtrees are seen
module _ (node : Handle) (left right : Option Handle) (s0 s1 s2 s3 : SeatState View)
    (k1 : Keeps 0 2 none (of_both left right) s0 s1) (k2 : Keeps 0 2 (of_handle left) none s1 s2) where
  owns : OwnsBoth left right s1
  owns x = let o = k1.owns x in omega (arith, o)

  kept_right : IsKept (of_handle left) right s1
  kept_right x = owns x

  pub owned_left : (x : SlotId) → of_handle left x ≤ times x s1.view.core.owned
  owned_left x = let o = owns x in omega (arith, o)

  pub owned_right : (x : SlotId) → of_handle right x ≤ times x s2.view.core.owned
  owned_right x = let o = owns x in let p = k2.owns x in omega (arith, o, p)

  pub right_tree : IsTree right s1 → IsTree right s2
  right_tree = tree_still 0 2 (of_handle left) none s1 s2 k2 right kept_right

  pub top_keeps : Keeps 0 2 (of_handle right) none s2 s3 → Keeps 0 6 none none s0 s3
  top_keeps k3 =
      keeps_then 0 2 0 4 none (of_both left right) (of_both left right) none none none s0 s1 s3 k1
      (keeps_then 0 2 0 2 (of_handle left) none (of_handle right) none (of_both left right) none
      s1 s2 s3 k2 k3 (λ x. (omega arith, omega arith, omega arith)))
      (λ x. (omega arith, omega arith, omega arith))

  pub top_refused : Keeps 0 0 (of_handle right) none s2 s3 → Keeps 0 6 none none s0 s3
  top_refused k3 = top_keeps
      (keeps_most 0 0 0 2 (of_handle right) none s2 s3 (omega arith) (omega arith) k3)

  pub top_seen : Keeps 0 2 (of_handle right) none s2 s3 → (key value height : ℕ)
      → IsOpened node key value height left right s0 s1 → IsRead left s1 s2 → IsRead right s2 s3
      → IsSeen (Some node) s0 s3
  top_seen k3 key value height opened l r = record {
    pattern = branch key value height l.pattern r.pattern;
    spells = opened.over s3.view.client
        (grows_then s1.view.client s2.view.client s3.view.client k2.grows k3.grows) l.pattern r.pattern
        (spells_on s2.view.client s3.view.client k3.grows (kid_by left s1) l.pattern l.spells)
        (subst (λ (k : Option Kid). Spells s3.view.client k r.pattern)
        (kid_still 0 2 (of_handle left) none s1 s2 k2 right kept_right) r.spells);
    top = (
      λ (less : height_of l.pattern < height_of r.pattern). r.root (omega (arith, less)),
      λ (less : height_of r.pattern < height_of l.pattern). l.root (omega (arith, less)),
    );
  }

-- TWO HEIGHTS are read first
module _ (changed beside : Option Handle) (s0 s1 s2 : SeatState View) (owned : OwnsBoth changed beside s0)
    (k1 : Keeps 0 0 none none s0 s1) (k2 : Keeps 0 0 none none s1 s2) where
  both : Keeps 0 0 none none s0 s2
  both = keeps_then 0 0 0 0 none none none none none none s0 s1 s2 k1 k2
      (λ x. (omega arith, omega arith, refl))

  kept_beside : IsKept none beside s0
  kept_beside x = let o = owned x in omega (arith, o)

  pub owned_beside : (x : SlotId) → of_handle beside x ≤ times x s1.view.core.owned
  owned_beside x = let o = owned x in let p = k1.owns x in omega (arith, o, p)

  pub owned_later : (x : SlotId) → of_handle beside x ≤ times x s2.view.core.owned
  owned_later x = let o = owned x in let p = both.owns x in omega (arith, o, p)

  pub beside_later : IsTree beside s0 → IsTree beside s2
  beside_later = tree_still 0 0 none none s0 s2 both beside kept_beside

  pub beside_keeps : (s3 : SeatState View) → Keeps 0 6 none none s2 s3 → Keeps 0 6 none none s0 s3
  beside_keeps s3 k3 =
      keeps_then 0 0 0 6 none none none none none none s0 s2 s3 both k3
      (λ x. (omega arith, omega arith, refl))

  pub beside_plain : Keeps 0 6 none none s0 s2
  beside_plain = keeps_most 0 0 0 6 none none s0 s2 (omega arith) (omega arith) both

  pub height_beside : height_by beside s1 ≡ height_by beside s0
  height_beside = height_still 0 0 none none s0 s1 k1 beside kept_beside

  pub beside_seen : (s3 : SeatState View) → IsSeen beside s2 s3 → IsSeen beside s0 s3
  beside_seen s3 seen = record {
    pattern = seen.pattern;
    spells = subst (λ (k : Option Kid). Spells s3.view.client k seen.pattern)
        (kid_still 0 0 none none s0 s2 both beside kept_beside) seen.spells;
    top = seen.top;
  }
