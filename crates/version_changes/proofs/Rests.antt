-- The least pair that was taken out of a subtree: what the seat's notes spell of it before and after.
use Rattle.std.proofs.Common.{◌≡◌, ℕ, ◌≤◌, refl, ap, sym, subst}
use Rattle.std.specs.Prelude.{Option, Some, None}
use Rattle.map_law.specs.plain_state.declared.slot.SlotId.{SlotId}
use Rattle.map_law.specs.plain_state.Lists.{times}
use Rattle.map_law.specs.declared.view.View.{View}
use Rattle.map_law.specs.Patterns.{Pattern, Spells, branch, null}
use Rattle.map_law.specs.Plans.{joins}
use Rattle.slot_store.specs.counted_handles.Handles.{Handle}
use Rattle.slot_store.specs.acquire_retire.Seats.{SeatState}
use Rattle.version_making.specs.Keeping.{Grows, Keeps, of_both, of_handle}
use Rattle.version_making.specs.Opening.{IsTaken}
use Rattle.version_making.specs.Standing.{IsTree, Stands, kid_by}
use Rattle.version_making.proofs.Keeping.{grows_same, grows_then}
use Rattle.version_making.proofs.Standing.{spells_on}
use Rattle.version_making.proofs.Subtrees.{rough, rough_stands}
use Rattle.version_changes.specs.Changing.{IsGlued, IsLeast, IsMended}
use Rattle.version_changes.proofs.Leasts.{glue_level, least_level}
use Rattle.version_changes.proofs.Steps.{beside_spells}

-- THE NODE of the least pair
pub least_end : (node : Handle) (key value height : ℕ) (left right : Option Handle)
    (s0 s1 : SeatState View) → left ≡ None → IsTaken node key value height left right s0 s1
    → IsLeast node key value right s0 s1
least_end node key value height left right s0 s1 end taken =
    let r = rough_stands right s1 taken.right_tree in record {
      root = key;
      found = value;
      high = height;
      left = null;
      right = rough right s1;
      after = rough right s1;
      spells = taken.over s1.view.client (grows_same s1.view.client s1.view.client refl) null
          (rough right s1) (ap (λ (k : Option Handle). kid_by k s1) end) r.spells;
      stands = r;
      is = λ trees fl fr balanced low. (fr, refl, refl);
    }

-- A NODE over the subtree that has it
module _ (node first mid : Handle) (key value height : ℕ) (left right rest : Option Handle)
    (m n least_key least_value : ℕ) (s0 s1 s2 s3 : SeatState View) (some : left ≡ Some first)
    (taken : IsTaken node key value height left right s0 s1)
    (owned : (x : SlotId) → of_both (Some first) right x ≤ times x s1.view.core.owned)
    (k2 : Keeps m n (of_handle (Some first)) (of_handle rest) s1 s2)
    (grows : Grows s2.view.client s3.view.client)
    (is : IsLeast first least_key least_value rest s1 s2)
    (mends : (c : Pattern) → Stands rest c s2
    → IsMended (λ b. joins key value c b) mid right c s2 s3) where
  pub least_node : IsLeast node least_key least_value (Some mid) s0 s3
  least_node =
      let mended = mends is.after is.stands in record {
        root = key;
        found = value;
        high = height;
        left = branch is.root is.found is.high is.left is.right;
        right = mended.whole;
        after = mended.joined;
        spells = taken.over s3.view.client
            (grows_then s1.view.client s2.view.client s3.view.client k2.grows grows)
            (branch is.root is.found is.high is.left is.right) mended.whole
            (subst (λ (k : Option Handle). Spells s3.view.client (kid_by k s1)
            (branch is.root is.found is.high is.left is.right)) (sym some)
            (spells_on s2.view.client s3.view.client grows (kid_by (Some first) s1)
            (branch is.root is.found is.high is.left is.right) is.spells))
            (beside_spells (Some first) right rest m n s1 s2 owned k2 s3.view.client mended.whole
            mended.spells);
        stands = mended.stands;
        is = least_level key value height is.root is.found is.high is.left is.right mended.whole
            least_key least_value is.after mended.joined is.is mended.planned;
      }

-- TWO SUBTREES, the right one of which is null
pub glued_null : (left right : Option Handle) (seat : SeatState View) → right ≡ None
    → IsTree left seat → IsGlued left right left seat seat
glued_null left right seat end tree =
    let l = rough_stands left seat tree in record {
      first = rough left seat;
      second = null;
      after = rough left seat;
      left_spells = l.spells;
      right_spells = ap (λ (k : Option Handle). kid_by k seat) end;
      stands = l;
      is = λ trees fl fr bl br x y low lower. (fl, refl);
    }

-- or has a least pair, which comes up
module _ (first mid : Handle) (left right rest : Option Handle) (m n key value : ℕ)
    (s0 s1 s2 : SeatState View) (some : right ≡ Some first)
    (owned : (x : SlotId) → of_both (Some first) left x ≤ times x s0.view.core.owned)
    (k1 : Keeps m n (of_handle (Some first)) (of_handle rest) s0 s1)
    (grows : Grows s1.view.client s2.view.client) (is : IsLeast first key value rest s0 s1)
    (mends : (c : Pattern) → Stands rest c s1
    → IsMended (λ b. joins key value b c) mid left c s1 s2) where
  pub glued_node : IsGlued left right (Some mid) s0 s2
  glued_node =
      let mended = mends is.after is.stands in record {
        first = mended.whole;
        second = branch is.root is.found is.high is.left is.right;
        after = mended.joined;
        left_spells = beside_spells (Some first) left rest m n s0 s1 owned k1 s2.view.client
            mended.whole mended.spells;
        right_spells = subst (λ (k : Option Handle). Spells s2.view.client (kid_by k s0)
            (branch is.root is.found is.high is.left is.right)) (sym some)
            (spells_on s1.view.client s2.view.client grows (kid_by (Some first) s0)
            (branch is.root is.found is.high is.left is.right) is.spells);
        stands = mended.stands;
        is = glue_level is.root is.found is.high mended.whole is.left is.right key value is.after
            mended.joined is.is mended.planned;
      }
