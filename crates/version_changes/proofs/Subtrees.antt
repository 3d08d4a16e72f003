-- A subtree that was changed: what the seat's notes spell of it before and after.
use Rattle.std.proofs.Common.{◌≡◌, ℕ, ◌<◌, ◌≤◌, refl}
use Rattle.std.specs.Prelude.{Option, Some, None}
use Rattle.map_law.specs.plain_state.declared.slot.SlotId.{SlotId}
use Rattle.map_law.specs.plain_state.Lists.{times}
use Rattle.map_trees.specs.declared.change.Change.{Change}
use Rattle.map_law.specs.declared.view.View.{View}
use Rattle.map_law.specs.Patterns.{Pattern, branch, null}
use Rattle.map_law.specs.Plans.{joins}
use Rattle.slot_store.specs.counted_handles.Handles.{Handle}
use Rattle.slot_store.specs.acquire_retire.Seats.{SeatState}
use Rattle.version_making.specs.Building.{IsPut, put_over}
use Rattle.version_making.specs.Keeping.{Grows, Keeps, of_both, of_handle}
use Rattle.version_making.specs.Opening.{IsTaken}
use Rattle.version_making.specs.Standing.{IsTree, Stands, kid_by}
use Rattle.version_making.proofs.Standing.{spells_on}
use Rattle.version_making.proofs.Subtrees.{rough, rough_stands}
use Rattle.version_changes.specs.Changing.{IsChanged, IsChangedHere, IsGlued, IsMended}
use Rattle.version_changes.specs.Values.{value_of}
use Rattle.version_changes.proofs.Levels.{here_put, here_take, left_level, null_put, null_take, right_level}
use Rattle.version_changes.proofs.Steps.{beside_spells}

-- NULL
null_stands : (seat : SeatState View) → Stands None null seat
null_stands seat = record { tree = tt; spells = refl }

pub null_changed : (key v : ℕ) (change : Change) (node : Handle) (s0 s1 : SeatState View)
    → value_of change None ≡ Some v → IsPut node key v None None s0 s1
    → IsChanged None (Some node) key change None s0 s1
null_changed key v change node s0 s1 value put = record {
  before = null;
  after = put_over key v null null;
  spells = refl;
  stands = put null null (null_stands s0) (null_stands s0);
  alters = null_put key v change value;
}

pub null_stays : (key : ℕ) (change : Change) (s0 s1 : SeatState View) → value_of change None ≡ None
    → IsChanged None None key change None s0 s1
null_stays key change s0 s1 value = record {
  before = null;
  after = null;
  spells = refl;
  stands = null_stands s1;
  alters = null_take key change value;
}

-- THE NODE of the key, which was opened
pub here_changed : (key d v : ℕ) (change : Change) (left right : Option Handle) (node : Handle)
    (s0 s1 : SeatState View) → value_of change (Some d) ≡ Some v → IsTree left s0 → IsTree right s0
    → Grows s0.view.client s1.view.client → IsPut node key v left right s0 s1
    → IsChangedHere key d left right (Some node) key change (Some d) s0 s1
here_changed key d v change left right node s0 s1 value tl tr grows put =
    let l = rough_stands left s0 tl in let r = rough_stands right s0 tr in record {
      first = rough left s0;
      second = rough right s0;
      after = put_over key v (rough left s0) (rough right s0);
      left_spells = spells_on s0.view.client s1.view.client grows (kid_by left s0) (rough left s0) l.spells;
      right_spells = spells_on s0.view.client s1.view.client grows (kid_by right s0) (rough right s0)
          r.spells;
      stands = put (rough left s0) (rough right s0) l r;
      alters = λ h. here_put key d h v change (rough left s0) (rough right s0) value;
    }

pub here_taken : (key d : ℕ) (change : Change) (left right tree : Option Handle)
    (s0 s1 : SeatState View) → value_of change (Some d) ≡ None → IsGlued left right tree s0 s1
    → IsChangedHere key d left right tree key change (Some d) s0 s1
here_taken key d change left right tree s0 s1 value glued = record {
  first = glued.first;
  second = glued.second;
  after = glued.after;
  left_spells = glued.left_spells;
  right_spells = glued.right_spells;
  stands = glued.stands;
  alters = λ h. here_take key d h change glued.first glued.second glued.after value glued.is;
}

-- A SUBTREE was changed, and joined with the one beside it
module _ (part beside changed : Option Handle) (m n : ℕ) (s0 s1 s2 : SeatState View)
    (owned : (x : SlotId) → of_both part beside x ≤ times x s0.view.core.owned)
    (k1 : Keeps m n (of_handle part) (of_handle changed) s0 s1)
    (grows : Grows s1.view.client s2.view.client) (node : Handle) (found value key : ℕ) (change : Change)
    (answer : Option ℕ) (is : IsChanged part changed key change answer s0 s1) where
  pub left_changed : key < found
      → ((c : Pattern) → Stands changed c s1
      → IsMended (λ b. joins found value c b) node beside c s1 s2)
      → IsChangedHere found value part beside (Some node) key change answer s0 s2
  left_changed less mends =
      let mended = mends is.after is.stands in record {
        first = is.before;
        second = mended.whole;
        after = mended.joined;
        left_spells = spells_on s1.view.client s2.view.client grows (kid_by part s0) is.before is.spells;
        right_spells = beside_spells part beside changed m n s0 s1 owned k1 s2.view.client
            mended.whole mended.spells;
        stands = mended.stands;
        alters = λ h. left_level found value h key change answer is.before is.after mended.whole
            mended.joined less is.alters mended.planned;
      }

  pub right_changed : found < key
      → ((c : Pattern) → Stands changed c s1
      → IsMended (λ b. joins found value b c) node beside c s1 s2)
      → IsChangedHere found value beside part (Some node) key change answer s0 s2
  right_changed less mends =
      let mended = mends is.after is.stands in record {
        first = mended.whole;
        second = is.before;
        after = mended.joined;
        left_spells = beside_spells part beside changed m n s0 s1 owned k1 s2.view.client
            mended.whole mended.spells;
        right_spells = spells_on s1.view.client s2.view.client grows (kid_by part s0) is.before is.spells;
        stands = mended.stands;
        alters = λ h. right_level found value h key change answer is.before is.after mended.whole
            mended.joined less is.alters mended.planned;
      }

-- THE NODE over them, as it was before it was opened
pub node_changed : (node : Handle) (found value height : ℕ) (left right changed : Option Handle)
    (key : ℕ) (change : Change) (answer : Option ℕ) (s0 s1 s2 : SeatState View)
    → IsTaken node found value height left right s0 s1 → Grows s1.view.client s2.view.client
    → IsChangedHere found value left right changed key change answer s1 s2
    → IsChanged (Some node) changed key change answer s0 s2
node_changed node found value height left right changed key change answer s0 s1 s2 taken grows here =
    record {
      before = branch found value height here.first here.second;
      after = here.after;
      spells = taken.over s2.view.client grows here.first here.second here.left_spells here.right_spells;
      stands = here.stands;
      alters = here.alters height;
    }
