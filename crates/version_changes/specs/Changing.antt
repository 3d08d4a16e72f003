-- A subtree before and after a change of one key.
use Rattle.std.specs.Prelude.{ℕ, ◌≡◌, ◌<◌, ◌≤◌, ◌^◌, suc, Option, Some}
use Rattle.map_law.specs.plain_state.declared.slot.SlotId.{SlotId}
use Rattle.map_trees.specs.Trees.{Balanced, Shaped, Tree, height, pair, pairs}
use Rattle.map_trees.specs.Maps.{get}
use Rattle.map_trees.specs.Balance.{altered, first_of, glue, rest_of}
use Rattle.map_trees.specs.declared.change.Change.{Change}
use Rattle.map_law.specs.declared.view.View.{View}
use Rattle.map_law.specs.Patterns.{Fits, Pattern, Spells, branch, filled}
use Rattle.map_law.specs.Plans.{height_of}
use Rattle.slot_store.specs.counted_handles.Handles.{Handle}
use Rattle.slot_store.specs.acquire_retire.Domains.{DomainState}
use Rattle.slot_store.specs.acquire_retire.Seats.{SeatState}
use Rattle.version_making.specs.Building.{IsWhy}
use Rattle.version_making.specs.Joining.{IsLow}
use Rattle.version_making.specs.Standing.{Stands, kid_by}
use Rattle.version_changes.specs.Showing.{IsLonger, ShowsTop}
use Rattle.version_changes.specs.declared.outcome.ChangeError.{ChangeError}
use Rattle.version_changes.specs.declared.outcome.ChangeError.TheVariants as error

-- One pattern is another one with the change, for these trees in the holes, and this is what the key had. Where it is
-- the higher one, it shows its top.
pub record IsAltered (key : ℕ) (change : Change) (answer : Option ℕ) (before after : Pattern)
    (trees : SlotId → Tree) : Type 0 where
  pub fits : Fits trees after
  pub altered : filled trees after ≡ altered key change (filled trees before)
  pub answered : answer ≡ get key (pairs (filled trees before))
  pub top : height_of before < height_of after → ShowsTop after

-- so it is whatever stands in the holes, where the first one is a balanced search tree that isn't too high
abbrev pub Alters : ℕ → Change → Option ℕ → Pattern → Pattern → Type 0
Alters key change answer before after =
    (trees : SlotId → Tree) → Fits trees before → Shaped (filled trees before)
    → height (filled trees before) < 2 ^ 62 → IsAltered key change answer before after trees

-- The notes spell a pattern from the old tree on, and one from the new tree on, which is the first one with the change.
pub record IsChanged (tree changed : Option Handle) (key : ℕ) (change : Change) (answer : Option ℕ)
    (old new : SeatState View) : Type 0 where
  pub before : Pattern
  pub after : Pattern
  pub spells : Spells new.view.client (kid_by tree old) before
  pub stands : Stands changed after new
  pub alters : Alters key change answer before after

-- the same of a node that was opened: the notes spell one pattern from its left subtree on, and one from the right one
pub record IsChangedHere (found value : ℕ) (left right changed : Option Handle) (key : ℕ)
    (change : Change) (answer : Option ℕ) (old new : SeatState View) : Type 0 where
  pub first : Pattern
  pub second : Pattern
  pub after : Pattern
  pub left_spells : Spells new.view.client (kid_by left old) first
  pub right_spells : Spells new.view.client (kid_by right old) second
  pub stands : Stands changed after new
  pub alters :
      (height : ℕ) → Alters key change answer (branch found value height first second) after

-- A subtree that was changed and the one beside it were joined as a plan tells, where the first one shows its top if
-- it is higher by 2 or more, and no height is 2^63 or more.
pub record IsMended (plan : Pattern → Option Pattern) (node : Handle) (beside : Option Handle)
    (changed : Pattern) (old new : SeatState View) : Type 0 where
  pub whole : Pattern
  pub joined : Pattern
  pub spells : Spells new.view.client (kid_by beside old) whole
  pub stands : Stands (Some node) joined new
  pub planned :
      (suc (height_of whole) < height_of changed → ShowsTop changed) → IsLow changed → IsLow whole
      → plan whole ≡ Some joined

-- the least pair of a node, and its tree without it
pub record IsLeast (node : Handle) (key value : ℕ) (rest : Option Handle)
    (old new : SeatState View) : Type 0 where
  pub root : ℕ
  pub found : ℕ
  pub high : ℕ
  pub left : Pattern
  pub right : Pattern
  pub after : Pattern
  pub spells : Spells new.view.client (kid_by (Some node) old) (branch root found high left right)
  pub stands : Stands rest after new
  pub is :
      (trees : SlotId → Tree) → Fits trees left → Fits trees right
      → Balanced (filled trees (branch root found high left right)) → high < 2 ^ 62
      → Fits trees after
      × (pair key value ≡ first_of root found (filled trees left))
      × (filled trees after ≡ rest_of root found (filled trees left) (filled trees right))

-- two subtrees as one tree
pub record IsGlued (left right glued : Option Handle) (old new : SeatState View) : Type 0 where
  pub first : Pattern
  pub second : Pattern
  pub after : Pattern
  pub left_spells : Spells new.view.client (kid_by left old) first
  pub right_spells : Spells new.view.client (kid_by right old) second
  pub stands : Stands glued after new
  pub is :
      (trees : SlotId → Tree) → Fits trees first → Fits trees second
      → Balanced (filled trees first) → Balanced (filled trees second)
      → height_of first ≤ suc (height_of second) → height_of second ≤ suc (height_of first)
      → height_of first < 2 ^ 62 → height_of second < 2 ^ 62
      → Fits trees after × (filled trees after ≡ glue (filled trees first) (filled trees second))

-- why a call changed nothing
abbrev pub IsRefusal : {P : Type 0} → DomainState P → ChangeError → Option Handle → ℕ
    → SeatState View → SeatState View → Type 0
IsRefusal d (error.Refused why) tree levels old new = IsWhy d why old new
IsRefusal d error.TooLong tree levels old new = IsLonger tree levels old new
