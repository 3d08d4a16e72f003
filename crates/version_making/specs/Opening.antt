-- A node that a seat opens: its words, and references to its subtrees.
use Rattle.std.specs.Prelude.{ℕ, ◌≡◌, ◌⊎◌, Option, Some, Result, Ok, Err}
use Rattle.map_law.specs.plain_state.declared.slot.SlotId.{SlotId}
use Rattle.map_law.specs.declared.view.Led.{Led}
use Rattle.map_law.specs.declared.view.View.{View}
use Rattle.map_law.specs.Views.{In}
use Rattle.map_law.specs.Nodes.{words}
use Rattle.map_law.specs.Patterns.{Pattern, Spells, branch, hole}
use Rattle.map_law.specs.Plans.{height_of}
use Rattle.slot_store.specs.counted_handles.Handles.{Handle}
use Rattle.slot_store.specs.domain_rule.Views.{object_in}
use Rattle.slot_store.specs.acquire_retire.Seats.{SeatState}
use Rattle.version_making.specs.Keeping.{Grows, of_handle}
use Rattle.version_making.specs.Standing.{HasSide, IsTree, Stands, kid_by}

-- how many of the references that a load answers are to x
abbrev pub of_load : {E : Type 0} → Result (Option Handle) E → SlotId → ℕ
of_load (Ok handle) x = of_handle handle x
of_load (Err error) x = 0

-- Field i of the node in s holds the node of a handle, or null. All that the seat has noted of this field is that.
pub record IsSide (s : SlotId) (i : ℕ) (handle : Option Handle) (seat : SeatState View) : Type 0
  where
    pub tree : IsTree handle seat
    pub has : HasSide s i handle seat
    pub only :
        (e : Led) → In e seat.view.client.led → e.slot ≡ s
        → e.life ≡ (object_in seat.view s).life → e.side ≡ i → e.kid ≡ kid_by handle seat

-- a pattern is as it was, or took the place of a hole, of which it has the height
abbrev pub Opens : Pattern → Pattern → Type 0
Opens pat p = (p ≡ pat) ⊎ ((s : SlotId) × (pat ≡ hole s (height_of p)))

-- A node was opened: it has these words, and these are its subtrees. Whatever the seat's notes spelled from it on, they
-- spell a node over patterns of both from it on, which is that, or takes the place of a hole.
pub record IsOpened (node : Handle) (key value height : ℕ) (left right : Option Handle)
    (old new : SeatState View) : Type 0 where
  pub payload : (object_in old.view node.slot).payload ≡ words key value height
  pub left_tree : IsTree left new
  pub right_tree : IsTree right new
  pub stands :
      (pat : Pattern) → Stands (Some node) pat old
      → (l : Pattern) × (r : Pattern) × Stands left l new × Stands right r new
      × Stands (Some node) (branch key value height l r) new
      × Opens pat (branch key value height l r)
  pub over :
      (w : View) → Grows new.view.client w → (a b : Pattern) → Spells w (kid_by left new) a
      → Spells w (kid_by right new) b
      → Spells w (kid_by (Some node) old) (branch key value height a b)

-- The same where the reference to the node was given up besides.
pub record IsTaken (node : Handle) (key value height : ℕ) (left right : Option Handle)
    (old new : SeatState View) : Type 0 where
  pub payload : (object_in old.view node.slot).payload ≡ words key value height
  pub left_tree : IsTree left new
  pub right_tree : IsTree right new
  pub stands :
      (pat : Pattern) → Stands (Some node) pat old
      → (l : Pattern) × (r : Pattern) × Stands left l new × Stands right r new
      × Spells new.view.client (kid_by (Some node) old) (branch key value height l r)
      × Opens pat (branch key value height l r)
  pub over :
      (w : View) → Grows new.view.client w → (a b : Pattern) → Spells w (kid_by left new) a
      → Spells w (kid_by right new) b
      → Spells w (kid_by (Some node) old) (branch key value height a b)
