-- Two subtrees whose heights may differ by more than 1 are joined, with a pair between them.
use Rattle.std.specs.Prelude.{ℕ, ◌≡◌, ◌<◌, ◌^◌, Option, Some}
use Rattle.map_law.specs.declared.view.View.{View}
use Rattle.map_law.specs.Patterns.{Pattern, Spells, branch, hole, null}
use Rattle.map_law.specs.Plans.{height_of, joins}
use Rattle.slot_store.specs.counted_handles.Handles.{Handle}
use Rattle.slot_store.specs.acquire_retire.Seats.{SeatState}
use Rattle.version_making.specs.Building.{put_over}
use Rattle.version_making.specs.Opening.{Opens}
use Rattle.version_making.specs.Standing.{Stands, kid_by}

-- no height in a pattern is 2^63 or more
abbrev pub IsLow : Pattern → Type 0
IsLow null = Unit {0}
IsLow (hole s h) = h < 2 ^ 63
IsLow (branch k v h l r) = (h < 2 ^ 63) × IsLow l × IsLow r

-- a pattern is as it was, but that others with their heights may have taken the place of holes
abbrev pub Unfolds : Pattern → Pattern → Type 0
Unfolds null p = p ≡ null
Unfolds (hole s h) p = height_of p ≡ h
Unfolds (branch k v h l r) p =
    (a : Pattern) × (b : Pattern) × (p ≡ branch k v h a b) × Unfolds l a × Unfolds r b

-- the node of `mid` was opened, and came up over two nodes, each over one of its subtrees and one beside it
pub record IsTurned (node mid : Handle) (first_key first_value last_key last_value : ℕ)
    (old new : SeatState View) (a m d : Pattern) : Type 0 where
  pub key : ℕ
  pub value : ℕ
  pub height : ℕ
  pub left : Pattern
  pub right : Pattern
  pub opens : Opens m (branch key value height left right)
  pub spells :
      Spells new.view.client (kid_by (Some mid) old) (branch key value height left right)
  pub stands :
      Stands (Some node)
      (put_over key value (put_over first_key first_value a left)
      (put_over last_key last_value right d)) new

-- A subtree was opened as far as a plan asks for, and the node is the plan's, where no height is 2^63 or more. It
-- wasn't opened where the plan asked for nothing.
pub record IsTilted (plan : Pattern → Option Pattern) (Low : Type 0) (node : Handle)
    (high : Option Handle) (old new : SeatState View) (pat : Pattern) : Type 0 where
  pub opened : Pattern
  pub tilted : Pattern
  pub spells : Spells new.view.client (kid_by high old) opened
  pub unfolds : Unfolds pat opened
  pub planned : IsLow opened → Low → plan opened ≡ Some tilted
  pub stands : Stands (Some node) tilted new
  pub enough : (q : Pattern) → plan pat ≡ Some q → opened ≡ pat

-- The subtrees were opened as far as the join asks for, and not further; the node is their join, where no height is
-- 2^63 or more. One that isn't higher by 2 or more wasn't opened.
pub record IsJoined (node : Handle) (key value : ℕ) (left right : Option Handle)
    (old new : SeatState View) (l r : Pattern) : Type 0 where
  pub left_opened : Pattern
  pub right_opened : Pattern
  pub joined : Pattern
  pub left_spells : Spells new.view.client (kid_by left old) left_opened
  pub right_spells : Spells new.view.client (kid_by right old) right_opened
  pub left_unfolds : Unfolds l left_opened
  pub right_unfolds : Unfolds r right_opened
  pub planned :
      IsLow left_opened → IsLow right_opened
      → joins key value left_opened right_opened ≡ Some joined
  pub stands : Stands (Some node) joined new
  pub enough :
      (q : Pattern) → joins key value l r ≡ Some q → (left_opened ≡ l) × (right_opened ≡ r)
