-- The image of what isn't free, as a seat that is alone takes it.
use Rattle.std.specs.Prelude.{ℕ, zero, suc, ◌≡◌, Bool, true, false, List, [], ◌∷◌, ◌++◌, length, map, if◌then◌else◌}
use Rattle.plain_state.specs.declared.image.Heap.{Heap}
use Rattle.plain_state.specs.declared.slot.SlotId.{SlotId}
use Rattle.plain_state.specs.declared.slot.Stage.{Stage}
use Rattle.plain_state.specs.declared.slot.Stage.TheVariants.{Free, Blank, Live, Ended, Husk}
use Rattle.plain_state.specs.Images.{image_at}
use Rattle.plain_state.specs.State.{Plain, seat_at, stage_at}
use Rattle.plain_state.specs.Steps.{word_of}
use Rattle.domain_rule.specs.declared.view.SeatView.{SeatView}
use Rattle.acquire_retire.specs.Wholes.{KnowsState}

-- a slot that is given
abbrev pub is_taken : Stage → Bool
is_taken Free = false
is_taken Blank = true
is_taken Live = true
is_taken Ended = true
is_taken Husk = true

-- those of the first n slots that aren't free, in ascending order
abbrev pub taken_below : Plain → ℕ → List SlotId
taken_below p zero = []
taken_below p (suc n) =
    let s : SlotId = record { 0 = n } in
    taken_below p n ++ (if is_taken (stage_at p s) then s ∷ [] else [])

abbrev pub taken_slots : Plain → List SlotId
taken_slots p = taken_below p (length p.slots)

-- the heap has the words of these slots, one after the other, those of all cells, and the deferred entries; words name
-- slots by their own numbers
pub record HasWords (p : Plain) (taken : List SlotId) (heap : Heap) : Type 0 where
  pub slots : heap.slots.items ≡ map (image_at p) taken
  pub cells : heap.cells.items ≡ map word_of p.cells
  pub weak_cells : heap.weak_cells.items ≡ map word_of p.weak_cells
  pub deferred : heap.deferred.items ≡ (seat_at p 0).deferred

-- these slots aren't free in the state that the seat knows, and no others; the heap has their words
pub record IsTakenImage {V : Type 0} (fits : List ℕ → Type 0) (v : SeatView V)
    (taken : List SlotId) (heap : Heap) : Type 0 where
  pub state : Plain
  pub knows : KnowsState fits v state
  pub all : taken ≡ taken_slots state
  pub words : HasWords state taken heap
