-- The slots that a seat has made, by its trail.
use Rattle.std.specs.Prelude.{ℕ, ◌≡◌, ◌+◌, List, [], ◌∷◌, ◌++◌, Option, Some, None, sum_by}
use Rattle.core_law.specs.plain_state.declared.slot.SlotId.{SlotId}
use Rattle.core_law.specs.plain_state.Lists.{times}
use Rattle.core_law.specs.core_events.declared.act.Act.{Act}
use Rattle.core_law.specs.core_events.declared.act.Act.TheVariants as act
use Rattle.core_law.specs.core_events.declared.outcome.Outcome.{Outcome}
use Rattle.core_law.specs.core_events.declared.outcome.Outcome.TheVariants as outcome
use Rattle.core_law.specs.core_events.declared.view.CoreView.{CoreView}
use Rattle.core_law.specs.core_events.declared.view.LeftSeat.{LeftSeat}
use Rattle.core_law.specs.core_events.declared.view.Move.{Move}
use Rattle.core_law.specs.core_events.Views.{alone}

-- a claim that took the slot's bit
abbrev pub claimed_by : Outcome → SlotId → Option SlotId → Option SlotId
claimed_by outcome.Claimed x s = Some x
claimed_by o x s = s

-- the slot that a seat has claimed and not started, after a move
abbrev pub making_after : Act → Outcome → Option SlotId → Option SlotId
making_after (act.Claim x) o s = claimed_by o x s
making_after act.Start o s = None
making_after a o s = s

abbrev pub making : Option SlotId → List Move → Option SlotId
making s [] = s
making s (m ∷ ms) = making (making_after m.act m.outcome s) ms

-- a start is of that slot
abbrev pub starts : Act → Option SlotId → List SlotId
starts act.Start s = alone s
starts a s = []

-- the slots of the starts among these moves, in order
abbrev pub started : Option SlotId → List Move → List SlotId
started s [] = []
started s (m ∷ ms) = starts m.act s ++ started (making_after m.act m.outcome s) ms

-- how often s was started by the seats that left, whose trails stand in the view
abbrev pub started_before : SlotId → List LeftSeat → ℕ
started_before s ls = sum_by (λ (l : LeftSeat). times s (started None l.trail)) ls

-- the seat has made each slot as often as it, and those that left to it, have started it
abbrev pub MadeByStarts : CoreView → Type 0
MadeByStarts v =
    (s : SlotId)
    → times s v.made ≡ times s (started None v.trail) + started_before s v.left_seats
