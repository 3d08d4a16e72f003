-- How many whole scans a seat has made.
use Rattle.std.specs.Prelude.{ℕ, ◌≤◌, Bool, true, false, cond, List, length}
use Rattle.std.specs.List.{sum_by}
use Rattle.control_word.specs.core_events.declared.outcome.Outcome.{Outcome}
use Rattle.control_word.specs.core_events.declared.outcome.Outcome.TheVariants as outcome
use Rattle.control_word.specs.core_events.declared.view.Move.{Move}
use Rattle.control_word.specs.acquire_retire.Seats.{SeatState}
use Rattle.words_protocol.specs.words_law.Views.{View}

-- a whole scan ends with the word that splits the retired entries
abbrev pub ends_scan : Outcome → Bool
ends_scan (outcome.Split last stay go) = true
ends_scan o = false

unfoldable pub scans_in : List Move → ℕ
scans_in ms = sum_by (λ (m : Move). cond (ends_scan m.outcome) 1 0) ms

-- the whole scans in the seat's trail
abbrev pub scans_of : SeatState View → ℕ
scans_of seat = scans_in seat.view.core.trail

-- at least as many as it pushed items
abbrev pub HasScanned : SeatState View → Type 0
HasScanned seat = length seat.view.client.0.pushed ≤ scans_of seat
