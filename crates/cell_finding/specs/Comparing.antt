-- How far the record that a seat saw last was compared with a text.
use Rattle.std.specs.Prelude.{ℕ, ◌≡◌, ◌≢◌, ◌+◌, ◌-◌, ◌*◌, false, List, [], ◌∷◌, ◌++◌, drop, length}
use Rattle.cell_calls.specs.cell_law.plain_state.declared.slot.SlotId.{SlotId}
use Rattle.cell_calls.specs.cell_law.directory_law.Payloads.{Text}
use Rattle.cell_calls.specs.cell_law.directory_law.Views.{Each}
use Rattle.cell_calls.specs.cell_law.Lessons.{first_of}
use Rattle.cell_law.specs.declared.view.Sight.{Sight}
use Rattle.cell_law.specs.declared.view.View.{View}
use Rattle.cell_calls.specs.cell_law.Walks.{last_of, last_sight, payloads}
use Rattle.epoch_domain.specs.epoch_rule.Views.{own_of}
use Rattle.epoch_domain.specs.Seats.{SeatState}
use Rattle.record_texts.specs.Texts.{parts_after, parts_of}
use Rattle.cell_finding.specs.Looking.{HasSeen, OnlyLooks}

-- what is left of the text of these bytes behind its head and k parts
abbrev pub rest_of : List ℕ → ℕ → Text
rest_of bytes k = parts_of (parts_after (length bytes) - k) (drop (120 * (k + 1)) bytes)

-- what the seat saw last
abbrev pub sighted : SeatState View → Sight
sighted seat = last_sight seat.view.client.seen

-- the payloads of the slots that it saw last
abbrev pub sighted_text : SeatState View → Text
sighted_text seat = payloads (own_of seat.view) (sighted seat).slots

-- The seat saw some slots last, one behind the other from the head of a record to this one, and its
-- region has seen them.
pub record IsAlong (head last : SlotId) (seat : SeatState View) : Type 0 where
  pub earlier : List Sight
  pub seen : seat.view.client.seen ≡ sighted seat ∷ earlier
  pub is_open : seat.view.client.cleared ≡ false
  pub some_slot : (sighted seat).slots ≢ []
  pub first_is : first_of (sighted seat).slots ≡ head
  pub last_is : last_of (sighted seat).slots ≡ last
  pub region : Each (HasSeen seat.view.core) (sighted seat).slots

-- it has seen one part more of the same record
pub record GoesOnTo (head part : SlotId) (old new : SeatState View) : Type 0 where
  pub along : IsAlong head part new
  pub cell : (sighted new).cell ≡ (sighted old).cell
  pub slots : (sighted new).slots ≡ (sighted old).slots ++ part ∷ []
  pub looks : OnlyLooks 1 old new

-- it has seen all slots of a record with this text
pub record IsWhole (text : Text) (head : SlotId) (seat : SeatState View) : Type 0 where
  pub last : SlotId
  pub along : IsAlong head last seat
  pub is : text ≡ sighted_text seat
