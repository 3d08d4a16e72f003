-- How many objects a lane makes, and which makes were refused to it.
use Rattle.std.specs.Prelude.{ℕ, ◌≡◌, ◌+◌, ◌<◌, ◌≤◌, List, Option, Some, None, length, slice_index_or, sum_by}
use Rattle.control_word.specs.core_events.Views.{allowed_makes}
use Rattle.control_word.specs.acquire_retire.Domains.{DomainState}
use Rattle.control_word.specs.acquire_retire.Seats.{SeatState}
use Rattle.hand_queues.specs.slot_store.declared.making.MakeError.{MakeError}
use Rattle.hand_queues.specs.slot_store.declared.making.MakeError.TheVariants as unmade
use Rattle.words_protocol.specs.cdrc_text.Text.{slots_of_word}
use Rattle.words_protocol.specs.words_law.Views.{View}
use Rattle.words_protocol.specs.declared.law.WordsLaw.{WordsLaw}
use Rattle.lane_files.specs.PieceMakes.{cause_in}
use Rattle.lane_files.specs.declared.refusal.FileError.{FileError}
use Rattle.lane_files.specs.declared.refusal.FileError.TheVariants as refused
use Rattle.lane_files.specs.declared.refusal.LaneStop.{LaneStop}
use Rattle.lane_files.specs.declared.refusal.LaneStop.TheVariants as stopped
use Rattle.lane_files.specs.lane_work.declared.work.Work.{Work}
use Rattle.lane_files.specs.Work.{all_tickets, words_of}

-- the most objects that are made for some words: a node for each, and the slots of its record
abbrev pub makes_for : List (List ℕ) → ℕ
makes_for words = length words + sum_by slots_of_word words

-- the make or the add that was refused; none where there was no memory
abbrev pub cause_at : FileError → Option MakeError
cause_at (refused.Piece error) = cause_in error
cause_at refused.OutOfMemory = None

abbrev pub cause_of : LaneStop → Option MakeError
cause_of stopped.Spent = Some unmade.AddsSpent
cause_of (stopped.File error) = cause_at error

-- each ticket of a file grants a make for each object that is made for it
abbrev pub GrantsMakes : List ℕ → Work → Type 0
GrantsMakes grants work =
    (ticket : ℕ) → ticket < all_tickets work
    → makes_for (words_of work ticket) ≤ slice_index_or grants ticket 0

-- the seat's tickets grant what the domain's do, and it has used no more makes than it may
pub record HasItsMakes (d : DomainState WordsLaw) (seat : SeatState View) : Type 0 where
  pub grants : seat.view.core.grants ≡ d.terms.grants
  pub makes : seat.view.core.makes ≤ allowed_makes seat.view.core
