-- What seat 0 has once the seats of lanes have left.
use Rattle.std.specs.Prelude.{ℕ, ◌≡◌, ◌<◌, List, [], length, map, slice_index_or}
use Rattle.std.specs.List.{flat_map, range_with_len}
use Rattle.cell_lanes.specs.Lanes.{lane_tickets}
use Rattle.cell_lanes.specs.Ready.{IsReady}
use Rattle.cell_lanes.specs.cell_calls.cell_protocol.declared.law.CellLaw.{CellLaw}
use Rattle.cell_lanes.specs.cell_making.Texts.{text_of}
use Rattle.cell_rest.specs.Kept.{TellsFiles}
use Rattle.cell_rest.specs.cdrc_text.Fold.{File, holders_in, occurrences_in}
use Rattle.cell_rest.specs.cell_law.declared.view.View.{View}
use Rattle.cell_rest.specs.cell_law.directory_law.declared.view.Rope.{Rope}
use Rattle.cell_rest.specs.cell_law.directory_law.Payloads.{Text}
use Rattle.cell_rest.specs.cell_law.directory_law.Views.{In}
use Rattle.cell_rest.specs.cell_law.plain_state.declared.slot.SlotId.{SlotId}
use Rattle.cell_rest.specs.cell_law.plain_state.Lists.{times}
use Rattle.cell_lanes.specs.epoch_refs.epoch_core.declared.view.LeftEpochSeat.{LeftEpochSeat}
use Rattle.cell_lanes.specs.epoch_refs.epoch_domain.Domains.{DomainState}
use Rattle.cell_lanes.specs.epoch_refs.epoch_domain.Seats.{SeatState}
use Rattle.cell_lanes.specs.epoch_refs.epoch_rule.Views.{IsAlone}
use Rattle.cell_lanes.specs.lane_work.Keeping.{slots_of}
use Rattle.cell_lanes.specs.lane_work.Sizes.{texts_in}
use Rattle.cell_lanes.specs.lane_work.Tallying.{Tallies}
use Rattle.cell_lanes.specs.lane_work.Work.{words_of_all}
use Rattle.cell_lanes.specs.lane_work.counted_handles.Handles.{Handle}
use Rattle.cell_lanes.specs.lane_work.declared.work.Work.{Work}
use Rattle.tally_sums.specs.Sums.{counted_in}
use Rattle.cell_gathering.specs.declared.done.Done.{Done}
use Rattle.cell_gathering.specs.Ran.{HasNothing}
use Rattle.cell_gathering.specs.Shares.{gathered_files}

-- seat 0, in the middle of nothing, with nothing of its own, which no seat has left to
pub record IsBare (d : DomainState CellLaw) (root : SeatState View) : Type 0 where
  pub ready : IsReady d root
  pub first : root.view.core.seat ≡ 0
  pub none : HasNothing root
  pub left : root.view.core.left_seats ≡ []

-- the references that a lane keeps, and the heads that its seat put into cells
abbrev pub kept_by : Done → List Handle
kept_by one = one.lane.keeper.kept.items

abbrev pub heads_of : Done → List Rope
heads_of one = one.seat.view.client.bound

-- it is the text of a word of some file
abbrev pub IsTextIn : List File → Text → Type 0
IsTextIn files text = (w : List ℕ) × (0 < holders_in w files) × (text ≡ text_of w)

-- how often each word was counted
abbrev pub Tally : Type 0
Tally = List (List ℕ × ℕ)

-- There is a tally for each of so many lanes, in order. It counts the words of the files of the lane's tickets, and
-- nothing else. So together they count each word as often as it occurs in the work.
pub record CountsAll (work : Work) (lanes : ℕ) (tallies : List Tally) : Type 0 where
  pub many : length tallies ≡ lanes
  pub each : (i : ℕ) → i < lanes
      → Tallies (words_of_all work (lane_tickets work lanes i)) [] (slice_index_or tallies i [])
  pub sums : (w : List ℕ) → counted_in tallies w ≡ occurrences_in w work.rounds (texts_in work)

-- Seat 0 is alone: the seats have left, in order. It owns just these references, which are those that the lanes kept,
-- one lane's after the other's, and its view tells of them the words of all files of which lanes keep records. It has
-- put no head into a cell itself. It lists those of the lanes, and each has the text of a word of the work. The tallies
-- are the lanes'.
pub record Gathers (work : Work) (done : List Done) (new : SeatState View)
    (tallies : List Tally) (handles : List Handle) : Type 0 where
  pub alone : IsAlone new.view
  pub numbers : map (λ (l : LeftEpochSeat). l.seat) new.view.core.left_seats
      ≡ range_with_len 1 (length done)
  pub kept : handles ≡ flat_map kept_by done
  pub owns : (s : SlotId) → times s new.view.core.owned ≡ times s (slots_of handles)
  pub tells :
      TellsFiles (gathered_files work (length done)) (slots_of handles) new.view.client
  pub bound : new.view.client.bound ≡ []
  pub joined : new.view.client.joined ≡ flat_map heads_of done
  pub texts : (e : Rope) → In e new.view.client.joined → IsTextIn (texts_in work) e.text
  pub counts : CountsAll work (length done) tallies
