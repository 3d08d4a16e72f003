-- Which files a lane counts.
use Rattle.std.specs.Prelude.{ℕ, ◌%◌, ◌==◌, Bool, List}
use Rattle.std.specs.List.{filter, range_with_len}
use Rattle.cell_intern.specs.cell_calls.cell_law.declared.view.View.{View}
use Rattle.cell_intern.specs.cell_calls.cell_protocol.declared.law.CellLaw.{CellLaw}
use Rattle.cell_intern.specs.epoch_refs.epoch_domain.Domains.{DomainState}
use Rattle.cell_intern.specs.epoch_refs.epoch_domain.Seats.{SeatState}
use Rattle.lane_work.specs.Keeping.{slots_of}
use Rattle.lane_work.specs.Work.{all_tickets, files_in, kept_files, words_of_all}
use Rattle.lane_work.specs.declared.lane.Lane.{Lane}
use Rattle.lane_work.specs.declared.work.Work.{Work}
use Rattle.cell_lanes.specs.Counting.{Counts}
use Rattle.cell_rest.specs.Kept.{TellsFiles}

-- one of so many lanes takes the ticket: the number of its file, divided by the number of lanes, leaves the lane's
abbrev pub is_taken : Work → ℕ → ℕ → ℕ → Bool
is_taken work lanes number ticket = (ticket % files_in work) % lanes == number

-- of the first n tickets, those that the lane takes, in order
unfoldable pub taken_of : Work → ℕ → ℕ → ℕ → List ℕ
taken_of work lanes number n = filter (is_taken work lanes number) (range_with_len 0 n)

-- the tickets that it takes
abbrev pub lane_tickets : Work → ℕ → ℕ → List ℕ
lane_tickets work lanes number = taken_of work lanes number (all_tickets work)

-- It counted the words of the files of these tickets. Of each file in the last round it keeps one reference to the
-- record of each word.
pub record CountsTickets (d : DomainState CellLaw) (work : Work) (tickets : List ℕ)
    (old new : SeatState View) (before after : Lane) : Type 0 where
  pub counts : Counts d (words_of_all work tickets) old new before after
  pub tells : TellsFiles (kept_files work tickets) (slots_of counts.more) new.view.client
