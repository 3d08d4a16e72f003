-- How much of a domain some work takes.
use Rattle.std.specs.Prelude.{ℕ, ◌+◌, ◌*◌, ◌≤◌, List, length, map, sum_by}
use Rattle.std.specs.List.{range_with_len}
use Rattle.plain_state.specs.Limits.{most_slots}
use Rattle.cdrc_text.specs.Fold.{File}
use Rattle.cdrc_text.specs.Text.{slots_of_word}
use Rattle.lane_work.specs.declared.file.FileText.{FileText}
use Rattle.lane_work.specs.declared.work.Work.{Work}
use Rattle.lane_work.specs.FilePieces.{pieces_in}
use Rattle.lane_work.specs.Work.{all_tickets, words_of}

-- the most lanes: seat 0 is none of a lane
abbrev pub most_lanes : ℕ
most_lanes = 31

-- the slots that the records of some words take, if no two words share one
abbrev pub slots_of_words : List (List ℕ) → ℕ
slots_of_words words = sum_by slots_of_word words

abbrev pub parts_in : FileText → ℕ
parts_in file = slots_of_words (pieces_in file)

-- the files, each as its pieces
abbrev pub texts_in : Work → List File
texts_in work = map pieces_in work.files.items

-- of all files, once each: how many pieces they have, and how many slots the records of these take
abbrev pub all_pieces : Work → ℕ
all_pieces work = sum_by (λ (f : File). length f) (texts_in work)

abbrev pub all_parts : Work → ℕ
all_parts work = sum_by slots_of_words (texts_in work)

-- what who draws a ticket may intern, and may make: a record of each piece of its file, and a node for each
abbrev pub interns_of : Work → ℕ → ℕ
interns_of work ticket = length (words_of work ticket)

abbrev pub makes_of : Work → ℕ → ℕ
makes_of work ticket = length (words_of work ticket) + slots_of_words (words_of work ticket)

-- a number of each ticket that stands for a file, in order
abbrev pub by_ticket : (ℕ → ℕ) → Work → List ℕ
by_ticket f work = map f (range_with_len 0 (all_tickets work))

-- the most interns of all tickets
abbrev pub most_interns : ℕ
most_interns = 1000000

-- One domain serves the work: all interns have a cell, and there is a slot for each object that is made, one of them
-- the queue's first node and one more seat 0's.
pub record IsWithinLimits (work : Work) : Type 0 where
  pub interns : work.rounds * all_pieces work ≤ most_interns
  pub slots : work.rounds * (all_pieces work + all_parts work) + 2 ≤ most_slots
