-- Which files the tickets of some work stand for.
use Rattle.std.specs.Prelude.{ℕ, ◌-◌, ◌≤◌, ◌*◌, ◌/◌, ◌%◌, ◌^◌, All, Bool, List, [], length, map, nat_le, slice_index_or}
use Rattle.std.specs.List.{filter, flat_map}
use Rattle.lane_work.specs.declared.work.Work.{Work}
use Rattle.lane_work.specs.FilePieces.{HasPieces, pieces_in}

abbrev pub files_in : Work → ℕ
files_in work = length work.files.items

-- how many tickets stand for a file
abbrev pub all_tickets : Work → ℕ
all_tickets work = work.rounds * files_in work

-- the words of the file that a ticket stands for
abbrev pub words_of : Work → ℕ → List (List ℕ)
words_of work ticket =
    slice_index_or (map pieces_in work.files.items) (ticket % files_in work) []

-- the words of the files of some tickets, in order
unfoldable pub words_of_all : Work → List ℕ → List (List ℕ)
words_of_all work tickets = flat_map (words_of work) tickets

-- it stands for a file in the last round
abbrev pub is_last : Work → ℕ → Bool
is_last work ticket = nat_le (work.rounds - 1) (ticket / files_in work)

-- the words of each file whose records are kept, by the tickets
abbrev pub kept_files : Work → List ℕ → List (List (List ℕ))
kept_files work tickets = map (words_of work) (filter (is_last work) tickets)

-- There are 1 to 4,096 files, each of at most 2^20 pieces that lie in it, and 1 to 1,000 rounds.
pub record IsWork (work : Work) : Type 0 where
  pub some : 1 ≤ files_in work
  pub few : files_in work ≤ 4096
  pub once : 1 ≤ work.rounds
  pub rounds : work.rounds ≤ 1000
  pub pieces : All HasPieces work.files.items
  pub sizes : (ticket : ℕ) → length (words_of work ticket) ≤ 2 ^ 20
