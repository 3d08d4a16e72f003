-- How contents are to be counted, and within which limits.
use Rattle.std.specs.Prelude.{ℕ, ◌≡◌, ◌+◌, ◌*◌, ◌<◌, ◌≤◌, ◌⊎◌, Bool, true, false, List, Some, None, length, map, string_bytes, IfSome}
use Rattle.std.specs.declared.option.Option.{Option}
use Rattle.std.specs.List.{sum_by}
use Rattle.lane_work.specs.plain_state.Limits.{most_slots}
use Rattle.run_requests.specs.declared.asked.WordsArgs.{WordsArgs}
use Rattle.queue_law.specs.declared.view.Form.{Form}
use Rattle.queue_law.specs.declared.view.Form.TheVariants.{Linked, Double}
use Rattle.lane_work.specs.cdrc_text.Fold.{File}
use Rattle.lane_work.specs.cdrc_text.Pieces.{pieces_of}
use Rattle.lane_work.specs.Sizes.{most_lanes, slots_of_words, texts_in}
use Rattle.lane_work.specs.declared.work.Work.{Work}
use Rattle.file_work.specs.Contents.{bytes_in}
use Rattle.file_work.specs.declared.plan.Plan.{Plan}

abbrev pub form_of : Bool → Form
form_of false = Linked
form_of true = Double

-- the plan that the words of a command line tell
abbrev pub plan_of : WordsArgs → Plan
plan_of args = record {
  lanes = args.lanes;
  rounds = args.rounds;
  slots = args.slots;
  first = None;
  form = form_of args.double;
}

abbrev pub AreLanes : ℕ → Type 0
AreLanes lanes = (1 ≤ lanes) × (lanes ≤ most_lanes)

abbrev pub most_rounds : ℕ
most_rounds = 1000

-- so many lanes, rounds, and slots, if there are any
pub record IsPlan (plan : Plan) : Type 0 where
  pub lanes : AreLanes plan.lanes
  pub rounds : (1 ≤ plan.rounds) × (plan.rounds ≤ most_rounds)
  pub slots : IfSome plan.slots (λ n. (1 ≤ n) × (n ≤ most_slots))

-- the names of the files
abbrev pub names_of : WordsArgs → List (List ℕ)
names_of args = map string_bytes args.names.items

-- how many pieces the files have, and how many slots the records of these take
abbrev pub pieces_in_all : List File → ℕ
pieces_in_all files = sum_by (λ (f : File). length f) files

abbrev pub parts_in_all : List File → ℕ
parts_in_all files = sum_by slots_of_words files

-- so many slots serve, whatever the lanes do: one for each object that is made, and two
abbrev pub slots_needed : ℕ → List File → ℕ
slots_needed rounds files = rounds * (pieces_in_all files + parts_in_all files) + 2

-- so many serve the work
abbrev pub most_of : Work → ℕ
most_of work = slots_needed work.rounds (texts_in work)

-- the work is to count these contents
pub record IsWorkOn (rounds : ℕ) (contents : List (List ℕ)) (work : Work) : Type 0 where
  pub often : work.rounds ≡ rounds
  pub texts : texts_in work ≡ map pieces_of contents

-- so many slots are opened: those that are asked for; or where none are at most so many
abbrev pub AreSlots : Option ℕ → ℕ → ℕ → Type 0
AreSlots None most slots = slots ≤ most
AreSlots (Some asked) most slots = slots ≡ asked

abbrev pub AreSlotsFor : Plan → List File → ℕ → Type 0
AreSlotsFor plan files slots = AreSlots plan.slots (slots_needed plan.rounds files) slots

-- a number of slots is asked for, and it is below the one that serves
abbrev pub AsksTooFewSlots : Plan → List File → Type 0
AsksTooFewSlots plan files =
    (n : ℕ) × (plan.slots ≡ Some n) × (n < slots_needed plan.rounds files)

abbrev pub most_files : ℕ
most_files = 4096

abbrev pub most_bytes : ℕ
most_bytes = 67108864

abbrev pub most_pieces : ℕ
most_pieces = 1000000

-- contents that may be counted in so many rounds
pub record IsWithinLimits (rounds : ℕ) (contents : List (List ℕ)) : Type 0 where
  pub files : length contents ≤ most_files
  pub bytes : bytes_in contents ≤ most_bytes
  pub pieces : rounds * pieces_in_all (map pieces_of contents) ≤ most_pieces
  pub slots : slots_needed rounds (map pieces_of contents) ≤ most_slots

-- their pieces, in all rounds, are too many
abbrev pub HasTooMany : ℕ → List (List ℕ) → Type 0
HasTooMany rounds contents =
    (most_pieces < rounds * pieces_in_all (map pieces_of contents))
    ⊎ (most_slots < slots_needed rounds (map pieces_of contents))

-- they pass a limit
abbrev pub PassesLimit : ℕ → List (List ℕ) → Type 0
PassesLimit rounds contents =
    (most_files < length contents) ⊎ ((most_bytes < bytes_in contents) ⊎ HasTooMany rounds contents)
