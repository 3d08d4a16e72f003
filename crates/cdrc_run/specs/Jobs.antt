-- What a command line asks to be done, by its texts.
use Rattle.std.specs.Prelude.{ℕ, ◌≡◌, ◌+◌, ◌%◌, ◌^◌, ◌<◌, ◌≤◌, List, [], ◌∷◌, length, Some, None, string_bytes}
use Rattle.command_line.specs.cdrc_text.Generated.{generated_text}
use Rattle.command_line.specs.Requests.{Asks}
use Rattle.command_line.specs.run_requests.declared.asked.Bulk.{Bulk}
use Rattle.command_line.specs.run_requests.declared.asked.Draws.{Draws}
use Rattle.command_line.specs.run_requests.declared.asked.Protect.{Protect}
use Rattle.command_line.specs.run_requests.declared.asked.Protect.TheVariants.{Announce, Epoch}
use Rattle.command_line.specs.run_requests.declared.asked.Request.{Request}
use Rattle.command_line.specs.run_requests.declared.asked.Request.TheVariants as request
use Rattle.words_work.specs.queue_law.declared.view.Form.TheVariants.{Linked}
use Rattle.words_work.specs.Contents.{bytes_in}
use Rattle.words_work.specs.Limits as words
use Rattle.words_work.specs.file_work.declared.plan.Plan.{Plan}

-- Count the words of the files with these names, as the plan says: by announcements, or in regions; run the script, or
-- the list of steps, of a file; draw words; draw words twice and count them.
pub data Job : Type 0 where
  count : List (List ℕ) → Plan → Job
  regions : List (List ℕ) → Plan → Job
  script : List ℕ → Job
  steps : List ℕ → Job
  draw : Draws → Job
  bulk : Bulk → Job

-- how words are counted
abbrev pub counting : Protect → List (List ℕ) → Plan → Job
counting Announce = count
counting Epoch = regions

abbrev pub job_of : Request → Job
job_of (request.Words args) =
    counting args.protect (words.names_of args) (words.plan_of args)
job_of (request.Script file) = script (string_bytes file)
job_of (request.Steps file) = steps (string_bytes file)
job_of (request.Generate draws) = draw draws
job_of (request.Bulk drawn) = bulk drawn

-- the words of the command line ask for the job
abbrev pub AsksJob : List (List ℕ) → Job → Type 0
AsksJob line job = (asked : Request) × Asks line asked × (job_of asked ≡ job)

-- they are understood
abbrev pub IsCommand : List (List ℕ) → Type 0
IsCommand line = (asked : Request) × Asks line asked

-- the files that are read
abbrev pub names_in : Job → List (List ℕ)
names_in (count names plan) = names
names_in (regions names plan) = names
names_in (script file) = file ∷ []
names_in (steps file) = file ∷ []
names_in (draw draws) = []
names_in (bulk drawn) = []

-- there are too many of them
abbrev pub HasTooManyFiles : Job → Type 0
HasTooManyFiles job = words.most_files < length (names_in job)

-- the most words that are drawn, of the most that a vocabulary has; and where two texts are drawn, of each
abbrev pub most_drawn : ℕ
most_drawn = 1000000

abbrev pub most_drawn_twice : ℕ
most_drawn_twice = 500000

-- at most so many words
pub record AreInRange (most : ℕ) (draws : Draws) : Type 0 where
  pub words : draws.words ≤ most
  pub least : 1 ≤ draws.vocabulary
  pub most_of : draws.vocabulary ≤ most_drawn

-- the text that draws give
abbrev pub text_of_draws : Draws → List ℕ
text_of_draws draws = generated_text draws.seed draws.words draws.vocabulary

-- the draws from the next seed
abbrev pub next_draws : Draws → Draws
next_draws draws = record draws { seed = (draws.seed + 1) % 2 ^ 64 }

-- the two texts that are drawn to be counted, and how they are
abbrev pub drawn_texts : Bulk → List (List ℕ)
drawn_texts drawn = text_of_draws drawn.draws ∷ text_of_draws (next_draws drawn.draws) ∷ []

abbrev pub drawn_plan : Bulk → Plan
drawn_plan drawn = record { lanes = drawn.lanes; rounds = 1; slots = None; first = None; form = Linked }

-- the contents of the files are within the limits of the job
abbrev pub IsWithinLimits : Job → List (List ℕ) → Type 0
IsWithinLimits (count names plan) contents = words.IsWithinLimits plan.rounds contents
IsWithinLimits (regions names plan) contents = words.IsWithinLimits plan.rounds contents
IsWithinLimits (script file) contents = bytes_in contents ≤ words.most_bytes
IsWithinLimits (steps file) contents = bytes_in contents ≤ words.most_bytes
IsWithinLimits (draw draws) contents = Unit {0}
IsWithinLimits (bulk drawn) contents = words.IsWithinLimits 1 (drawn_texts drawn)

-- they pass one of them
abbrev pub PassesLimit : Job → List (List ℕ) → Type 0
PassesLimit (count names plan) contents = words.PassesLimit plan.rounds contents
PassesLimit (regions names plan) contents = words.PassesLimit plan.rounds contents
PassesLimit (script file) contents = words.most_bytes < bytes_in contents
PassesLimit (steps file) contents = words.most_bytes < bytes_in contents
PassesLimit (draw draws) contents = ⊥
PassesLimit (bulk drawn) contents = words.HasTooMany 1 (drawn_texts drawn)

-- a number of slots is asked for
abbrev pub AsksSlots : Job → Type 0
AsksSlots (count names plan) = (n : ℕ) × (plan.slots ≡ Some n)
AsksSlots (regions names plan) = (n : ℕ) × (plan.slots ≡ Some n)
AsksSlots (script file) = ⊥
AsksSlots (steps file) = ⊥
AsksSlots (draw draws) = ⊥
AsksSlots (bulk drawn) = ⊥

-- so much may be asked: what a command line asks is within these ranges
abbrev pub HasRanges : Request → Type 0
HasRanges (request.Words args) =
    words.IsPlan (words.plan_of args) × (1 ≤ length (words.names_of args))
HasRanges (request.Script file) = Unit {0}
HasRanges (request.Steps file) = Unit {0}
HasRanges (request.Generate draws) = AreInRange most_drawn draws
HasRanges (request.Bulk drawn) =
    AreInRange most_drawn_twice drawn.draws × words.AreLanes drawn.lanes
