-- What a job writes, and why it writes nothing.
use Rattle.std.specs.Prelude.{ℕ, ◌≡◌, Bool, false, List, [], ◌∷◌, length, map, Some, None}
use Rattle.std.specs.declared.option.Option.{Option}
use Rattle.command_line.specs.cdrc_text.Fold.{AreDistinct, File}
use Rattle.command_line.specs.cdrc_text.Pieces.{pieces_of}
use Rattle.command_line.specs.cdrc_text.Report.{closing_lines}
use Rattle.command_line.specs.cdrc_text.Text.{totals_in}
use Rattle.cdrc_scripts.specs.acquire_retire.Seats.{SeatState}
use Rattle.cdrc_scripts.specs.Domains.{IsScriptOn}
use Rattle.cdrc_scripts.specs.Meaning.{IsScript}
use Rattle.cdrc_steps.specs.Meaning.{IsSteps}
use Rattle.words_work.specs.lane_gate.Causes.{Rose}
use Rattle.words_work.specs.Contents.{AreContents, Counts, IsTooLong, Told}
use Rattle.words_work.specs.Limits as limits
use Rattle.words_work.specs.Limits.{HasTooMany, most_bytes}
use Rattle.words_work.specs.Outcomes as words
use Rattle.words_work.specs.declared.outcome.WordsDone.{WordsDone}
use Rattle.words_work.specs.file_work.Outcomes as files
use Rattle.words_work.specs.file_work.declared.plan.Plan.{Plan}
use Rattle.words_work.specs.file_work.declared.refused.Refused.{Refused}
use Rattle.words_work.specs.file_work.declared.refused.Refused.TheVariants as refused
use Rattle.epoch_work.specs.Outcomes as epoch
use Rattle.epoch_work.specs.declared.outcome.EpochDone.{EpochDone}
use Rattle.cdrc_run.specs.Jobs.{Job, bulk, count, draw, drawn_plan, drawn_texts, names_in, regions, script, steps, text_of_draws, IsWithinLimits}
use Rattle.cdrc_run.specs.Refusals.{OfEpoch, OfWords}
use Rattle.cdrc_run.specs.declared.outcome.RefusedSeat.{RefusedSeat}
use Rattle.cdrc_run.specs.declared.outcome.Why.{Why}
use Rattle.cdrc_run.specs.declared.outcome.Why.TheVariants as why

-- the evidence of a script is the seat of its domain, if its first line opened one
abbrev pub evidence : Option (SeatState (Unit {0})) → Why
evidence None = why.Nothing
evidence (Some seat) = why.Script seat

-- what a script writes, and the seat whose trail shows that
pub record IsShownScript (content bytes : List ℕ) (refused : Bool) (shown : Why) : Type 0 where
  pub means : IsScript content bytes refused
  pub seat : Option (SeatState (Unit {0}))
  pub ran : IsScriptOn content bytes refused seat
  pub is : shown ≡ evidence seat

-- contents were counted, whose text this is; the evidence is seat 0, and what each seat popped
pub record IsShownCount (plan : Plan) (contents : List (List ℕ)) (text : List ℕ) (shown : Why)
    : Type 0 where
  pub done : WordsDone
  pub is : done.bytes.items ≡ text
  pub counted : words.IsCounted plan contents done
  pub shows : shown ≡ why.Words done.root done.tallies

-- the same in regions; the evidence is seat 0
pub record IsShownRegions (plan : Plan) (contents : List (List ℕ)) (text : List ℕ) (shown : Why)
    : Type 0 where
  pub done : EpochDone
  pub is : done.bytes.items ≡ text
  pub counted : epoch.IsCounted plan contents done
  pub shows : shown ≡ why.Epoch done.root

-- the last three lines of the text of these files
abbrev pub IsClosing : List File → List ℕ → Type 0
IsClosing files lines =
    (distinct : List (List ℕ)) × AreDistinct files distinct
    × (lines ≡ closing_lines (length distinct) (totals_in distinct files))

-- two texts were drawn and counted, and these are the last three lines of what is told of them
pub record IsShownBulk (plan : Plan) (texts : List (List ℕ)) (bytes : List ℕ) (shown : Why)
    : Type 0 where
  pub text : List ℕ
  pub count : IsShownCount plan texts text shown
  pub closing : IsClosing (map pieces_of texts) bytes

-- The output of a job on the contents of its files, whether a line is refused, and the evidence.
abbrev pub IsOutput : Job → List (List ℕ) → List ℕ → Bool → Why → Type 0
IsOutput (count names plan) contents bytes refused shown =
    IsShownCount plan contents bytes shown × (refused ≡ false)
IsOutput (regions names plan) contents bytes refused shown =
    IsShownRegions plan contents bytes shown × (refused ≡ false)
IsOutput (script file) contents bytes refused shown =
    (content : List ℕ) × (contents ≡ content ∷ []) × IsShownScript content bytes refused shown
IsOutput (steps file) contents bytes refused shown =
    (content : List ℕ) × (contents ≡ content ∷ []) × IsSteps content bytes refused
    × (shown ≡ why.Nothing)
IsOutput (draw draws) contents bytes refused shown =
    (bytes ≡ text_of_draws draws) × (refused ≡ false) × (shown ≡ why.Nothing)
IsOutput (bulk drawn) contents bytes refused shown =
    IsShownBulk (drawn_plan drawn) (drawn_texts drawn) bytes shown × (refused ≡ false)

-- the output on contents of the files, which are within the limits
pub record IsOutputOf (job : Job) (told : Told) (bytes : List ℕ) (refused : Bool) (shown : Why)
    : Type 0 where
  pub contents : List (List ℕ)
  pub are : AreContents told (names_in job) contents
  pub within : IsWithinLimits job contents
  pub is_output : IsOutput job contents bytes refused shown

-- a limit is passed
abbrev pub IsTooLarge : Job → Told → ℕ → ℕ → Type 0
IsTooLarge (count names plan) told before now =
    files.IsTooLarge told names plan.rounds before now
IsTooLarge (regions names plan) told before now =
    files.IsTooLarge told names plan.rounds before now
IsTooLarge (script file) told before now = IsTooLong told most_bytes (file ∷ []) before now
IsTooLarge (steps file) told before now = IsTooLong told most_bytes (file ∷ []) before now
IsTooLarge (draw draws) told before now = ⊥
IsTooLarge (bulk drawn) told before now = HasTooMany 1 (drawn_texts drawn)

module _ (fits : List ℕ → Type 0) where
  -- words within the limits weren't counted, since this seat found each slot taken
  abbrev pub IsFull : Job → Told → RefusedSeat → Type 0
  IsFull (count names plan) told seat =
      files.OnContents told names plan.rounds
      (λ contents. OfWords (words.IsFull fits plan contents) seat)
  IsFull (regions names plan) told seat =
      files.OnContents told names plan.rounds
      (λ contents. OfEpoch (epoch.IsFull plan contents) seat)
  IsFull (script file) told seat = ⊥
  IsFull (steps file) told seat = ⊥
  IsFull (draw draws) told seat = ⊥
  IsFull (bulk drawn) told seat =
      limits.IsWithinLimits 1 (drawn_texts drawn)
      × OfWords (words.IsFull fits (drawn_plan drawn) (drawn_texts drawn)) seat

-- the same, since this seat of a domain for the work has used all of its adds
abbrev pub IsSpentFor : Job → Told → RefusedSeat → Type 0
IsSpentFor (count names plan) told seat =
    files.OnContents told names plan.rounds
    (λ contents. OfWords (words.IsSpentOn plan contents) seat)
IsSpentFor (regions names plan) told seat =
    files.OnContents told names plan.rounds
    (λ contents. OfEpoch (epoch.IsSpentOn plan contents) seat)
IsSpentFor (script file) told seat = ⊥
IsSpentFor (steps file) told seat = ⊥
IsSpentFor (draw draws) told seat = ⊥
IsSpentFor (bulk drawn) told seat =
    limits.IsWithinLimits 1 (drawn_texts drawn)
    × OfWords (words.IsSpentOn (drawn_plan drawn) (drawn_texts drawn)) seat

-- why there is no output
abbrev pub IsWhyNoOutput : (List ℕ → Type 0) → Job → Told → Counts → Refused RefusedSeat
    → Type 0
IsWhyNoOutput fits job told counts refused.Read = Rose counts.faults counts.faults_now
IsWhyNoOutput fits job told counts refused.TooLarge =
    IsTooLarge job told counts.overlong counts.overlong_now
IsWhyNoOutput fits job told counts (refused.Full seat) = IsFull fits job told seat
IsWhyNoOutput fits job told counts (refused.Spent seat) = IsSpentFor job told seat
IsWhyNoOutput fits job told counts refused.OutOfMemory = Unit {0}
