-- How a run ends.
use Rattle.std.specs.Prelude.{ℕ, ◌≡◌, ◌≢◌, ◌<◌, ◌⊎◌, Bool, true, false, List, [], length, take}
use Rattle.std.specs.Global.{Vec}
use Rattle.std.specs.Io.KnownBytes.{append_known}
use Rattle.std.specs.declared.option.Option.{Option}
use Rattle.words_work.specs.lane_gate.Causes.{Rose, Stood}
use Rattle.words_work.specs.Contents.{AreTold, Counts, Told}
use Rattle.words_work.specs.file_work.declared.refused.Refused.{Refused}
use Rattle.words_work.specs.file_work.declared.refused.Refused.TheVariants as refused
use Rattle.cdrc_run.specs.Jobs.{AsksSlots, Job, names_in, IsWithinLimits, PassesLimit}
use Rattle.cdrc_run.specs.Outputs.{IsFull, IsOutputOf, IsSpentFor, IsTooLarge}
use Rattle.cdrc_run.specs.declared.outcome.End.{End}
use Rattle.cdrc_run.specs.declared.outcome.Output.{Output}
use Rattle.cdrc_run.specs.declared.outcome.RefusedSeat.{RefusedSeat}
use Rattle.cdrc_run.specs.declared.outcome.RefusedSeat.TheVariants as seat
use Rattle.cdrc_run.specs.declared.outcome.Why.{Why}
use Rattle.cdrc_run.specs.declared.outcome.Why.TheVariants as why

-- what a source tells, and its counts before and after a run
pub record SourceRun : Type 0 where
  pub told : Told
  pub counts : Counts

-- what a sink had taken before a run and after it, and its count of faults
pub record SinkRun : Type 0 where
  pub before : Option (List ℕ)
  pub now : Option (List ℕ)
  pub faults : ℕ
  pub faults_now : ℕ

-- it took all of these bytes
abbrev pub TookAll : List ℕ → SinkRun → Type 0
TookAll bytes sink = sink.now ≡ append_known sink.before bytes

-- it took a prefix of them, and not all
abbrev pub TookPart : List ℕ → SinkRun → Type 0
TookPart bytes sink =
    (n : ℕ) × (n < length bytes) × (sink.now ≡ append_known sink.before (take n bytes))

abbrev pub TookNothing : SinkRun → Type 0
TookNothing sink = sink.now ≡ sink.before

-- the evidence of a run whose sink failed: that of words is kept
abbrev pub kept_evidence : Why → Why
kept_evidence why.Nothing = why.Nothing
kept_evidence (why.Words root tallies) = why.Words root tallies
kept_evidence (why.Epoch root) = why.Epoch root
kept_evidence (why.Script seat) = why.Nothing

-- it took the whole output, of which this is the evidence
abbrev pub TookOutput : Job → Told → Bool → Why → SinkRun → Type 0
TookOutput job told refused shown sink =
    (bytes : List ℕ) × IsOutputOf job told bytes refused shown × TookAll bytes sink

-- it took a prefix of the output, and not all
pub record TookPartOfOutput (job : Job) (told : Told) (left : Why) (sink : SinkRun) : Type 0 where
  pub bytes : List ℕ
  pub refused : Bool
  pub shown : Why
  pub is_output : IsOutputOf job told bytes refused shown
  pub part : TookPart bytes sink
  pub kept : left ≡ kept_evidence shown

-- the evidence is this seat, without tallies
abbrev pub ShowsSeat : RefusedSeat → Why → Type 0
ShowsSeat (seat.Words s) shown =
    (tallies : Vec (List (List ℕ × ℕ))) × (shown ≡ why.Words s tallies) × (tallies.items ≡ [])
ShowsSeat (seat.Epoch s) shown = shown ≡ why.Epoch s

-- the end of a run that has no output
abbrev pub IsRefusedEnd : Refused RefusedSeat → End → Type 0
IsRefusedEnd refused.Read end = (end.status ≡ 3) × (end.why ≡ why.Nothing)
IsRefusedEnd refused.TooLarge end = (end.status ≡ 5) × (end.why ≡ why.Nothing)
IsRefusedEnd (refused.Full s) end = (end.status ≡ 6) × ShowsSeat s end.why
IsRefusedEnd (refused.Spent s) end = (end.status ≡ 7) × ShowsSeat s end.why
IsRefusedEnd refused.OutOfMemory end = (end.status ≡ 9) × (end.why ≡ why.Nothing)

-- the end of a run that offered this output to the sink
abbrev pub IsWritingEnd : Output → SinkRun → End → Type 0
IsWritingEnd output sink end =
    ((end.status ≡ 0) × (output.refused ≡ false) × (end.why ≡ output.why)
    × TookAll output.text.items sink)
    ⊎ ((end.status ≡ 8) × (output.refused ≡ true) × (end.why ≡ output.why)
    × TookAll output.text.items sink)
    ⊎ ((end.status ≡ 4) × (end.why ≡ kept_evidence output.why)
    × TookPart output.text.items sink × Rose sink.faults sink.faults_now)
    ⊎ ((end.status ≡ 9) × (end.why ≡ why.Nothing) × TookPart output.text.items sink)

-- The end of a run that was asked for a job, whatever status it has.
pub record Ends (fits : List ℕ → Type 0) (job : Job) (source : SourceRun) (sink : SinkRun)
    (end : End) : Type 0 where
  pub understood : end.status ≢ 2
  pub done : end.status ≡ 0 → TookOutput job source.told false end.why sink
  pub refused : end.status ≡ 8 → TookOutput job source.told true end.why sink
  pub read : end.status ≡ 3 → Rose source.counts.faults source.counts.faults_now
  pub write : end.status ≡ 4 → Rose sink.faults sink.faults_now
  pub part : end.status ≡ 4 → TookPartOfOutput job source.told end.why sink
  pub large :
      end.status ≡ 5
      → IsTooLarge job source.told source.counts.overlong source.counts.overlong_now
  pub full :
      end.status ≡ 6
      → (s : RefusedSeat) × ShowsSeat s end.why × IsFull fits job source.told s
  pub few : end.status ≡ 6 → AsksSlots job
  pub spent :
      end.status ≡ 7
      → (s : RefusedSeat) × ShowsSeat s end.why × IsSpentFor job source.told s
  pub memory :
      end.status ≡ 9
      → TookNothing sink
      ⊎ ((shown : Why) × TookPartOfOutput job source.told (kept_evidence shown) sink)
  pub nothing :
      (end.status ≡ 3) ⊎ (end.status ≡ 5) ⊎ (end.status ≡ 6) ⊎ (end.status ≡ 7)
      → TookNothing sink
  pub unshown :
      (end.status ≡ 3) ⊎ (end.status ≡ 5) ⊎ (end.status ≡ 9) → end.why ≡ why.Nothing
  -- told contents that pass a limit are refused
  pub refuses :
      (contents : List (List ℕ)) → AreTold source.told (names_in job) contents
      → PassesLimit job contents → Stood source.counts.faults source.counts.faults_now
      → (end.status ≡ 5) ⊎ (end.status ≡ 9)
  -- told contents within the limits, and no fault: the work is done, or stopped by its domain
  pub complete :
      (contents : List (List ℕ)) → AreTold source.told (names_in job) contents
      → IsWithinLimits job contents → Stood source.counts.faults source.counts.faults_now
      → Stood sink.faults sink.faults_now
      → (end.status ≡ 0) ⊎ (end.status ≡ 6) ⊎ (end.status ≡ 7) ⊎ (end.status ≡ 8)
      ⊎ (end.status ≡ 9)
