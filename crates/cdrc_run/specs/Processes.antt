-- How a process ends.
use Rattle.std.specs.Prelude.{ℕ, ◌≡◌, ◌≢◌, ◌⊎◌, List}
use Rattle.std_io.specs.declared.io.kind.ErrorKind.{ErrorKind}
use Rattle.std_io.specs.declared.io.kind.ErrorKind.TheVariants as kinds
use Rattle.cdrc_run.specs.Ends.{Ends, SinkRun, SourceRun, TookNothing}
use Rattle.cdrc_run.specs.Jobs.{AsksJob, IsCommand, Job}
use Rattle.cdrc_run.specs.declared.outcome.Why.{Why}

-- with the status of a run on these words
pub record EndsRun (fits : List ℕ → Type 0) (words : List (List ℕ)) (source : SourceRun)
    (sink : SinkRun) (status : ℕ) : Type 0 where
  pub usage : status ≡ 2 → (IsCommand words → ⊥)
  pub misread : (IsCommand words → ⊥) → ((status ≡ 2) ⊎ (status ≡ 9)) × TookNothing sink
  pub ends :
      (job : Job) → AsksJob words job
      → (shown : Why) × Ends fits job source sink (record { status = status; why = shown })

-- where its words can't be had
pub record EndsUnasked (kind : ErrorKind) (status : ℕ) : Type 0 where
  pub memory : kind ≡ kinds.OutOfMemory → status ≡ 9
  pub other : kind ≢ kinds.OutOfMemory → status ≡ 2
