-- What a process tells of a run.
use Rattle.std.proofs.Common.{◌≡◌, ℕ, ◌⊎◌, List, sym, subst}
use Rattle.cdrc_run.specs.Ends.{Ends, SinkRun, SourceRun, TookNothing}
use Rattle.cdrc_run.specs.Jobs.{AsksJob, IsCommand, Job}
use Rattle.cdrc_run.specs.Processes.{EndsRun}
use Rattle.cdrc_run.specs.declared.outcome.End.{End}

module _ (fits : List ℕ → Type 0) (line : List (List ℕ)) (source : SourceRun) (sink : SinkRun)
    (end : End) (usage : end.status ≡ 2 → IsCommand line → ⊥)
    (misread : (IsCommand line → ⊥)
    → ((end.status ≡ 2) ⊎ (end.status ≡ 9)) × TookNothing sink)
    (ends : (job : Job) → AsksJob line job → Ends fits job source sink end) where
  ends_run : EndsRun fits line source sink end.status
  ends_run = record {
    usage = usage;
    misread = misread;
    ends = λ job asks. (end.why, ends job asks);
  }

  -- its status is that of the run
  pub ends_with : (status : ℕ) → status ≡ end.status → EndsRun fits line source sink status
  ends_with status same = subst (EndsRun fits line source sink) (sym same) ends_run

pub many_with : (run status : ℕ) → status ≡ run → (run ≡ 5) ⊎ (run ≡ 9)
    → (status ≡ 5) ⊎ (status ≡ 9)
many_with run status same is = subst (λ (n : ℕ). (n ≡ 5) ⊎ (n ≡ 9)) (sym same) is
