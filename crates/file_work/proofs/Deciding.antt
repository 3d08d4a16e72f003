-- Contents decide between a refusal for a limit and none.
use Rattle.std.proofs.Common.{ℕ, List, Ok, Err, IfErr, IfOk}
use Rattle.std.specs.declared.result.Result.{Result}
use Rattle.file_work.specs.Limits.{IsWithinLimits, PassesLimit}
use Rattle.file_work.specs.Outcomes.{IsDoneOrStopped, IsTooLargeOrNoMemory, IsWhyUncounted}
use Rattle.file_work.specs.declared.refused.Refused.{Refused}
use Rattle.file_work.specs.declared.refused.Refused.TheVariants as refused
use Rattle.file_work.specs.declared.plan.Plan.{Plan}
use Rattle.file_work.proofs.Refusing.{within_passes, within_too_many}

module _ {D S : Type 0} (IsCounted : Plan → List (List ℕ) → D → Type 0)
    (IsFull IsSpent : Plan → List (List ℕ) → S → Type 0) (plan : Plan)
    (contents : List (List ℕ))
    (bounded : (done : D) → IsCounted plan contents done → IsWithinLimits plan.rounds contents)
  where
    pub counted_refuses : (result : Result D (Refused S)) → IfOk result (IsCounted plan contents)
        → IfErr result (IsWhyUncounted IsFull IsSpent plan contents) → PassesLimit plan.rounds contents
        → IsTooLargeOrNoMemory result
    counted_refuses (Ok done) counted why passes =
        absurd (within_passes plan.rounds contents (bounded done counted) passes)
    counted_refuses (Err refused.Read) counted why passes = absurd why
    counted_refuses (Err refused.TooLarge) counted why passes = tt
    counted_refuses (Err (refused.Full seat)) counted why passes =
        absurd (within_passes plan.rounds contents why.0 passes)
    counted_refuses (Err (refused.Spent seat)) counted why passes =
        absurd (within_passes plan.rounds contents why.0 passes)
    counted_refuses (Err refused.OutOfMemory) counted why passes = tt

    pub counted_accepts : (result : Result D (Refused S))
        → IfErr result (IsWhyUncounted IsFull IsSpent plan contents) → IsWithinLimits plan.rounds contents
        → IsDoneOrStopped result
    counted_accepts (Ok done) why within = tt
    counted_accepts (Err refused.Read) why within = absurd why
    counted_accepts (Err refused.TooLarge) why within =
        absurd (within_too_many plan.rounds contents within why)
    counted_accepts (Err (refused.Full seat)) why within = tt
    counted_accepts (Err (refused.Spent seat)) why within = tt
    counted_accepts (Err refused.OutOfMemory) why within = tt
