-- The ends of runs that have no output.
use Rattle.std.proofs.Common.{◌≡◌, ℕ, ◌⊎◌, inl, inr, List, Err, subst, arith}
use Rattle.std.specs.declared.result.Result.{Result}
use Rattle.words_work.specs.lane_gate.Causes.{Rose}
use Rattle.words_work.specs.file_work.declared.refused.Refused.{Refused}
use Rattle.words_work.specs.file_work.declared.refused.Refused.TheVariants as refused
use Rattle.words_work.proofs.Below.file_work_Refusing.{rose_stood}
use Rattle.cdrc_run.specs.Ends.{Ends, IsRefusedEnd, ShowsSeat, SinkRun, SourceRun, TookNothing}
use Rattle.cdrc_run.specs.Jobs.{Job}
use Rattle.cdrc_run.specs.Outputs.{IsFull, IsSpentFor, IsTooLarge, IsWhyNoOutput}
use Rattle.cdrc_run.specs.Statuses.{IsStatus}
use Rattle.cdrc_run.specs.declared.outcome.End.{End}
use Rattle.cdrc_run.specs.declared.outcome.RefusedSeat.{RefusedSeat}
use Rattle.cdrc_run.specs.declared.outcome.Why.TheVariants as why
use Rattle.cdrc_run.proofs.Told.{full_asks, told_full, told_not_too_large, told_spent}

-- no such status is one of those with evidence
not_shown : (n : ℕ) → (n ≡ 3) ⊎ (n ≡ 5) ⊎ (n ≡ 9) → (n ≡ 6) ⊎ (n ≡ 7) → ⊥
not_shown n unshown is = grind arith

not_nine : (n : ℕ) → (n ≡ 3) ⊎ (n ≡ 5) ⊎ (n ≡ 6) ⊎ (n ≡ 7) → n ≡ 9 → ⊥
not_nine n quiet is = grind arith

module _ (fits : List ℕ → Type 0) (job : Job) (source : SourceRun) (sink : SinkRun) (end : End)
    (untaken : TookNothing sink) where
  ends_unread : end.status ≡ 3 → end.why ≡ why.Nothing
      → Rose source.counts.faults source.counts.faults_now → Ends fits job source sink end
  ends_unread three_is shown rose = record {
    understood = λ e. omega arith;
    done = λ e. absurd (omega arith);
    refused = λ e. absurd (omega arith);
    read = λ e. rose;
    write = λ e. absurd (omega arith);
    part = λ e. absurd (omega arith);
    large = λ e. absurd (omega arith);
    full = λ e. absurd (omega arith);
    few = λ e. absurd (omega arith);
    spent = λ e. absurd (omega arith);
    memory = λ e. inl untaken;
    nothing = λ e. untaken;
    unshown = λ e. shown;
    refuses = λ contents tells passes stood.
        absurd (rose_stood source.counts.faults source.counts.faults_now rose stood);
    complete = λ contents tells within stood still.
        absurd (rose_stood source.counts.faults source.counts.faults_now rose stood);
  }

  ends_too_large : end.status ≡ 5 → end.why ≡ why.Nothing
      → IsTooLarge job source.told source.counts.overlong source.counts.overlong_now
      → Ends fits job source sink end
  ends_too_large five_is shown large = record {
    understood = λ e. omega arith;
    done = λ e. absurd (omega arith);
    refused = λ e. absurd (omega arith);
    read = λ e. absurd (omega arith);
    write = λ e. absurd (omega arith);
    part = λ e. absurd (omega arith);
    large = λ e. large;
    full = λ e. absurd (omega arith);
    few = λ e. absurd (omega arith);
    spent = λ e. absurd (omega arith);
    memory = λ e. inl untaken;
    nothing = λ e. untaken;
    unshown = λ e. shown;
    refuses = λ contents tells passes stood. inl five_is;
    complete = λ contents tells within stood still.
        absurd (told_not_too_large job source.told contents source.counts.overlong
        source.counts.overlong_now tells within large);
  }

  ends_full : (seat : RefusedSeat) → end.status ≡ 6 → ShowsSeat seat end.why
      → IsFull fits job source.told seat → Ends fits job source sink end
  ends_full seat six_is shown full = record {
    understood = λ e. omega arith;
    done = λ e. absurd (omega arith);
    refused = λ e. absurd (omega arith);
    read = λ e. absurd (omega arith);
    write = λ e. absurd (omega arith);
    part = λ e. absurd (omega arith);
    large = λ e. absurd (omega arith);
    full = λ e. (seat, shown, full);
    few = λ e. full_asks fits job source.told seat full;
    spent = λ e. absurd (omega arith);
    memory = λ e. inl untaken;
    nothing = λ e. untaken;
    unshown = λ e. absurd (not_shown end.status e (inl six_is));
    refuses = λ contents tells passes stood.
        absurd (told_full fits job source.told contents seat tells full passes);
    complete = λ contents tells within stood still. inr (inl six_is);
  }

  ends_spent : (seat : RefusedSeat) → end.status ≡ 7 → ShowsSeat seat end.why
      → IsSpentFor job source.told seat → Ends fits job source sink end
  ends_spent seat seven_is shown spent = record {
    understood = λ e. omega arith;
    done = λ e. absurd (omega arith);
    refused = λ e. absurd (omega arith);
    read = λ e. absurd (omega arith);
    write = λ e. absurd (omega arith);
    part = λ e. absurd (omega arith);
    large = λ e. absurd (omega arith);
    full = λ e. absurd (omega arith);
    few = λ e. absurd (omega arith);
    spent = λ e. (seat, shown, spent);
    memory = λ e. inl untaken;
    nothing = λ e. untaken;
    unshown = λ e. absurd (not_shown end.status e (inr seven_is));
    refuses = λ contents tells passes stood.
        absurd (told_spent job source.told contents seat tells spent passes);
    complete = λ contents tells within stood still. inr (inr (inl seven_is));
  }

  ends_without_memory : end.status ≡ 9 → end.why ≡ why.Nothing → Ends fits job source sink end
  ends_without_memory nine_is shown = record {
    understood = λ e. omega arith;
    done = λ e. absurd (omega arith);
    refused = λ e. absurd (omega arith);
    read = λ e. absurd (omega arith);
    write = λ e. absurd (omega arith);
    part = λ e. absurd (omega arith);
    large = λ e. absurd (omega arith);
    full = λ e. absurd (omega arith);
    few = λ e. absurd (omega arith);
    spent = λ e. absurd (omega arith);
    memory = λ e. inl untaken;
    nothing = λ e. absurd (not_nine end.status e nine_is);
    unshown = λ e. shown;
    refuses = λ contents tells passes stood. inr nine_is;
    complete = λ contents tells within stood still. inr (inr (inr (inr nine_is)));
  }

  -- the run has no output, for this reason
  pub ends_without : (error : Refused RefusedSeat)
      → IsWhyNoOutput fits job source.told source.counts error → IsRefusedEnd error end
      → Ends fits job source sink end
  ends_without refused.Read why ends = ends_unread ends.0 ends.1 why
  ends_without refused.TooLarge why ends = ends_too_large ends.0 ends.1 why
  ends_without (refused.Full seat) why ends = ends_full seat ends.0 ends.1 why
  ends_without (refused.Spent seat) why ends = ends_spent seat ends.0 ends.1 why
  ends_without refused.OutOfMemory why ends = ends_without_memory ends.0 ends.1

pub status_refused : (error : Refused RefusedSeat) (end : End) → IsRefusedEnd error end
    → IsStatus end.status
status_refused refused.Read end ends = inr (inr (inl ends.0))
status_refused refused.TooLarge end ends = inr (inr (inr (inr (inl ends.0))))
status_refused (refused.Full seat) end ends = inr (inr (inr (inr (inr (inl ends.0)))))
status_refused (refused.Spent seat) end ends = inr (inr (inr (inr (inr (inr (inl ends.0))))))
status_refused refused.OutOfMemory end ends = inr (inr (inr (inr (inr (inr (inr (inr ends.0)))))))

-- what is too large ends with 5
pub five_where_large : {T : Type 0} (r : Result T (Refused RefusedSeat)) (error : Refused RefusedSeat) (end : End)
    → r ≡ Err error → r ≡ Err refused.TooLarge → IsRefusedEnd error end → end.status ≡ 5
five_where_large r error end was large ends =
    let is : error ≡ refused.TooLarge = cc in
    (subst (λ (e : Refused RefusedSeat). IsRefusedEnd e end) is ends).0
