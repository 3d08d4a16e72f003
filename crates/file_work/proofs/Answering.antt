-- What a call over named files answers, put together.
use Rattle.std.proofs.Common.{◌≡◌, ℕ, ◌<◌, ◌≤◌, inl, inr, List, length, Ok, Err, IfErr, IfOk, subst, sym, arith}
use Rattle.std.specs.declared.result.Result.{Result}
use Rattle.lane_gate.specs.Causes.{Stood}
use Rattle.file_work.specs.Contents.{AreContents, AreTold, Counts, Told}
use Rattle.file_work.specs.Limits.{IsWithinLimits, PassesLimit, most_files}
use Rattle.file_work.specs.Outcomes.{Answers, IsDone, IsDoneOrStopped, IsTooLargeOrNoMemory, IsWhyNotDone, IsWhyUncounted}
use Rattle.file_work.specs.Reads.{IsWhyNoContents}
use Rattle.file_work.specs.declared.refused.Refused.{Refused}
use Rattle.file_work.specs.declared.refused.Refused.TheVariants as refused
use Rattle.file_work.specs.declared.plan.Plan.{Plan}
use Rattle.file_work.proofs.Deciding.{counted_accepts, counted_refuses}
use Rattle.file_work.proofs.Refusing.{rose_stood, told_not_long}
use Rattle.file_work.proofs.Told.{told_many, told_same}

module _ {D S : Type 0} (IsCounted : Plan → List (List ℕ) → D → Type 0)
    (IsFull IsSpent : Plan → List (List ℕ) → S → Type 0) (told : Told) (names : List (List ℕ))
    (plan : Plan) (counts : Counts) (Untouched : Type 0) where
  abbrev AnswersSo : Result D (Refused S) → Type 0
  AnswersSo result = Answers IsCounted IsFull IsSpent told names plan counts Untouched result

  unread_why : (error : Refused S) → IsWhyNoContents told names counts error
      → IsWhyNotDone IsFull IsSpent told names plan counts error
  unread_why refused.Read why = why
  unread_why refused.TooLarge why = elim why [
    | inl many ↦ inl many
    | inr long ↦ inr (inl long)
  ]
  unread_why (refused.Full seat) why = absurd why
  unread_why (refused.Spent seat) why = absurd why
  unread_why refused.OutOfMemory why = tt

  unread_refuses : (error : Refused S) → IsWhyNoContents told names counts error
      → Stood counts.faults counts.faults_now → IsTooLargeOrNoMemory {D = D} (Err error)
  unread_refuses refused.Read why stood =
      absurd (rose_stood counts.faults counts.faults_now why stood)
  unread_refuses refused.TooLarge why stood = tt
  unread_refuses (refused.Full seat) why stood = absurd why
  unread_refuses (refused.Spent seat) why stood = absurd why
  unread_refuses refused.OutOfMemory why stood = tt

  unread_accepts : (error : Refused S) → IsWhyNoContents told names counts error
      → (contents : List (List ℕ)) → AreTold told names contents
      → IsWithinLimits plan.rounds contents → Stood counts.faults counts.faults_now
      → IsDoneOrStopped {D = D} (Err error)
  unread_accepts refused.Read why contents tells within stood =
      absurd (rose_stood counts.faults counts.faults_now why stood)
  unread_accepts refused.TooLarge why contents tells within stood = elim why [
    | inl many ↦
        let few = within.files in let same = told_many told names contents tells in
        absurd (omega (arith, few, same, many))
    | inr long ↦
        absurd (told_not_long told _ names contents counts.overlong counts.overlong_now tells
        within.bytes long)
  ]
  unread_accepts (refused.Full seat) why contents tells within stood = absurd why
  unread_accepts (refused.Spent seat) why contents tells within stood = absurd why
  unread_accepts refused.OutOfMemory why contents tells within stood = tt

  -- the contents weren't had
  pub answers_unread : (error : Refused S) → IsWhyNoContents told names counts error
      → (most_files < length names → (error ≡ refused.TooLarge) × Untouched)
      → AnswersSo (Err error)
  answers_unread error why many = record {
    done = tt;
    why = unread_why error why;
    many = λ more. (let m = many more in cc, (many more).1);
    refuses = λ contents tells passes stood. unread_refuses error why stood;
    accepts = unread_accepts error why;
  }

  module _ (contents : List (List ℕ)) (are : AreContents told names contents) where
    counted_done : (result : Result D (Refused S)) → IfOk result (IsCounted plan contents)
        → IfOk result (IsDone IsCounted told names plan)
    counted_done (Ok done) is = record { contents = contents; are = are; counted = is }
    counted_done (Err error) is = tt

    counted_why : (result : Result D (Refused S))
        → IfErr result (IsWhyUncounted IsFull IsSpent plan contents)
        → IfErr result (IsWhyNotDone IsFull IsSpent told names plan counts)
    counted_why (Ok done) why = tt
    counted_why (Err refused.Read) why = absurd why
    counted_why (Err refused.TooLarge) why = inr (inr (contents, are, why))
    counted_why (Err (refused.Full seat)) why = record {
      contents = contents;
      are = are;
      within = why.0;
      so = why.1;
    }
    counted_why (Err (refused.Spent seat)) why = record {
      contents = contents;
      are = are;
      within = why.0;
      so = why.1;
    }
    counted_why (Err refused.OutOfMemory) why = tt

    -- they were had, and this was answered for them
    pub answers_counted : (result : Result D (Refused S))
        → ((done : D) → IsCounted plan contents done → IsWithinLimits plan.rounds contents)
        → length names ≤ most_files → IfOk result (IsCounted plan contents)
        → IfErr result (IsWhyUncounted IsFull IsSpent plan contents) → AnswersSo result
    answers_counted result bounded few is why = record {
      done = counted_done result is;
      why = counted_why result why;
      many = λ more. absurd (omega (arith, few, more));
      refuses = λ others tells passes stood.
          counted_refuses IsCounted IsFull IsSpent plan contents bounded result is why
          (subst (PassesLimit plan.rounds) (sym (told_same told names others contents tells are))
          passes);
      accepts = λ others tells within stood.
          counted_accepts IsCounted IsFull IsSpent plan contents bounded result why
          (subst (IsWithinLimits plan.rounds) (sym (told_same told names others contents tells are))
          within);
    }
