-- What each job that reads files writes, and why it writes nothing.
use Rattle.std.proofs.Common.{ℕ, ◌+◌, ◌<◌, ◌≤◌, Bool, false, List, [], ◌∷◌, length, Some, None, IfSome, Ok, Err, IfErr, IfOk, refl, arith}
use Rattle.std.specs.declared.result.Result.{Result}
use Rattle.std.specs.declared.option.Option.{Option}
use Rattle.std.proofs.lemmas.List.Sums.{sum_by-cons}
use Rattle.cdrc_scripts.specs.acquire_retire.Seats.{SeatState}
use Rattle.words_work.specs.words_law.Views.{View}
use Rattle.epoch_work.specs.cell_reports.cell_lanes.cell_calls.cell_law.declared.view.View.{View as CellView}
use Rattle.epoch_work.specs.cell_reports.epoch_refs.epoch_domain.Seats.{SeatState as EpochSeat}
use Rattle.cdrc_steps.specs.Meaning.{IsSteps}
use Rattle.command_line.specs.run_requests.declared.asked.Bulk.{Bulk}
use Rattle.words_work.specs.lane_gate.Causes.{Rose}
use Rattle.words_work.specs.Contents.{Counts, IsContent, IsTooLong, Told, bytes_in}
use Rattle.words_work.specs.Limits.{most_bytes}
use Rattle.words_work.specs.Outcomes as words
use Rattle.words_work.specs.file_work.Outcomes.{IsDone, IsWhyNotDone}
use Rattle.words_work.specs.file_work.Reads.{IsWhyOneUnread}
use Rattle.epoch_work.specs.Outcomes as epoch
use Rattle.epoch_work.specs.declared.outcome.EpochDone.{EpochDone}
use Rattle.words_work.specs.declared.outcome.WordsDone.{WordsDone}
use Rattle.words_work.specs.file_work.declared.refused.Refused.{Refused}
use Rattle.words_work.specs.file_work.declared.refused.Refused.TheVariants as refused
use Rattle.words_work.specs.file_work.declared.plan.Plan.{Plan}
use Rattle.cdrc_run.specs.Jobs.{bulk, count, regions, script, steps}
use Rattle.cdrc_run.specs.Refusals.{of_epoch, of_words}
use Rattle.cdrc_run.specs.Outputs.{IsOutput, IsOutputOf, IsShownScript, IsWhyNoOutput}
use Rattle.cdrc_run.specs.declared.outcome.Output.{Output}
use Rattle.cdrc_run.specs.declared.outcome.Why.{Why}
use Rattle.cdrc_run.specs.declared.outcome.RefusedSeat.{RefusedSeat}
use Rattle.cdrc_run.specs.declared.outcome.Why.TheVariants as why

pub count_output : (told : Told) (names : List (List ℕ)) (plan : Plan) (done : WordsDone)
    → IsDone words.IsCounted told names plan done
    → IsOutputOf (count names plan) told done.bytes.items false (why.Words done.root done.tallies)
count_output told names plan done is = record {
  contents = is.contents;
  are = is.are;
  within = is.counted.within;
  is_output = (record { done = done; is = refl; counted = is.counted; shows = refl }, refl);
}

pub regions_output : (told : Told) (names : List (List ℕ)) (plan : Plan) (done : EpochDone)
    → IsDone epoch.IsCounted told names plan done
    → IsOutputOf (regions names plan) told done.bytes.items false (why.Epoch done.root)
regions_output told names plan done is = record {
  contents = is.contents;
  are = is.are;
  within = is.counted.within;
  is_output = (record { done = done; is = refl; counted = is.counted; shows = refl }, refl);
}

pub count_why : (fits : List ℕ → Type 0) (told : Told) (names : List (List ℕ)) (plan : Plan)
    (counts : Counts) (error : Refused (SeatState View))
    → IsWhyNotDone (words.IsFull fits) words.IsSpentOn told names plan counts error
    → IsWhyNoOutput fits (count names plan) told counts (of_words error)
count_why fits told names plan counts refused.Read why = why
count_why fits told names plan counts refused.TooLarge why = why
count_why fits told names plan counts (refused.Full seat) why = record {
  contents = why.contents;
  are = why.are;
  within = why.within;
  so = why.so;
}
count_why fits told names plan counts (refused.Spent seat) why = record {
  contents = why.contents;
  are = why.are;
  within = why.within;
  so = why.so;
}
count_why fits told names plan counts refused.OutOfMemory why = why

pub regions_why : (fits : List ℕ → Type 0) (told : Told) (names : List (List ℕ)) (plan : Plan)
    (counts : Counts) (error : Refused (EpochSeat CellView))
    → IsWhyNotDone epoch.IsFull epoch.IsSpentOn told names plan counts error
    → IsWhyNoOutput fits (regions names plan) told counts (of_epoch error)
regions_why fits told names plan counts refused.Read why = why
regions_why fits told names plan counts refused.TooLarge why = why
regions_why fits told names plan counts (refused.Full seat) why = record {
  contents = why.contents;
  are = why.are;
  within = why.within;
  so = why.so;
}
regions_why fits told names plan counts (refused.Spent seat) why = record {
  contents = why.contents;
  are = why.are;
  within = why.within;
  so = why.so;
}
regions_why fits told names plan counts refused.OutOfMemory why = why

one_content : (content : List ℕ) → length content ≤ most_bytes → bytes_in (content ∷ []) ≤ most_bytes
one_content content within =
    let a = sum_by-cons (λ (c : List ℕ). length c) content [] in omega arith

pub script_output : (told : Told) (file content bytes : List ℕ) (refused : Bool) (shown : Why)
    → IsContent (told file) content → length content ≤ most_bytes
    → IsShownScript content bytes refused shown → IsOutputOf (script file) told bytes refused shown
script_output told file content bytes refused shown is within ran = record {
  contents = content ∷ [];
  are = (is, tt);
  within = one_content content within;
  is_output = (content, refl, ran);
}

pub steps_output : (told : Told) (file content bytes : List ℕ) (refused : Bool)
    → IsContent (told file) content → length content ≤ most_bytes → IsSteps content bytes refused
    → IsOutputOf (steps file) told bytes refused why.Nothing
steps_output told file content bytes refused is within ran = record {
  contents = content ∷ [];
  are = (is, tt);
  within = one_content content within;
  is_output = (content, refl, ran, refl);
}

longer : (told : Option (List ℕ)) → IfSome told (λ content. most_bytes < length content)
    → IfSome told (λ content. most_bytes < bytes_in [] + length content)
longer None long = tt
longer (Some content) long = omega arith

too_long : (told : Told) (file : List ℕ) (before now : ℕ) → Rose before now
    → IfSome (told file) (λ content. most_bytes < length content)
    → IsTooLong told most_bytes (file ∷ []) before now
too_long told file before now found long = record {
  front = [];
  name = file;
  back = [];
  names_are = refl;
  contents = [];
  are = tt;
  found = found;
  longer = longer (told file) long;
}

pub script_why : (fits : List ℕ → Type 0) (told : Told) (file : List ℕ) (counts : Counts)
    (error : Refused RefusedSeat) → IsWhyOneUnread (told file) most_bytes counts error
    → IsWhyNoOutput fits (script file) told counts error
script_why fits told file counts refused.Read why = why
script_why fits told file counts refused.TooLarge why =
    too_long told file counts.overlong counts.overlong_now why.0 why.1
script_why fits told file counts (refused.Full seat) why = absurd why
script_why fits told file counts (refused.Spent seat) why = absurd why
script_why fits told file counts refused.OutOfMemory why = tt

pub steps_why : (fits : List ℕ → Type 0) (told : Told) (file : List ℕ) (counts : Counts)
    (error : Refused RefusedSeat) → IsWhyOneUnread (told file) most_bytes counts error
    → IsWhyNoOutput fits (steps file) told counts error
steps_why fits told file counts refused.Read why = why
steps_why fits told file counts refused.TooLarge why =
    too_long told file counts.overlong counts.overlong_now why.0 why.1
steps_why fits told file counts (refused.Full seat) why = absurd why
steps_why fits told file counts (refused.Spent seat) why = absurd why
steps_why fits told file counts refused.OutOfMemory why = tt

-- drawn texts are in no file
pub drawn_output : (told : Told) (drawn : Bulk) (result : Result Output (Refused RefusedSeat))
    → IfOk result (λ output.
    IsOutput (bulk drawn) [] output.text.items output.refused output.why)
    → IfOk result (λ output.
    IsOutputOf (bulk drawn) told output.text.items output.refused output.why)
drawn_output told drawn (Ok output) is = record {
  contents = [];
  are = tt;
  within = is.0.count.counted.within;
  is_output = is;
}
drawn_output told drawn (Err error) is = tt

-- what follows of each refusal follows of the answer
pub each_refusal : (result : Result Output (Refused RefusedSeat)) (P Q : Refused RefusedSeat → Type 0)
    → ((error : Refused RefusedSeat) → P error → Q error) → IfErr result P → IfErr result Q
each_refusal (Ok output) P Q follows why = tt
each_refusal (Err error) P Q follows why = follows error why
