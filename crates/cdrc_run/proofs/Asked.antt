-- What the words of a command line ask for is within ranges, and is one job.
use Rattle.std.proofs.Common.{◌≡◌, ℕ, ◌≤◌, List, [], ◌∷◌, IfSome, length, sym, ap, subst, ◌∙◌, arith}
use Rattle.std.specs.declared.option.Option.{Option}
use Rattle.command_line.specs.plain_state.Limits.{most_slots}
use Rattle.command_line.specs.Parts.{Text}
use Rattle.command_line.specs.Requests.{AreDraws, Asks, IsSame}
use Rattle.command_line.specs.Values.{IsNumberOr, IsSlots}
use Rattle.command_line.specs.run_requests.declared.asked.Draws.{Draws}
use Rattle.command_line.specs.run_requests.declared.asked.Request.{Request}
use Rattle.command_line.specs.run_requests.declared.asked.Request.TheVariants as request
use Rattle.cdrc_run.specs.declared.outcome.End.{End}
use Rattle.cdrc_run.specs.Ends.{Ends, SinkRun, SourceRun}
use Rattle.cdrc_run.specs.Jobs.{AreInRange, AsksJob, HasRanges, HasTooManyFiles, Job, bulk, draw, job_of, script, steps}
use Rattle.command_line.proofs.OneRequest.{one_request}

number_within : (default least most : ℕ) (values : List Text) (n : ℕ) → least ≤ default
    → default ≤ most → IsNumberOr default least most values n → (least ≤ n) × (n ≤ most)
number_within default least most [] n low high is = (omega arith, omega arith)
number_within default least most (word ∷ []) n low high is = (is.1, is.2)
number_within default least most (word ∷ more ∷ words) n low high is = absurd is

slots_within : (values : List Text) (slots : Option ℕ) → IsSlots values slots
    → IfSome slots (λ n. (1 ≤ n) × (n ≤ most_slots))
slots_within [] slots is = subst (λ (o : Option ℕ). IfSome o (λ n. (1 ≤ n) × (n ≤ most_slots))) (sym is) tt
slots_within (word ∷ []) slots is =
    subst (λ (o : Option ℕ). IfSome o (λ n. (1 ≤ n) × (n ≤ most_slots))) (sym is.1) (is.2.1, is.2.2)
slots_within (word ∷ more ∷ words) slots is = absurd is

draws_within : (most : ℕ) (draws : Draws) (operands : List Text) → AreDraws most draws operands
    → AreInRange most draws
draws_within most draws operands are = record {
  words = are.5.2;
  least = are.6.1;
  most_of = are.6.2;
}

-- what is asked for is within ranges
pub ranges : (line : List Text) (asked : Request) → Asks line asked → HasRanges asked
ranges line (request.Words args) asks =
    let are = asks.2.3 in
    let names = ap length are.names in let some = are.some in (
      record {
        lanes = number_within 2 1 31 _ args.lanes (omega arith) (omega arith) are.lanes;
        rounds = number_within 1 1 1000 _ args.rounds (omega arith) (omega arith) are.rounds;
        slots = slots_within _ args.slots are.slots;
      },
      omega arith,
    )
ranges line (request.Script file) asks = tt
ranges line (request.Steps file) asks = tt
ranges line (request.Generate draws) asks = draws_within 1000000 draws _ asks.2.3
ranges line (request.Bulk drawn) asks = (
  draws_within 500000 drawn.draws _ asks.2.3.0,
  number_within 2 1 31 _ drawn.lanes (omega arith) (omega arith) asks.2.3.1,
)

same_job : (a b : Request) → IsSame a b → job_of a ≡ job_of b
same_job (request.Words a) (request.Words b) same =
    let names = same.0 in let lanes = same.1 in let rounds = same.2 in
    let slots = same.3 in let double = same.4 in let protect = same.5 in cc
same_job (request.Script a) (request.Script b) same = ap script same
same_job (request.Steps a) (request.Steps b) same = ap steps same
same_job (request.Generate a) (request.Generate b) same = ap draw same
same_job (request.Bulk a) (request.Bulk b) same = ap bulk same
same_job _ _ same = absurd same

-- the words ask for one job
pub job_is_one : (line : List Text) (a b : Job) → AsksJob line a → AsksJob line b → a ≡ b
job_is_one line a b first second =
    sym first.2 ∙ same_job first.0 second.0 (one_request line first.0 second.0 first.1 second.1)
    ∙ second.2

-- so what is asked for of one is asked for of the other
pub many_as_asked : (line : List Text) (a b : Job) → AsksJob line a → AsksJob line b
    → HasTooManyFiles b → HasTooManyFiles a
many_as_asked line a b first second many = subst HasTooManyFiles (job_is_one line b a second first) many

-- and what holds of one holds of the other
pub ends_as_asked : {fits : List ℕ → Type 0} {source : SourceRun} {sink : SinkRun} {end : End}
    (line : List Text) (a b : Job) → AsksJob line a → AsksJob line b
    → Ends fits a source sink end → Ends fits b source sink end
ends_as_asked {fits} {source} {sink} {end} line a b first second ends =
    subst (λ (j : Job). Ends fits j source sink end) (job_is_one line a b first second) ends
