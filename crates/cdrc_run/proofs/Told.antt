-- Contents that are told decide whether a job's limit is passed.
use Rattle.std.proofs.Common.{ℕ, List, [], ◌∷◌, subst, arith}
use Rattle.words_work.specs.Contents.{AreContents, AreTold, Told}
use Rattle.words_work.specs.Limits.{most_bytes}
use Rattle.words_work.proofs.Below.file_work_Refusing.{told_not_large, told_not_long, within_passes, within_too_many}
use Rattle.words_work.proofs.Below.file_work_Told.{told_same}
use Rattle.cdrc_run.specs.Jobs.{AsksSlots, Job, bulk, count, draw, drawn_texts, names_in, regions, script, steps, IsWithinLimits, PassesLimit}
use Rattle.cdrc_run.specs.Outputs.{IsFull, IsSpentFor, IsTooLarge}
use Rattle.cdrc_run.specs.declared.outcome.RefusedSeat.{RefusedSeat}
use Rattle.cdrc_run.specs.declared.outcome.RefusedSeat.TheVariants as seats

passes_none : (job : Job) (contents : List (List ℕ)) → IsWithinLimits job contents
    → PassesLimit job contents → ⊥
passes_none (count names plan) contents within passes = within_passes plan.rounds contents within passes
passes_none (regions names plan) contents within passes = within_passes plan.rounds contents within passes
passes_none (script file) contents within passes = omega arith
passes_none (steps file) contents within passes = omega arith
passes_none (draw draws) contents within passes = passes
passes_none (bulk drawn) contents within passes = within_too_many 1 (drawn_texts drawn) within passes

pub told_passes : (job : Job) (told : Told) (contents others : List (List ℕ))
    → AreTold told (names_in job) contents → AreContents told (names_in job) others
    → IsWithinLimits job others → PassesLimit job contents → ⊥
told_passes job told contents others tells are within passes =
    passes_none job contents
    (subst (IsWithinLimits job) (told_same told (names_in job) contents others tells are) within)
    passes

pub told_not_too_large : (job : Job) (told : Told) (contents : List (List ℕ)) (before now : ℕ)
    → AreTold told (names_in job) contents → IsWithinLimits job contents
    → IsTooLarge job told before now → ⊥
told_not_too_large (count names plan) told contents before now tells within large =
    told_not_large told names contents plan.rounds before now tells within large
told_not_too_large (regions names plan) told contents before now tells within large =
    told_not_large told names contents plan.rounds before now tells within large
told_not_too_large (script file) told contents before now tells within large =
    told_not_long told most_bytes (file ∷ []) contents before now tells within large
told_not_too_large (steps file) told contents before now tells within large =
    told_not_long told most_bytes (file ∷ []) contents before now tells within large
told_not_too_large (draw draws) told contents before now tells within large = large
told_not_too_large (bulk drawn) told contents before now tells within large =
    within_too_many 1 (drawn_texts drawn) within large

pub told_full : (fits : List ℕ → Type 0) (job : Job) (told : Told) (contents : List (List ℕ))
    (seat : RefusedSeat)
    → AreTold told (names_in job) contents → IsFull fits job told seat → PassesLimit job contents → ⊥
told_full fits (count names plan) told contents seat tells full passes =
    told_passes (count names plan) told contents full.contents tells full.are full.within passes
told_full fits (regions names plan) told contents seat tells full passes =
    told_passes (regions names plan) told contents full.contents tells full.are full.within passes
told_full fits (script file) told contents seat tells full passes = full
told_full fits (steps file) told contents seat tells full passes = full
told_full fits (draw draws) told contents seat tells full passes = full
told_full fits (bulk drawn) told contents seat tells full passes =
    within_too_many 1 (drawn_texts drawn) full.0 passes

pub told_spent : (job : Job) (told : Told) (contents : List (List ℕ)) (seat : RefusedSeat)
    → AreTold told (names_in job) contents → IsSpentFor job told seat → PassesLimit job contents → ⊥
told_spent (count names plan) told contents seat tells spent passes =
    told_passes (count names plan) told contents spent.contents tells spent.are spent.within passes
told_spent (regions names plan) told contents seat tells spent passes =
    told_passes (regions names plan) told contents spent.contents tells spent.are spent.within passes
told_spent (script file) told contents seat tells spent passes = spent
told_spent (steps file) told contents seat tells spent passes = spent
told_spent (draw draws) told contents seat tells spent passes = spent
told_spent (bulk drawn) told contents seat tells spent passes =
    within_too_many 1 (drawn_texts drawn) spent.0 passes

-- only where a number of slots is asked for does a seat find each one taken
pub full_asks : (fits : List ℕ → Type 0) (job : Job) (told : Told) (seat : RefusedSeat)
    → IsFull fits job told seat → AsksSlots job
full_asks fits (count names plan) told (seats.Words seat) full = (full.so.few.0, full.so.few.1)
full_asks fits (count names plan) told (seats.Epoch seat) full = absurd full.so
full_asks fits (regions names plan) told (seats.Words seat) full = absurd full.so
full_asks fits (regions names plan) told (seats.Epoch seat) full = (full.so.few.0, full.so.few.1)
full_asks fits (script file) told seat full = full
full_asks fits (steps file) told seat full = full
full_asks fits (draw draws) told seat full = full
full_asks fits (bulk drawn) told (seats.Words seat) full = cc full.1.few.1
full_asks fits (bulk drawn) told (seats.Epoch seat) full = absurd full.1
