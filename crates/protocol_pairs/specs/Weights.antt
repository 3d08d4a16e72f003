-- The kind of a pair.
use Rattle.std.proofs.Common.{◌≡◌, ℕ, ◌≤◌, ◌^◌, List, ⊎_elim, get_or, arith}
use Rattle.std.proofs.lemmas.Bool.{cases_eq}
use Rattle.std.proofs.lemmas.Bool.Decides.{nat_tests}
use Rattle.plain_protocol.specs.Acts.{Owned}
use Rattle.protocol_pairs.specs.Parts.{FitsWhole}
use Rattle.protocol_pairs.specs.Shares.{IsLeft, IsRight, IsLeftPayload, FitsItsPart, weight_in_part}

-- a left payload weighs what it weighs in the left part, and another what it weighs in the right one
pub left_weight : (left right : List ℕ → ℕ) (words : List ℕ) → IsLeftPayload words
    → weight_in_part left right words ≡ left words
left_weight left right words is = grind (arith, nat_tests)

pub right_weight : (left right : List ℕ → ℕ) (words : List ℕ) → ¬ (IsLeftPayload words)
    → weight_in_part left right words ≡ right words
right_weight left right words not = grind (arith, nat_tests)

pub pair_bounded : (fits fits_too : List ℕ → Type 0) (weight weight_too : List ℕ → ℕ)
    → ((words : List ℕ) → fits words → weight words ≤ 2 ^ 32)
    → ((words : List ℕ) → fits_too words → weight_too words ≤ 2 ^ 32)
    → (words : List ℕ) → FitsItsPart fits fits_too words
    → weight_in_part weight weight_too words ≤ 2 ^ 32
pair_bounded fits fits_too weight weight_too a b words fit = ⊎_elim
    (λ is. let w = left_weight weight weight_too words is in
    let m = a words (fit.0 is) in omega arith)
    (λ not. let w = right_weight weight weight_too words not in
    let m = b words (fit.1 not) in omega arith)
    (cases_eq (get_or words 0 0) 0)

-- the parts' own payloads fit the pair, and weigh there what they weigh in their part
pub left_fits : {strong weak : ℕ} {owned : Owned} (fits others : List ℕ → Type 0)
    (weight weight_too : List ℕ → ℕ) → IsLeft strong weak owned
    → FitsWhole owned.payload fits (FitsItsPart fits others) weight
    (weight_in_part weight weight_too)
left_fits fits others weight weight_too own words owns fit =
    let is = own.payloads words owns in
    ((λ also. fit, λ not. absurd (not is)), left_weight weight weight_too words is)

pub right_fits : {strong weak : ℕ} {owned : Owned} (others fits : List ℕ → Type 0)
    (weight_too weight : List ℕ → ℕ) → IsRight strong weak owned
    → FitsWhole owned.payload fits (FitsItsPart others fits) weight
    (weight_in_part weight_too weight)
right_fits others fits weight_too weight own words owns fit =
    let not = own.payloads words owns in
    ((λ is. absurd (not is), λ also. fit), right_weight weight_too weight words not)
