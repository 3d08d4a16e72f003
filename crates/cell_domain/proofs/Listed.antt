-- Jobs that are made of seats, one after the other.
use Rattle.std.proofs.Common.{◌≡◌, ◌⊎◌, inl, inr, ℕ, zero, suc, ◌+◌, ◌<◌, ◌≤◌, List, [], ◌∷◌, ◌++◌, refl, ap, subst, ◌∙◌, arith}
use Rattle.std.specs.Prelude.{drop, length, slice_index_or}
use Rattle.std.proofs.Math.Seq.{get_or-append_seam}
use Rattle.std.proofs.lemmas.Bool.{cases_lt}
use Rattle.std.proofs.lemmas.List.{get_or-drop, get_or_append_left, get_or_default, length-append}
use Rattle.epoch_refs.specs.epoch_domain.Seats.{SeatState}
use Rattle.cell_lanes.specs.cell_calls.cell_law.declared.view.View.{View}
use Rattle.cell_domain.specs.declared.jobs.Job.{Job}
use Rattle.cell_domain.specs.Jobs.{AreJobs}

-- the first of what is left is taken
pub drop_one : {X : Type 0} (n : ℕ) (xs : List X) → drop 1 (drop n xs) ≡ drop (n + 1) xs
drop_one zero xs = refl
drop_one (suc n) [] =
    let e : suc (n + 1) ≡ suc n + 1 = omega arith in ap (λ k. drop k []) e
drop_one (suc n) (x ∷ xs) =
    let e : suc (n + 1) ≡ suc n + 1 = omega arith in
    drop_one n xs ∙ ap (λ k. drop k (x ∷ xs)) e

pub first_of : (seats left : List (SeatState View)) (n : ℕ) (taken other : SeatState View)
    → left ≡ drop n seats → n < length seats → taken ≡ slice_index_or left 0 taken
    → taken ≡ slice_index_or seats n other
first_of seats left n taken other is less value =
    let e : n + 0 ≡ n = omega arith in
    value ∙ ap (λ xs. slice_index_or xs 0 taken) is ∙ get_or-drop n seats 0 taken
    ∙ ap (λ k. slice_index_or seats k taken) e ∙ get_or_default seats n taken other less

pub no_jobs : (seats : List (SeatState View)) → AreJobs 0 seats []
no_jobs seats = record { many = refl; each = λ i job seat less. absurd (omega (arith, less)) }

module _ (n : ℕ) (seats : List (SeatState View)) (jobs : List Job) (are : AreJobs n seats jobs)
    (less : n < length seats) (taken : SeatState View)
    (is : (seat : SeatState View) → taken ≡ slice_index_or seats n seat) where
  abbrev job : Job
  job = record { number = n; seat = taken }

  at_last : (other : Job) (seat : SeatState View)
      → slice_index_or (jobs ++ job ∷ []) n other
      ≡ record { number = n; seat = slice_index_or seats n seat }
  at_last other seat =
      subst (λ j. slice_index_or (jobs ++ job ∷ []) j other ≡ job) are.many
      (get_or-append_seam jobs job [] other)
      ∙ ap {B = Job} (λ (s : SeatState View). record { number = n; seat = s }) (is seat)

  at_each : (i : ℕ) (other : Job) (seat : SeatState View) → (i < n) ⊎ (n ≤ i) → i < n + 1
      → slice_index_or (jobs ++ job ∷ []) i other
      ≡ record { number = i; seat = slice_index_or seats i seat }
  at_each i other seat (inl below) low =
      let many = are.many in
      get_or_append_left jobs (job ∷ []) other i (omega arith) ∙ are.each i other seat below
  at_each i other seat (inr above) low =
      let same : n ≡ i = omega arith in
      subst (λ j. slice_index_or (jobs ++ job ∷ []) j other
      ≡ record { number = j; seat = slice_index_or seats j seat }) same (at_last other seat)

  pub one_job : AreJobs (n + 1) seats (jobs ++ job ∷ [])
  one_job = record {
    many = let many = are.many in let l = length-append jobs (job ∷ []) in omega arith;
    each = λ i other seat low. at_each i other seat (cases_lt i n) low;
  }
