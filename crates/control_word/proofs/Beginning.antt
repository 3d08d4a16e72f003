-- The seats of a domain that has just been opened are at rest, and have room.
use Rattle.std.proofs.Common.{ℕ, zero, suc, ◌+◌, ◌<◌, List, refl, sym, subst, arith}
use Rattle.std.specs.Prelude.{All}
use Rattle.acquire_retire.specs.core_events.declared.shape.Quota.{Quota}
use Rattle.acquire_retire.specs.core_events.declared.shape.Shape.{Shape}
use Rattle.acquire_retire.specs.core_events.Runs.{IsShape}
use Rattle.acquire_retire.specs.core_events.Steps.{HasRoom}
use Rattle.acquire_retire.specs.core_events.Views.{first_view, note_of}
use Rattle.acquire_retire.specs.domain_rule.Views.{quota_at}
use Rattle.acquire_retire.proofs.Below.core_law_Each.{get_each, length_each}
use Rattle.acquire_retire.specs.Domains.{DomainState}
use Rattle.acquire_retire.specs.Openings.{begun_seat, opened_seats}
use Rattle.acquire_retire.specs.Seats.{SeatState}
use Rattle.control_word.specs.Resting.{IsAtRest, IsSettled}

settled : (z : Shape) (n : ℕ) (q : Quota) (grants : List ℕ) (j : ℕ)
    → IsSettled (note_of (first_view z n q grants) j)
settled z n q grants zero = tt
settled z n q grants (suc zero) = tt
settled z n q grants (suc (suc zero)) = tt
settled z n q grants (suc (suc (suc zero))) = tt
settled z n q grants (suc (suc (suc (suc j)))) = tt

module _ {P V : Type 0} (first : ℕ → V) (d : DomainState P) (shape : IsShape d.shape) where
  at_rest : (n : ℕ)
      → IsAtRest d (begun_seat first d n) × HasRoom (begun_seat first d n).view.core
  at_rest n =
      let seats = shape.0 in (
        record {
          of_domain = (refl, refl);
          idle = (refl, refl);
          owes_nothing = refl;
          first = refl;
          others = λ j. settled d.shape n (quota_at d.terms.quotas n) d.terms.grants j;
        },
        omega arith,
      )

  pub all_at_rest : All (λ s. IsAtRest d s × HasRoom s.view.core) (opened_seats first d)
  all_at_rest k other low =
      let n = d.shape.seats in
      let count = length_each 0 n (begun_seat first d) in
      let there : k < n = omega arith in
      subst (λ (s : SeatState V). IsAtRest d s × HasRoom s.view.core)
      (sym (get_each 0 n k (begun_seat first d) other there)) (at_rest (0 + k))
