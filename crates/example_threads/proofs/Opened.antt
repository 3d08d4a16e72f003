-- The seats of a domain that was just opened are free, and the first of them is seat 0.
use Rattle.std.proofs.Common.{ℕ, zero, suc, ◌+◌, ◌<◌, ap, refl, subst, sym, arith}
use Rattle.std.specs.Prelude.{◌≡◌, All, slice_index_or}
use Rattle.cdrc.specs.core_events.Runs.{IsShape}
use Rattle.cdrc.proofs.Below.core_law_Each.{get_each, length_each}
use Rattle.cdrc.specs.acquire_retire.Domains.{DomainState}
use Rattle.cdrc.specs.acquire_retire.Openings.{begun_seat, opened_seats}
use Rattle.cdrc.specs.acquire_retire.Seats.{SeatState}
use Rattle.cdrc.specs.control_word.Resting.{IsUnderNone}
use Rattle.cdrc.proofs.Below.control_word_Beginning.{all_at_rest}
use Rattle.example_threads.specs.Free.{IsFree}

module _ {P V : Type 0} (first : ℕ → V) (d : DomainState P) (shape : IsShape d.shape) where
  idle : (n : ℕ) → IsUnderNone (begun_seat first d n).view.core
  idle n zero = refl
  idle n (suc zero) = refl
  idle n (suc (suc zero)) = refl
  idle n (suc (suc (suc zero))) = refl
  idle n (suc (suc (suc (suc j)))) = refl

  pub all_free : All (IsFree d) (opened_seats first d)
  all_free k other low =
      let rests = all_at_rest first d shape k other low in
      let count = length_each 0 d.shape.seats (begun_seat first d) in
      let there : k < d.shape.seats = omega arith in
      record {
        rest = rests.0;
        none = subst (λ (s : SeatState V). IsUnderNone s.view.core)
            (sym (get_each 0 d.shape.seats k (begun_seat first d) other there)) (idle (0 + k));
        room = rests.1;
      }

  pub first_is_first : (other : SeatState V)
      → (slice_index_or (opened_seats first d) 0 other).view.core.seat ≡ 0
  first_is_first other =
      ap (λ (s : SeatState V). s.view.core.seat)
      (get_each 0 d.shape.seats 0 (begun_seat first d) other shape.0)
