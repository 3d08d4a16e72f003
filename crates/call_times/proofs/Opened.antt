-- The seats of a domain with a directory that was just opened are free to intern.
use Rattle.std.proofs.Common.{ℕ, ◌+◌, ◌<◌, ◌≤◌, refl, subst, sym, arith}
use Rattle.std.specs.Prelude.{All}
use Rattle.turn_loops.specs.core_events.Runs.{IsShape}
use Rattle.turn_loops.proofs.Below.core_law_Each.{get_each, length_each}
use Rattle.turn_loops.specs.acquire_retire.Domains.{DomainState}
use Rattle.turn_loops.specs.acquire_retire.Openings.{begun_seat, opened_seats}
use Rattle.turn_loops.specs.acquire_retire.Seats.{SeatState}
use Rattle.turn_loops.proofs.Below.control_word_Beginning.{all_at_rest}
use Rattle.weak_intern.specs.directory_law.declared.view.View.{View}
use Rattle.weak_intern.specs.directory_protocol.declared.law.DirectoryLaw.{DirectoryLaw}
use Rattle.weak_intern.specs.text_reading.Reading.{HasTwoFree}
use Rattle.call_times.specs.Interning.{HasLeft, IsFreeToIntern}

module _ (first : ℕ → View) (few : (n : ℕ) → (first n).used + 0 ≤ (first n).quota)
    (d : DomainState DirectoryLaw) (shape : IsShape d.shape) where
  two_free : (n : ℕ) → HasTwoFree (begun_seat first d n).view.core
  two_free n = (1, 2, omega arith, omega arith, omega arith, refl, refl)

  pub all_free : All (IsFreeToIntern d) (opened_seats first d)
  all_free k other low =
      let rests = all_at_rest first d shape k other low in
      let count = length_each 0 d.shape.seats (begun_seat first d) in
      let there : k < d.shape.seats = omega arith in
      let is = get_each 0 d.shape.seats k (begun_seat first d) other there in (
        record {
          rest = rests.0;
          room = rests.1;
          free = subst (λ (s : SeatState View). HasTwoFree s.view.core) (sym is) (two_free (0 + k));
        },
        subst (λ (s : SeatState View). HasLeft 0 s) (sym is) (few (0 + k)),
      )
