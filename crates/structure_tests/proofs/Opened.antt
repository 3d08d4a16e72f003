-- The seats of a domain that was just opened are new, and the first of them is seat 0.
use Rattle.std.proofs.Common.{Bool, true, false, List, [], ◌∷◌, ◌++◌, ℕ, zero, suc, ◌+◌, ◌<◌, ap, refl, subst, sym, arith}
use Rattle.std.specs.Prelude.{◌≡◌, All, slice_index_or, if◌then◌else◌}
use Rattle.std.proofs.lemmas.List.Elements.{All-push}
use Rattle.part_calls.specs.core_events.Runs.{IsShape}
use Rattle.part_calls.proofs.Below.core_law_Each.{get_each, length_each}
use Rattle.part_calls.specs.acquire_retire.Domains.{DomainState}
use Rattle.part_calls.specs.acquire_retire.Openings.{begun_seat, opened_seats}
use Rattle.part_calls.specs.acquire_retire.Seats.{SeatState}
use Rattle.part_calls.specs.control_word.Resting.{IsUnderNone}
use Rattle.part_calls.proofs.Below.control_word_Beginning.{all_at_rest}
use Rattle.hand_queues.specs.linked_queue.Queues.{CanLay}
use Rattle.hand_queues.specs.queue_law.Views.{view_of}
use Rattle.hand_queues.specs.queue_law.declared.view.Form.{Form}
use Rattle.structure_tests.specs.Ready.{IsNew, View}

module _ {P : Type 0} (form : Form) (d : DomainState P) (shape : IsShape d.shape) where
  abbrev pub first_view : ℕ → View
  first_view n = (view_of form n, tt)

  idle : (n : ℕ) → IsUnderNone (begun_seat first_view d n).view.core
  idle n zero = refl
  idle n (suc zero) = refl
  idle n (suc (suc zero)) = refl
  idle n (suc (suc (suc zero))) = refl
  idle n (suc (suc (suc (suc j)))) = refl

  pub all_new : All (IsNew d) (opened_seats first_view d)
  all_new k other low =
      let rests = all_at_rest first_view d shape k other low in
      let count = length_each 0 d.shape.seats (begun_seat first_view d) in
      let there : k < d.shape.seats = omega arith in
      let is = get_each 0 d.shape.seats k (begun_seat first_view d) other there in
      record {
        free = record {
          rest = rests.0;
          none = subst (λ (s : SeatState View). IsUnderNone s.view.core) (sym is) (idle (0 + k));
          room = rests.1;
        };
        here = ap (λ (s : SeatState View). s.view.client.0.here) is;
      }

  module _ (other : SeatState View) where
    first_is : slice_index_or (opened_seats first_view d) 0 other ≡ begun_seat first_view d 0
    first_is = get_each 0 d.shape.seats 0 (begun_seat first_view d) other shape.0

    pub first_is_first : (slice_index_or (opened_seats first_view d) 0 other).view.core.seat ≡ 0
    first_is_first = ap (λ (s : SeatState View). s.view.core.seat) first_is

    pub first_can_lay : CanLay (slice_index_or (opened_seats first_view d) 0 other).view.client.0
    first_can_lay =
        subst (λ (s : SeatState View). CanLay s.view.client.0) (sym first_is)
        (record { root = refl; here = refl; unlaid = refl })

-- one more element, if there was memory for it
pub all_pushed : {X : Type 0} (P : X → Type 0) (b : Bool) (xs ys : List X) (x : X)
    → ys ≡ (if b then xs ++ x ∷ [] else xs) → All P xs → P x → All P ys
all_pushed P true xs ys x is all it = subst (All P) (sym is) (All-push P xs x all it)
all_pushed P false xs ys x is all it = subst (All P) (sym is) all
