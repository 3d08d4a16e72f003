-- The seats of a domain that was just opened are free, and so is seat 0 when another one has left.
use Rattle.std.proofs.Common.{◌≡◌, ℕ, ◌+◌, ◌<◌, List, length, refl, ap, sym, ◌∙◌, subst, arith}
use Rattle.std.specs.Prelude.{All, get_or, slice_index_or}
use Rattle.std.proofs.lemmas.List.{get_or-map, length-map}
use Rattle.epoch_domain.proofs.Below.core_law_Each.{get_each, length_each}
use Rattle.epoch_domain.specs.epoch_core.Runs.{IsShape}
use Rattle.epoch_domain.specs.Domains.{DomainState}
use Rattle.epoch_domain.specs.Leavings.{TookOver}
use Rattle.epoch_domain.specs.Openings.{AreOpened, begun_seat, without_room}
use Rattle.epoch_domain.specs.Seats.{SeatState}
use Rattle.epoch_refs.specs.Walks.{IsFree}

module _ {P V : Type 0} (first : ℕ → V) (d : DomainState P) (seats : List (SeatState V))
    (opened : AreOpened first d seats) (shape : IsShape d.shape) where
  pub many : length seats ≡ d.shape.seats
  many =
      sym (length-map seats without_room)
      ∙ (ap length opened ∙ length_each 0 d.shape.seats (begun_seat first d))

  at : (k : ℕ) (other : SeatState V) → k < length seats
      → without_room (slice_index_or seats k other) ≡ begun_seat first d (0 + k)
  at k other low =
      sym (get_or-map without_room seats k other (without_room other) low)
      ∙ (ap (λ (ss : List (SeatState V)). get_or ss k (without_room other)) opened
      ∙ get_each 0 d.shape.seats k (begun_seat first d) (without_room other)
      (let n = many in omega arith))

  free_begun : (n : ℕ) → IsFree d (begun_seat first d n)
  free_begun n = record { rest = ((refl, refl), (refl, refl)); outside = refl }

  pub all_free : All (IsFree d) seats
  all_free k other low =
      let free = subst (IsFree d) (sym (at k other low)) (free_begun (0 + k)) in
      record { rest = free.rest; outside = free.outside }

  some : 0 < length seats
  some = let n = many in let least = shape.0 in omega arith

  -- the first of them is seat 0
  pub first_is_first : (other : SeatState V) → (slice_index_or seats 0 other).view.core.seat ≡ 0
  first_is_first other = ap (λ (s : SeatState V). s.view.core.seat) (at 0 other some)

module _ {P V : Type 0} {d : DomainState P} {fits : List ℕ → Type 0} {joined : V → V → V}
    {root v new : SeatState V} where
  pub joined_free : TookOver d fits joined root v new → IsFree d root → IsFree d new
  joined_free over free =
      let core = ap (λ x. x.core) over.view in
      record {
        rest = (
          (over.table ∙ free.rest.0.0, ap (λ x. x.shape) core ∙ free.rest.0.1),
          (ap (λ x. x.phase) core ∙ free.rest.1.0, ap (λ x. x.left) core ∙ free.rest.1.1),
        );
        outside = ap (λ x. x.number) core ∙ free.outside;
      }

  pub joined_first : TookOver d fits joined root v new → root.view.core.seat ≡ 0
      → new.view.core.seat ≡ 0
  joined_first over first = ap (λ x. x.core.seat) over.view ∙ first
