-- The seats of a domain that was just opened: those of its lanes, and seat 0.
use Rattle.std.proofs.Common.{◌≡◌, ℕ, ◌+◌, ◌<◌, List, length, ap, subst, sym, ◌∙◌, arith}
use Rattle.std.specs.Prelude.{All, slice_index_or}
use Rattle.std.specs.List.{remove}
use Rattle.std.proofs.lemmas.List.{get_or-map}
use Rattle.std.proofs.lemmas.List.Edits.{get_or-remove_above, length-remove}
use Rattle.cell_lanes.specs.cell_calls.Cells.{area_of}
use Rattle.cell_lanes.specs.cell_calls.cell_law.Owned.{first_view}
use Rattle.cell_lanes.specs.cell_calls.cell_law.declared.view.View.{View}
use Rattle.cell_lanes.specs.cell_calls.cell_protocol.declared.law.CellLaw.{CellLaw}
use Rattle.epoch_domain.proofs.Below.core_law_Each.{get_each}
use Rattle.epoch_refs.proofs.Opened.{many}
use Rattle.epoch_refs.specs.Walks.{IsFree}
use Rattle.epoch_refs.specs.epoch_core.Runs.{IsShape}
use Rattle.epoch_refs.specs.epoch_core.declared.shape.EpochShape.{EpochShape}
use Rattle.epoch_refs.specs.epoch_domain.Domains.{DomainState}
use Rattle.epoch_refs.specs.epoch_domain.Openings.{AreOpened, begun_seat, without_room}
use Rattle.epoch_refs.specs.epoch_domain.Seats.{SeatState}
use Rattle.lane_work.specs.declared.work.Work.{Work}
use Rattle.cell_domain.specs.Opened.{AreLanes, CanBegin, IsDomainFor, IsFresh}
use Rattle.cell_domain.proofs.Shapes.{is_over}

module _ (work : Work) (lanes slots : ℕ) (d : DomainState CellLaw) (some' : 0 < lanes)
    (is : IsDomainFor work lanes slots d) (shape : IsShape d.shape)
    (seats : List (SeatState View)) (opened : AreOpened (first_view (area_of d.protocol)) d seats)
    (free : All (IsFree d) seats) where
  all_seats : length seats ≡ lanes + 1
  all_seats =
      many (first_view (area_of d.protocol)) d seats opened shape
      ∙ ap (λ (z : EpochShape). z.seats) is.shape

  -- as they come from `open_epoch`
  as_opened : (n : ℕ) (seat : SeatState View) → n < length seats
      → without_room (slice_index_or seats n seat)
      ≡ begun_seat (first_view (area_of d.protocol)) d (0 + n)
  as_opened n seat less =
      sym (get_or-map without_room seats n seat (without_room seat) less)
      ∙ ap (λ (ss : List (SeatState View)). slice_index_or ss n (without_room seat)) opened
      ∙ get_each 0 d.shape.seats n (begun_seat (first_view (area_of d.protocol)) d)
      (without_room seat)
      (let all = many (first_view (area_of d.protocol)) d seats opened shape in omega arith)

  fresh : (n : ℕ) (seat : SeatState View) → n < length seats
      → IsFresh d n (slice_index_or seats n seat)
  fresh n seat less =
      let e : 0 + n ≡ n = omega arith in
      as_opened n seat less
      ∙ ap (begun_seat (first_view (area_of d.protocol)) d) e

  begins : (i : ℕ) (seat : SeatState View) → i + 1 < length seats
      → CanBegin d i (slice_index_or seats (i + 1) seat)
  begins i seat less =
      let new = fresh (i + 1) seat less in record {
        ready = record {
          free = free (i + 1) seat less;
          over = is_over work lanes slots d some' is;
          is_open = ap (λ (s : SeatState View). s.view.client.cleared) new;
        };
        fresh = new;
      }

  pub are_lanes : AreLanes d lanes (remove seats 0)
  are_lanes =
      let all = all_seats in let one = length-remove seats 0 (omega arith) in record {
        many = omega arith;
        each = λ i seat less.
            subst (CanBegin d i)
            (sym (get_or-remove_above seats 0 seat i (omega arith) (omega arith)))
            (begins i seat (omega arith));
      }
