-- A seat that is alone with records stays so over calls that keep what it has.
use Rattle.std.proofs.Common.{◌≡◌, ℕ, List, length, refl, ap, ◌∙◌, arith}
use Rattle.cell_intern.specs.cell_calls.Keeping.{Keeps, Learns}
use Rattle.cell_intern.proofs.Below.cell_calls_Keeping.{keeps_wider}
use Rattle.cell_intern.specs.cell_calls.cell_law.declared.view.View.{View}
use Rattle.cell_intern.specs.cell_calls.cell_law.plain_state.declared.slot.SlotId.{SlotId}
use Rattle.cell_intern.specs.cell_calls.cell_protocol.declared.law.CellLaw.{CellLaw}
use Rattle.cell_intern.proofs.Kept.{keeps_on}
use Rattle.cell_intern.specs.epoch_refs.Walks.{IsAtRest}
use Rattle.cell_intern.specs.epoch_refs.epoch_core.declared.view.EpochView.{EpochView}
use Rattle.cell_intern.specs.epoch_refs.epoch_domain.Domains.{DomainState}
use Rattle.cell_intern.specs.epoch_refs.epoch_domain.Seats.{SeatState}
use Rattle.cell_records.specs.Root.{IsRoot}

-- by what the seat has
pub root_by : (d : DomainState CellLaw) (a b : SeatState View)
    → b.view.core.number ≡ a.view.core.number → b.view.core.seat ≡ a.view.core.seat
    → b.view.core.left_seats ≡ a.view.core.left_seats → b.view.core.shape ≡ a.view.core.shape
    → IsAtRest d b → IsRoot d a → IsRoot d b
root_by d a b number seat left shape rest root = record {
  free = record { rest = rest; outside = number ∙ root.free.outside };
  over = root.over;
  alone =
      let many = ap length left in
      let seats = ap (λ z. z.seats) shape in
      let all = root.alone.1 in (seat ∙ root.alone.0, omega (arith, many, seats, all));
}

pub root_on : (d : DomainState CellLaw) (m n : ℕ) (xs : List SlotId) (a b : SeatState View)
    → Keeps m n xs a b → IsAtRest d b → IsRoot d a → IsRoot d b
root_on d m n xs a b keeps =
    root_by d a b (ap (λ (v : EpochView). v.number) keeps.same)
    (ap (λ (v : EpochView). v.seat) keeps.same) (ap (λ (v : EpochView). v.left_seats) keeps.same)
    (ap (λ (v : EpochView). v.shape) keeps.same)

-- calls that leave all references, one after another
pub keeps_both : (a b c : SeatState View) → Keeps 0 0 a.view.core.owned a b
    → Keeps 0 0 b.view.core.owned b c → Keeps 0 0 a.view.core.owned a c
keeps_both a b c first second =
    keeps_wider 0 0 0 0 b.view.core.owned a.view.core.owned a c
    (keeps_on 0 0 b.view.core.owned a b c first second) (omega arith) (omega arith) first.owns

pub learns_self : (v : View) → Learns v v
learns_self v = record { saw = λ e there. there; found = λ e there. there; rest = refl }
