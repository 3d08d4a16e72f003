-- What callers see of a domain and of its seats when they are opened, and when a seat leaves.
use Rattle.std.specs.Prelude.{ℕ, ◌≡◌, ◌==◌, List, [], Option, Some, None, if◌then◌else◌}
use Rattle.atomic_table.specs.declared.shared.Seat.{Seat as TableSeat}
use Rattle.core_promises.specs.core_events.declared.shape.Shape.{Shape}
use Rattle.core_promises.specs.core_events.Views.{Terms}
use Rattle.core_promises.specs.core_events.Words.{each_from}
use Rattle.domain_rule.specs.declared.view.SeatView.{SeatView}
use Rattle.domain_rule.specs.Opening.{opened_view}
use Rattle.acquire_retire.specs.Domains.{DomainState}
use Rattle.acquire_retire.specs.Seats.{SeatState}

module _ {V : Type 0} where
  -- the view of seat n once all seats are open: seat 0 has counted them
  abbrev pub begun_view : (ℕ → V) → Shape → Terms → ℕ → SeatView V
  begun_view first z ts n =
      record (opened_view first z ts n) { opened = if n == 0 then z.seats else 1 }

module _ {P V : Type 0} where
  abbrev pub begun_seat : (ℕ → V) → DomainState P → ℕ → SeatState V
  begun_seat first d n = record { table = d.table; view = begun_view first d.shape d.terms n }

  -- the seats of a domain that was just opened, in order
  abbrev pub opened_seats : (ℕ → V) → DomainState P → List (SeatState V)
  opened_seats first d = each_from 0 d.shape.seats (begun_seat first d)

  -- the bare seat 0 when n seats have been opened
  abbrev pub IsFirst : (ℕ → V) → DomainState P → ℕ → TableSeat (Unit {0}) (SeatView V) → Type 0
  IsFirst first d n s =
      (s.table_id ≡ d.table)
      × (s.me ≡ (record (opened_view first d.shape d.terms 0) { opened = n }, []))

  -- the bare seat n when it has just been opened
  abbrev pub IsNew : (ℕ → V) → DomainState P → ℕ → TableSeat (Unit {0}) (SeatView V) → Type 0
  IsNew first d n s =
      (s.table_id ≡ d.table) × (s.me ≡ (opened_view first d.shape d.terms n, []))

  -- the next seat of the domain that was named
  abbrev pub newcomer : (P → ℕ → V) → Option (DomainState P) → SeatView V → SeatView V
  newcomer first None v = v
  newcomer first (Some d) v = opened_view (first d.protocol) d.shape d.terms v.opened
