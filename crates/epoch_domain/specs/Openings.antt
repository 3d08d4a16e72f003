-- What callers see of a domain under epochs and of its seats when they are opened.
use Rattle.std.specs.Prelude.{ℕ, ◌≡◌, ◌==◌, List, [], map, Option, Some, None, if◌then◌else◌}
use Rattle.atomic_table.specs.declared.shared.Seat.{Seat as TableSeat}
use Rattle.epoch_rule.specs.epoch_core.core_events.declared.shape.Quota.{Quota}
use Rattle.epoch_rule.specs.epoch_core.core_events.Words.{each_from}
use Rattle.epoch_rule.specs.epoch_core.declared.shape.EpochShape.{EpochShape}
use Rattle.epoch_rule.specs.declared.view.EpochSeatView.{EpochSeatView}
use Rattle.epoch_rule.specs.Opening.{opened_view}
use Rattle.epoch_domain.specs.Domains.{DomainState}
use Rattle.epoch_domain.specs.Seats.{SeatState}

module _ {V : Type 0} where
  -- the view of seat n once all seats are open: seat 0 has counted them
  abbrev pub begun_view : (ℕ → V) → EpochShape → List Quota → ℕ → EpochSeatView V
  begun_view first z qs n =
      record (opened_view first z qs n) { opened = if n == 0 then z.seats else 1 }

  -- the seat, but for its room, which nothing fixes when it is opened
  abbrev pub without_room : SeatState V → SeatState V
  without_room s = record s { room = 0 }

module _ {P V : Type 0} where
  abbrev pub begun_seat : (ℕ → V) → DomainState P → ℕ → SeatState V
  begun_seat first d n =
      record { table = d.table; view = begun_view first d.shape d.quotas n; room = 0 }

  -- the seats of a domain that was just opened, in order, but for their room
  abbrev pub opened_seats : (ℕ → V) → DomainState P → List (SeatState V)
  opened_seats first d = each_from 0 d.shape.seats (begun_seat first d)

  -- these are the seats of a domain that was just opened, in order
  abbrev pub AreOpened : (ℕ → V) → DomainState P → List (SeatState V) → Type 0
  AreOpened first d seats = map without_room seats ≡ opened_seats first d

  -- the bare seat 0 when n seats have been opened
  abbrev pub IsFirst : (ℕ → V) → DomainState P → ℕ → TableSeat (Unit {0}) (EpochSeatView V) → Type 0
  IsFirst first d n s =
      (s.table_id ≡ d.table)
      × (s.me ≡ (record (opened_view first d.shape d.quotas 0) { opened = n }, []))

  -- the bare seat n when it has just been opened
  abbrev pub IsNew : (ℕ → V) → DomainState P → ℕ → TableSeat (Unit {0}) (EpochSeatView V) → Type 0
  IsNew first d n s =
      (s.table_id ≡ d.table) × (s.me ≡ (opened_view first d.shape d.quotas n, []))

  -- the next seat of the domain that was named
  abbrev pub newcomer : (P → ℕ → V) → Option (DomainState P) → EpochSeatView V → EpochSeatView V
  newcomer first None v = v
  newcomer first (Some d) v = opened_view (first d.protocol) d.shape d.quotas v.opened
