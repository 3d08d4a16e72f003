-- A seat that is alone in its domain, and the plain state that it knows.
use Rattle.std.specs.Prelude.{ℕ, ◌≡◌, ◌^◌, [], ◌∷◌, IsSome}
use Rattle.protected_loads.specs.plain_state.declared.slot.Kind.TheVariants.{Disposal}
use Rattle.protected_loads.specs.plain_state.declared.slot.SlotId.{SlotId}
use Rattle.protected_loads.specs.plain_state.Lists.{entry_times}
use Rattle.protected_loads.specs.plain_state.State.{Plain, seat_at}
use Rattle.plain_settling.specs.Settling.{TidiesTo}
use Rattle.protected_loads.specs.core_events.declared.shape.Quota.{Quota}
use Rattle.protected_loads.specs.core_events.declared.shape.Shape.{Shape}
use Rattle.protected_loads.specs.core_events.Shows.{show_seat, shows}
use Rattle.protected_loads.specs.core_events.Steps.{HasRoom}
use Rattle.protected_loads.specs.core_events.Views.{Terms, snapshots}
use Rattle.protected_loads.specs.domain_rule.Views.{IsAlone}
use Rattle.protected_loads.specs.acquire_retire.Domains.{DomainState}
use Rattle.protected_loads.specs.acquire_retire.Seats.{SeatState}
use Rattle.protected_loads.specs.acquire_retire.Wholes.{known_core}
use Rattle.protected_loads.specs.control_word.Resting.{IsAtRest}

-- one seat, and these numbers; beside an entry for each announcement word the seat retires four before it scans
abbrev pub shape_of_one : ℕ → ℕ → ℕ → Shape
shape_of_one slots cells weak_cells = record {
  seats = 1;
  slots = slots;
  cells = cells;
  weak_cells = weak_cells;
  batch = 4;
}

-- what the seat may use up: it draws no ticket
abbrev pub terms_of_one : Terms
terms_of_one = record { quotas = record { makes = 2 ^ 40; adds = 2 ^ 40 } ∷ []; grants = [] }

-- a domain of one seat and these numbers
pub record IsForOne {P : Type 0} (slots cells weak_cells : ℕ) (d : DomainState P) : Type 0 where
  pub shape : d.shape ≡ shape_of_one slots cells weak_cells
  pub terms : d.terms ≡ terms_of_one

-- the plain state that the domain shows, as the seat knows it
abbrev pub known_plain : {P V : Type 0} → DomainState P → SeatState V → Plain
known_plain d s = shows d.shape (known_core s.view)

-- The seat is alone, in no call, and has room for what a store retires. It knows the whole state, of
-- which it has its own part, and is under no weak snapshot.
pub record IsReady {P V : Type 0} (d : DomainState P) (s : SeatState V) : Type 0 where
  pub rest : IsAtRest d s
  pub room : HasRoom s.view.core
  pub alone : IsAlone s.view
  pub known : IsSome s.view.whole
  pub mine : seat_at (known_plain d s) 0 ≡ show_seat s.view.core
  pub disposals : (x : SlotId) → entry_times Disposal x (snapshots s.view.core) ≡ 0

-- q comes by tidying from a state of which this holds
abbrev pub ThenTidies : (Plain → Type 0) → Plain → Type 0
ThenTidies holds q = (m : Plain) × holds m × TidiesTo m q
