-- What a script has between two commands on a domain, and the desk that this is.
use Rattle.std.specs.Prelude.{ℕ, List}
use Rattle.script_desk.specs.plain_state.State.{Plain}
use Rattle.lone_heap.specs.core_events.declared.view.CoreView.{CoreView}
use Rattle.lone_heap.specs.acquire_retire.Domains.{DomainState}
use Rattle.lone_heap.specs.acquire_retire.Seats.{SeatState}
use Rattle.lone_heap.specs.declared.words.Words.{Words}
use Rattle.lone_heap.specs.Lone.{IsReady, known_plain}
use Rattle.lone_heap.specs.Words.{AreNoted}
use Rattle.script_desk.specs.declared.sizes.Sizes.{Sizes}
use Rattle.script_desk.specs.Desks.{Desk, Maker, Names, scope_of}
use Rattle.script_desk.specs.Holding.{Kept}

-- a domain and its one seat, what the seat's announcement words protect, the names, for each slot
-- the make that made it last, how many makes there were, and how many cells there are
pub record DeskState (P : Type 0) : Type 0 where
  pub domain : DomainState P
  pub seat : SeatState (Unit {0})
  pub words : Words
  pub names : Names
  pub makers : List Maker
  pub makes : ℕ
  pub cells : ℕ
  pub weak_cells : ℕ

abbrev pub plain_of : {P : Type 0} → DeskState P → Plain
plain_of d = known_plain d.domain d.seat

-- the same with the plain state that the seat knows
abbrev pub desk_of : {P : Type 0} → DeskState P → Desk
desk_of d = record { plain = plain_of d; names = d.names; makers = d.makers; makes = d.makes }

-- what its seat has by its own view
abbrev pub core_of : {P : Type 0} → DeskState P → CoreView
core_of d = d.seat.view.core

-- how many cells there are
abbrev pub sizes_of : {P : Type 0} → DeskState P → Sizes
sizes_of d = (scope_of (desk_of d)).sizes

-- the seat is alone and in no call, is under just the snapshots that the words protect, and has
-- just what the bound handles need
pub record IsKept {P : Type 0} (d : DeskState P) : Type 0 where
  pub ready : IsReady d.domain d.seat
  pub noted : AreNoted d.words d.seat
  pub kept : Kept (plain_of d) d.names d.makers d.cells d.weak_cells
