-- What a seat has between two calls of a trial, and what a call leaves of it.
use Rattle.std.specs.Prelude.{ℕ, ◌≡◌, ◌+◌, ◌≤◌, ◌∷◌, []}
use Rattle.part_calls.specs.plain_state.declared.slot.SlotId.{SlotId}
use Rattle.part_calls.specs.plain_state.Lists.{times}
use Rattle.part_calls.specs.core_events.Steps.{HasRoom}
use Rattle.part_calls.specs.acquire_retire.Domains.{DomainState}
use Rattle.part_calls.specs.acquire_retire.Seats.{SeatState}
use Rattle.part_calls.specs.control_word.Resting.{IsAtRest, IsUnderNone}
use Rattle.weak_intern.specs.directory_law.declared.view.GivenTo.TheVariants.{Tickets}
use Rattle.weak_intern.specs.directory_law.declared.view.View.{View}
use Rattle.weak_intern.specs.directory_protocol.declared.law.DirectoryLaw.{DirectoryLaw}

-- it is in no call, under no snapshot, and has room
pub record IsReady (d : DomainState DirectoryLaw) (s : SeatState View) : Type 0 where
  pub rest : IsAtRest d s
  pub none : IsUnderNone s.view.core
  pub room : HasRoom s.view.core

-- so many interns are left to it
abbrev pub HasLeft : ℕ → SeatState View → Type 0
HasLeft n s = s.view.client.used + n ≤ s.view.client.quota

-- it has used n interns at most
pub record Spends (n : ℕ) (old new : SeatState View) : Type 0 where
  pub used : new.view.client.used ≤ old.view.client.used + n
  pub quota : new.view.client.quota ≡ old.view.client.quota

-- it owns strongly what it owned, each slot as often
abbrev pub Owns : SeatState View → SeatState View → Type 0
Owns old new = (x : SlotId) → times x new.view.core.owned ≡ times x old.view.core.owned

-- it is ready, and has used no more interns than it has
abbrev pub IsFree : DomainState DirectoryLaw → SeatState View → Type 0
IsFree d s = IsReady d s × HasLeft 0 s

-- all 15,013 weak cells of the domain are the directory's, and each of five tickets gives 2,000 interns
pub record HasGrants (d : DomainState DirectoryLaw) : Type 0 where
  pub first : d.protocol.first ≡ 0
  pub cells : d.protocol.cells ≡ 15013
  pub there : d.shape.weak_cells ≡ 15013
  pub to : d.protocol.to ≡ Tickets
  pub interns : d.protocol.interns.items ≡ 2000 ∷ 2000 ∷ 2000 ∷ 2000 ∷ 2000 ∷ []
