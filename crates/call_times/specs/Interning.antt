-- A seat that interns texts of a directory, and the domain that lets it.
use Rattle.std.specs.Prelude.{ℕ, ◌≡◌, ◌+◌, ◌<◌, ◌≤◌, slice_index_or}
use Rattle.turn_loops.specs.core_events.Steps.{HasRoom}
use Rattle.turn_loops.specs.acquire_retire.Domains.{DomainState}
use Rattle.turn_loops.specs.acquire_retire.Seats.{SeatState}
use Rattle.turn_loops.specs.control_word.Resting.{IsAtRest}
use Rattle.weak_intern.specs.directory_law.declared.view.GivenTo.TheVariants.{Tickets}
use Rattle.weak_intern.specs.directory_law.declared.view.View.{View}
use Rattle.weak_intern.specs.directory_protocol.declared.law.DirectoryLaw.{DirectoryLaw}
use Rattle.weak_intern.specs.text_reading.Reading.{HasTwoFree}

-- it is in no call, has room, and two announcement words that stand for nothing
pub record IsReadyToIntern (d : DomainState DirectoryLaw) (s : SeatState View) : Type 0 where
  pub rest : IsAtRest d s
  pub room : HasRoom s.view.core
  pub free : HasTwoFree s.view.core

-- so many interns are left to it
abbrev pub HasLeft : ℕ → SeatState View → Type 0
HasLeft n s = s.view.client.used + n ≤ s.view.client.quota

-- it has used so many interns
abbrev pub HasInterned : ℕ → SeatState View → Type 0
HasInterned n s = n ≤ s.view.client.used

-- it is ready, and has used no more interns than it has
abbrev pub IsFreeToIntern : DomainState DirectoryLaw → SeatState View → Type 0
IsFreeToIntern d s = IsReadyToIntern d s × HasLeft 0 s

-- it has used n interns at most
pub record Spends (n : ℕ) (old new : SeatState View) : Type 0 where
  pub used : new.view.client.used ≤ old.view.client.used + n
  pub quota : new.view.client.quota ≡ old.view.client.quota

-- all weak cells are the directory's, and each of so many tickets gives the interns of all turns
pub record HasGrants (threads : ℕ) (d : DomainState DirectoryLaw) : Type 0 where
  pub first : d.protocol.first ≡ 0
  pub cells : d.protocol.cells ≡ d.shape.weak_cells
  pub some_cells : 0 < d.shape.weak_cells
  pub to : d.protocol.to ≡ Tickets
  pub each :
      (t : ℕ) → t < threads → slice_index_or d.protocol.interns.items t 0 ≡ 250000
