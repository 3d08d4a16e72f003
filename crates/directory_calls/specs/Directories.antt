-- A directory over the weak cells of a domain.
use Rattle.std.specs.Prelude.{Bool, ℕ, ◌≡◌, ◌<◌, ◌≤◌, ◌+◌, List}
use Rattle.protected_loads.specs.plain_state.declared.slot.SlotId.{SlotId}
use Rattle.protected_loads.specs.plain_state.State.{Plain}
use Rattle.protected_loads.specs.acquire_retire.Domains.{DomainState}
use Rattle.directory_protocol.specs.directory_law.Payloads.{Text}
use Rattle.directory_protocol.specs.directory_law.Bytes.{IsTextOf}
use Rattle.directory_protocol.specs.directory_law.declared.view.View.{View}
use Rattle.directory_protocol.specs.directory_law.Cells.{Area, area}
use Rattle.directory_protocol.specs.directory_law.Law.{IsBound, NoneBound}
use Rattle.directory_protocol.specs.directory_law.Lessons.{spent}
use Rattle.directory_protocol.specs.declared.law.DirectoryLaw.{DirectoryLaw}
pub use Rattle.directory_calls.specs.declared.directory.Directory.{Directory}

-- the directory whose law this is
abbrev pub area_of : DirectoryLaw → Area
area_of law = area law.first law.cells law.interns.items law.to

-- these are its cells, at least one, and the domain has them
pub record IsOver {P : Type 0} (d : DomainState P) (law : DirectoryLaw) (directory : Directory)
    : Type 0 where
  pub first : directory.first ≡ law.first
  pub cells : directory.cells ≡ law.cells
  pub some_cells : 0 < directory.cells
  pub there : directory.first + directory.cells ≤ d.shape.weak_cells

-- the seat has used no more interns than it has
abbrev pub HasQuota : View → Type 0
HasQuota v = v.used ≤ v.quota

-- and has one left, if it is to count one
abbrev pub CanCount : Bool → View → Type 0
CanCount intern v = v.used + spent intern ≤ v.quota

-- s is the live record of these bytes: it stands in a cell, lives without a zero mark, and has their text
abbrev pub IsRecord : Area → Plain → List ℕ → SlotId → Type 0
IsRecord z p bytes s = (text : Text) × IsTextOf bytes text × IsBound z p text s

-- they have none
abbrev pub HasNoRecord : Area → Plain → List ℕ → Type 0
HasNoRecord z p bytes = (text : Text) → IsTextOf bytes text → NoneBound z p text
