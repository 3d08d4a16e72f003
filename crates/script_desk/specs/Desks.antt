-- What a script has between two commands.
use Rattle.std.specs.Prelude.{ℕ, ◌≡◌, ◌≢◌, ◌+◌, List, [], length, Option, slice_index_or}
use Rattle.std.specs.Map.{lookup}
use Rattle.std.specs.Str.{bytes_eq}
use Rattle.plain_audit.specs.plain_state.declared.slot.SlotId.{SlotId}
use Rattle.plain_audit.specs.plain_state.State.{Plain, seat_at, with_seat}
use Rattle.plain_settling.specs.plain_store.Settling.{IsSettled}
use Rattle.plain_settling.specs.Settling.{TidiesTo}
use Rattle.script_desk.specs.declared.handle.Handle.{Handle}
use Rattle.script_desk.specs.declared.sizes.Sizes.{Sizes}

-- the names that are bound, each with what it is bound to
abbrev pub Names : Type 0
Names = List (List ℕ × Handle)

-- what the name is bound to, if it is bound
unfoldable pub bound : Names → List ℕ → Option Handle
bound names name = lookup (bytes_eq name) names

-- a make: its number, and the name that it bound
pub record Maker : Type 0 where
  pub number : ℕ
  pub name : List ℕ

-- the maker of a slot that was never made
abbrev pub nobody : Maker
nobody = record { number = 0; name = [] }

-- The plain state of the heap, the names, for each slot the make that made it last, and how many makes there were.
pub record Desk : Type 0 where
  pub plain : Plain
  pub names : Names
  pub makers : List Maker
  pub makes : ℕ

-- what a command may name: the names that are bound, and how many cells there are
pub record Scope : Type 0 where
  pub names : Names
  pub sizes : Sizes

abbrev pub scope : Names → Sizes → Scope
scope names sizes = record { names = names; sizes = sizes }

abbrev pub scope_of : Desk → Scope
scope_of d =
    scope d.names (record { cells = length d.plain.cells; weak_cells = length d.plain.weak_cells })

-- the make that made a slot, by those of all slots
abbrev pub maker_at : List Maker → SlotId → Maker
maker_at makers s = slice_index_or makers s.0 nobody

abbrev pub maker_of : Desk → SlotId → Maker
maker_of d s = maker_at d.makers s

-- the name has this meaning now, and every other name the one that it had
abbrev pub Binds : Names → List ℕ → Option Handle → Names → Type 0
Binds old name handle new =
    (bound new name ≡ handle) × ((other : List ℕ) → other ≢ name → bound new other ≡ bound old other)

-- no slot was made
abbrev pub SameMakers : Desk → Desk → Type 0
SameMakers d e = (e.makes ≡ d.makes) × (e.makers ≡ d.makers)

-- a make of this name made s
abbrev pub MadeBy : Desk → List ℕ → SlotId → Desk → Type 0
MadeBy d name s e =
    (e.makes ≡ d.makes + 1)
    × (maker_of e s ≡ record { number = d.makes; name = name })
    × ((t : SlotId) → t ≢ s → maker_of e t ≡ maker_of d t)

-- the heap is tidied, and nothing else changes
pub record Tidied (d e : Desk) : Type 0 where
  pub tidies : TidiesTo d.plain e.plain
  pub names : e.names ≡ d.names
  pub makers : SameMakers d e

-- the same, until nothing more may go
abbrev pub Settles : Desk → Desk → Type 0
Settles d e = Tidied d e × IsSettled e.plain

-- the same plain state, where the seat has no handle any more
abbrev pub without_handles : Plain → Plain
without_handles p = with_seat p 0 (record (seat_at p 0) { owned = []; weaks = []; snapshots = [] })
