-- How far a seat knows that it walked: the cells that a text passes.
use Rattle.std.specs.Prelude.{◌≡◌, ◌≢◌, ◌⊎◌, ℕ, ◌<◌, ◌≤◌, false, List, [], ◌∷◌, map, None}
use Rattle.plain_protocol.specs.plain_state.declared.slot.SlotId.{SlotId}
use Rattle.plain_protocol.specs.plain_state.State.{Plain}
use Rattle.plain_protocol.specs.Owns.{OwnPart, own_part}
use Rattle.directory_law.specs.Payloads.{Text}
use Rattle.directory_law.specs.Views.{In, Each}
use Rattle.directory_law.specs.Cells.{Area, on}
use Rattle.directory_law.specs.Steps.{id, payload_in}
use Rattle.directory_law.specs.Walks.{NotPrefix}
use Rattle.cell_law.specs.Views.{Sight, View}
use Rattle.cell_law.specs.Cells.{cell, IsNew}

-- the seat has the objects of these slots
abbrev pub HasAll : OwnPart → List SlotId → Type 0
HasAll own slots = Each (λ (s : SlotId). own.objects s ≢ None) slots

-- their payloads, by what it has
abbrev pub payloads : OwnPart → List SlotId → Text
payloads own slots = map (payload_in own) slots

-- the text passes cell c: the seat saw a record there, of which it has the slots, and the text doesn't begin with their
-- payloads
abbrev pub Passes : OwnPart → View → Text → ℕ → Type 0
Passes own v text c =
    (e : Sight) × In e v.seen × (e.cell ≡ c) × HasAll own e.slots
    × NotPrefix (payloads own e.slots) text

-- it passes the first m cells of its walk
abbrev pub Walked : Area → OwnPart → View → Text → ℕ → Type 0
Walked z own v text m = (j : ℕ) → j < m → Passes own v text (on z text j)

-- the second view has seen all that the first one has
abbrev pub SawAll : View → View → Type 0
SawAll v w = (e : Sight) → In e v.seen → In e w.seen

-- what a seat has of the slots that it saw it goes on to have
abbrev pub KeepsSeen : OwnPart → OwnPart → View → Type 0
KeepsSeen own after v =
    (e : Sight) (s : SlotId) → In e v.seen → In s e.slots → own.objects s ≢ None
    → after.objects s ≡ own.objects s

-- where the walk of seat n comes to a null cell, or has passed all cells, no cell holds a record with the text, and the
-- view tells of none
abbrev pub WalksTell : Area → Plain → ℕ → View → Type 0
WalksTell z p n v =
    (text : Text) (m : ℕ) → v.cleared ≡ false → Walked z (own_part p n) v text m
    → (cell z p (on z text m) ≡ None) ⊎ (z.cells ≤ m) → IsNew z p v text

-- the sight that came last
abbrev pub last_sight : List Sight → Sight
last_sight [] = record { cell = 0; slots = [] }
last_sight (e ∷ es) = e

-- the last of some slots
abbrev pub last_of : List SlotId → SlotId
last_of [] = id 0
last_of (s ∷ []) = s
last_of (s ∷ t ∷ ss) = last_of (t ∷ ss)
