-- When a map may be read, and what a key has in it.
use Rattle.std.specs.Prelude.{ℕ, ◌≡◌, ◌≢◌, ◌<◌, ◌≤◌, ◌==◌, ◌||◌, true, List, [], ◌∷◌, ◌++◌, length, map, nat_lt, take, Option, Some, None, if◌then◌else◌}
use Rattle.version_making.specs.protected_loads.plain_state.declared.slot.SlotId.{SlotId}
use Rattle.version_making.specs.protected_loads.plain_state.State.{Plain}
use Rattle.version_making.specs.protected_loads.core_events.declared.view.CoreView.{CoreView}
use Rattle.version_making.specs.protected_loads.core_events.declared.view.Note.TheVariants as stands
use Rattle.version_making.specs.protected_loads.core_events.Views.{note_of}
use Rattle.version_making.specs.protected_loads.acquire_retire.Seats.{SeatState}
use Rattle.version_changes.specs.map_trees.Trees.{Pair, Shaped, Tree, pair, pairs}
use Rattle.version_changes.specs.map_trees.Maps.{get, next}
use Rattle.version_reading.specs.map_law.declared.view.View.{View}
use Rattle.version_reading.specs.map_law.Nodes.{root, TreeAt}
use Rattle.version_reading.specs.Reading.{Saw, Sought}

-- two of the seat's announcement words 1 to 3 stand for nothing
abbrev pub HasTwoFree : CoreView → Type 0
HasTwoFree v =
    (i j : ℕ) × (0 < i) × (i < j) × (j < 4) × (note_of v i ≡ stands.Idle)
    × (note_of v j ≡ stands.Idle)

-- the seat takes part in the map, and has the words for a read
pub record CanRead (seat : SeatState View) : Type 0 where
  pub here : seat.view.client.here ≡ true
  pub free : HasTwoFree seat.view.core

-- the tree on the root cell is a balanced search tree, and this is the key's value in it, if it has one
abbrev pub HasValue : ℕ → ℕ → Option ℕ → Plain → Type 0
HasValue c key found p =
    (t : Tree) × TreeAt p (root p c) t × Shaped t × (get key (pairs t) ≡ found)

-- the value of a key, where this is the least pair with at least that key
abbrev pub value_in : ℕ → Option Pair → Option ℕ
value_in key None = None
value_in key (Some x) = if x.key == key then Some x.value else None

-- the pairs of a list with keys in a range, its ends among it
abbrev pub within : ℕ → ℕ → List Pair → List Pair
within low high [] = []
within low high (x ∷ xs) =
    if nat_lt x.key low || nat_lt high x.key then within low high xs else x ∷ within low high xs

-- the first n pairs of a buffer
abbrev pub first_pairs : ℕ → List (ℕ × ℕ) → List Pair
first_pairs n out = map (λ (x : ℕ × ℕ). pair x.0 x.1) (take n out)

-- these are the first pairs of the range; if they are less than the room, they are all
pub record IsScan (room n : ℕ) (found range : List Pair) : Type 0 where
  pub few : n ≤ room
  pub count : length found ≡ n
  pub rest : List Pair
  pub begins : range ≡ found ++ rest
  pub full : n < room → rest ≡ []

-- the tree on the root cell is a balanced search tree, and this is a scan of the range
abbrev pub HasRange : ℕ → ℕ → ℕ → ℕ → ℕ → List (ℕ × ℕ) → Plain → Type 0
HasRange c low high room n out p =
    (t : Tree) × TreeAt p (root p c) t × Shaped t
    × IsScan room n (first_pairs n out) (within low high (pairs t))

-- so is it of each tree in which the searches that the seat has made from this root are right
abbrev pub Scanned : SlotId → ℕ → ℕ → ℕ → ℕ → List (ℕ × ℕ) → SeatState View → Type 0
Scanned r low high room n out seat =
    (t : Tree) → Shaped t
    → ((k : ℕ) (x : Option Pair) → Sought r k x seat → next k (pairs t) ≡ x)
    → IsScan room n (first_pairs n out) (within low high (pairs t))

-- the cell showed a word that isn't this root's
pub record SeesAnother (c root seen now : ℕ) (old new : SeatState View) : Type 0 where
  pub is : seen ≡ root
  pub differ : seen ≢ now
  pub sees : Saw c now old.view.core.trail new.view.core.trail
