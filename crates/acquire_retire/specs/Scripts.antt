-- Acts that a seat makes in turn, each with the answer that is expected, for tests.
use Rattle.std.specs.Prelude.{ℕ, ◌≡◌, ◌+◌, ◌^◌, ◌<◌, ◌≤◌, List, [], ◌∷◌, ◌++◌, length, slice_index, None}
use Rattle.plain_state.specs.Limits.{words_of_payload}
use Rattle.plain_state.specs.declared.act.EventPlace.TheVariants.{Field, WeakField}
use Rattle.plain_state.specs.declared.slot.Kind.TheVariants.{Weak}
use Rattle.plain_state.specs.declared.slot.SlotId.{SlotId}
use Rattle.core_promises.specs.core_events.declared.act.Act.{Act}
use Rattle.core_promises.specs.core_events.declared.act.Act.TheVariants as act
use Rattle.core_promises.specs.core_events.declared.outcome.Outcome.{Outcome}
use Rattle.core_promises.specs.core_events.declared.shape.Shape.{Shape}
use Rattle.core_promises.specs.core_events.declared.view.CoreView.{CoreView}
use Rattle.core_promises.specs.core_events.declared.view.Phase.TheVariants as phase
use Rattle.core_promises.specs.core_events.Steps.{May, answer, decremented, moved}
use Rattle.core_promises.specs.core_events.Views.{first_view}
use Rattle.core_promises.specs.core_events.declared.shape.Quota.{Quota}
use Rattle.domain_rule.specs.Views.{object_in}
use Rattle.acquire_retire.specs.Domains.{DomainState}
use Rattle.acquire_retire.specs.Seats.{SeatState}

-- a call of its own makes it, and asks no more than that the seat may
abbrev pub IsPlayed : Act → Type 0
IsPlayed act.Start = ⊥
IsPlayed (act.Destroy s) = ⊥
IsPlayed (act.Leave j) = ⊥
IsPlayed a = Unit {0}

-- a seat may make these acts in turn, as long as each answers as it is listed, whatever it finds
abbrev pub MayPlay : Shape → List (Act × Outcome) → CoreView → Type 0
MayPlay z [] v = Unit {0}
MayPlay z (m ∷ ms) v =
    IsPlayed m.0 × May z m.0 v
    × ((w : ℕ) → answer z m.0 w v ≡ m.1 → MayPlay z ms (moved z m.0 w v))

-- these acts lead from one view to another, each with the answer that is listed
abbrev pub Plays : Shape → List (Act × Outcome) → CoreView → CoreView → Type 0
Plays z [] v u = u ≡ v
Plays z (m ∷ ms) v u =
    (w : ℕ) × (answer z m.0 w v ≡ m.1) × Plays z ms (moved z m.0 w v) u

-- the view of a seat that has left the three fields of a slot null, in which it found these words
abbrev pub cleared_view : Shape → SlotId → ℕ → ℕ → ℕ → CoreView → CoreView
cleared_view z s a b c v =
    moved z (act.Swap (WeakField s) None) c
    (moved z (act.Swap (Field s 1) None) b (moved z (act.Swap (Field s 0) None) a v))

-- the seat has left the fields of the slot null, and destroyed it, with this answer
abbrev pub Destroys : Shape → SlotId → CoreView → CoreView → Outcome → Type 0
Destroys z s v u o =
    (a b c w : ℕ)
    × (u ≡ moved z (act.Destroy s) w (cleared_view z s a b c v)) × (o ≡ decremented Weak w)

-- there is room for three entries more
abbrev pub HasRoomForFields : CoreView → Type 0
HasRoomForFields v = length v.retired + length v.owed + 3 ≤ v.room

-- what a seat has once it has made the slot live, but for its trail
abbrev pub with_made : SlotId → CoreView → CoreView
with_made s v =
    record v {
      owned = v.owned ++ s ∷ [];
      made = v.made ++ s ∷ [];
      adds = v.adds + 1;
      makes = v.makes + 1;
      phase = phase.Idle;
    }

-- a seat of a test may use up as much as a seat ever may
abbrev pub wide : Quota
wide = record { makes = 2 ^ 40; adds = 2 ^ 40 }

-- the domain of the worked rows of one seat
abbrev pub one_seat : Shape
one_seat = record { seats = 1; slots = 1; cells = 2; weak_cells = 0; batch = 4 }

-- that of two seats, of which one helps the other
abbrev pub two_seats : Shape
two_seats = record { seats = 2; slots = 1; cells = 1; weak_cells = 0; batch = 4 }

-- seat n of the domain, and it has done nothing
abbrev pub IsFresh : {P V : Type 0} → DomainState P → ℕ → SeatState V → Type 0
IsFresh d n s = (s.table ≡ d.table) × (s.view.core ≡ first_view d.shape n wide [])

module _ {V : Type 0} where
  abbrev pub HasMade : SlotId → SeatState V → SeatState V → Type 0
  HasMade s old new =
      new.view.core ≡ record (with_made s old.view.core) { trail = new.view.core.trail }

  -- the seat has filled the first n words of the slot that it has claimed
  pub record Fills (payload : List ℕ) (n : ℕ) (s : SlotId) (old new : SeatState V) : Type 0 where
    pub core : new.view.core ≡ record old.view.core { trail = new.view.core.trail }
    pub size : length (object_in new.view s).payload ≡ words_of_payload
    pub words :
        (i : ℕ) → i < n
        → slice_index (object_in new.view s).payload i ≡ slice_index payload i
