-- What the walk of a short text costs.
use Rattle.std.specs.Prelude.{ℕ, ◌≡◌, ◌≢◌, ◌+◌, ◌≤◌, Bool, true, false, List, [], ◌∷◌, ◌++◌, length, Option, Some, None}
use Rattle.atomic_weak.specs.plain_state.declared.slot.SlotId.{SlotId}
use Rattle.atomic_weak.specs.core_events.declared.view.CoreView.{CoreView}
use Rattle.atomic_weak.specs.core_events.declared.view.Move.{Move}
use Rattle.record_making.specs.directory_law.Views.{Each}
use Rattle.weak_intern.specs.Sighting.{AreAllOf, Visit, Visits, visited_by}

-- the adds of a visit that found the zero flag
abbrev pub dead_by : Option Bool → ℕ
dead_by None = 0
dead_by (Some true) = 0
dead_by (Some false) = 1

-- of these visits, the newest first
abbrev pub ended_in : List Visit → ℕ
ended_in [] = 0
ended_in (x ∷ xs) = ended_in xs + dead_by x.how

abbrev pub moves_of : List Visit → List Move
moves_of [] = []
moves_of (x ∷ xs) = moves_of xs ++ visited_by x

-- a visit by which the walk of this payload passes a head: it reads at most 16 words of it, counts
-- nothing, and makes an add only where the words were all of the payload
abbrev pub IsPassing : List ℕ → Visit → Type 0
IsPassing payload x =
    (length x.words ≤ 16) × (x.how ≢ Some true) × (x.how ≢ None → AreAllOf payload x.words)

-- A seat has passed some heads, each by one visit, and has done nothing else. It has used an add for
-- each one with this payload that had ended.
pub record PassesBy (payload : List ℕ) (v w : CoreView) : Type 0 where
  pub visits : List Visit
  pub passing : Each (IsPassing payload) visits
  pub core :
      w
      ≡ record v {
        adds = v.adds + ended_in visits;
        trail = v.trail ++ moves_of visits;
      }

-- It has passed some, and then taken a reference to s, by one visit and for one add.
abbrev pub TakesBy : List ℕ → SlotId → CoreView → CoreView → Type 0
TakesBy payload s v w =
    (mid : CoreView) × PassesBy payload v mid × (i : ℕ) × Visits i s payload (Some true) mid w
