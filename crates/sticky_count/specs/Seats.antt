-- What callers see of a seat.
use Rattle.std.specs.Prelude.{ℕ, ◌-◌, ◌≤◌, ◌≡◌, List, [], ◌∷◌, ◌++◌, map}
use Rattle.std.specs.List.{range_with_len}
use Rattle.atomic_table.specs.Seated.{TableId}
use Rattle.sticky_count.specs.declared.view.Event.{Event}
use Rattle.sticky_count.specs.declared.view.Knows.{Knows}
use Rattle.sticky_count.specs.declared.view.Move.{Move}
use Rattle.sticky_count.specs.declared.view.View.{View}
use Rattle.sticky_count.specs.Views.{fresh, IsIdle}
use Rattle.sticky_count.specs.History.{event, run}
use Rattle.sticky_count.specs.Running.{most_adds, InHistory}
use Rattle.sticky_count.specs.Calls.{walked}

-- the counter that it belongs to, the most adds that it may use, its number, how many seats there
-- are, the events of all seats up to its own last step, newest first, and what it knows of itself
pub record SeatState : Type 0 where
  pub counter : TableId
  pub quota : ℕ
  pub seat : ℕ
  pub seats : ℕ
  pub past : List Event
  pub view : View

-- seat n of a new counter, with so many counts
abbrev pub opened_seat : TableId → ℕ → ℕ → ℕ → ℕ → SeatState
opened_seat counter seats adds held n = record {
  counter = counter;
  quota = adds;
  seat = n;
  seats = seats;
  past = [];
  view = fresh held;
}

-- the seats of a new counter: seat 0 holds the count, and none has made a step
abbrev pub opened_seats : TableId → ℕ → ℕ → List SeatState
opened_seats counter seats adds =
    opened_seat counter seats adds 1 0
    ∷ map (opened_seat counter seats adds 0) (range_with_len 1 (seats - 1))

-- Seat n of so many made these steps, from one history to a longer one: before each of them events
-- of others may have come, and it found the word that all events before it leave.
abbrev pub Lengthens : ℕ → ℕ → List Move → List Event → List Event → Type 0
Lengthens seats n [] past now = now ≡ past
Lengthens seats n (m ∷ ms) past now =
    (since : List Event) × (m.found ≡ (run seats (since ++ past)).word)
    × Lengthens seats n ms (event n m.act ∷ since ++ past) now

-- the call made these steps and no other, as events of one history, and the seat is otherwise the
-- same
pub record Made (ms : List Move) (old new : SeatState) : Type 0 where
  pub counter : new.counter ≡ old.counter
  pub quota : new.quota ≡ old.quota
  pub seat : new.seat ≡ old.seat
  pub seats : new.seats ≡ old.seats
  pub past : Lengthens old.seats old.seat ms old.past new.past
  pub view : new.view ≡ walked ms old.view
  pub trail : new.view.trail ≡ old.view.trail ++ ms

-- between calls the seat is in none, it has counted its own adds, which are at most the quota, and
-- its view is what its past makes of it
pub record IsAtRest (k : Knows) (adds quota : ℕ) : Type 0 where
  pub idle : IsIdle k.view
  pub counted : k.view.adds ≡ adds
  pub within : adds ≤ quota
  pub few : quota ≤ most_adds
  pub history : InHistory k.seats k.seat k.past k.view
