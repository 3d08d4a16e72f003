-- The rule of the table, and what one of its steps tells.
use Rattle.std.specs.Prelude.{ℕ, ◌+◌, ◌-◌, ◌^◌, ◌<◌, ◌≤◌, ◌≡◌, List, [], ◌∷◌, ◌++◌, All, map, length, replicate, sum_by, slice_index}
use mathlib.Core.Option.{some}
use lib.ListN.{get_elem?}
use Rattle.atomic_table.specs.Table.{State}
use Rattle.sticky_count.specs.declared.view.Act.{Act}
use Rattle.sticky_count.specs.declared.view.Act.TheVariants as act
use Rattle.sticky_count.specs.declared.view.Event.{Event}
use Rattle.sticky_count.specs.declared.view.View.{View}
use Rattle.sticky_count.specs.declared.view.Knows.{Knows}
use Rattle.counter_word.specs.Words.{value, low}
use Rattle.sticky_count.specs.Views.{fresh, moved}
use Rattle.sticky_count.specs.History.{Counter, event, run, view_at, Possible}

-- the most adds of a seat
abbrev pub most_adds : ℕ
most_adds = 2 ^ 40

-- seat 0 before the others are split off it, a seat after a split, and the seat that was split off
abbrev pub first : ℕ → Knows
first seats = record { view = fresh 1; seat = 0; seats = seats; past = []; to_open = seats - 1 }

abbrev pub stays : Knows → Knows
stays k = record k { to_open = 0 }

abbrev pub split_off : Knows → Knows
split_off k = record {
  view = fresh 0;
  seat = k.seat + 1;
  seats = k.seats;
  past = [];
  to_open = k.to_open - 1;
}

-- the views of all seats, those still to be split off included
abbrev pub all_views : List Knows → List View
all_views ks =
    map (λ (k : Knows). k.view) ks ++ replicate (sum_by (λ (k : Knows). k.to_open) ks) (fresh 0)

-- the counter that a table shows
abbrev pub shown : State (Unit {0}) Knows → Counter
shown s = record { word = slice_index s.words 0; seats = all_views s.views }

-- what the table keeps of seat n, of those opened so far: its number, how many seats there are, and
-- the history up to its last step, since which events of others may have come. The seat opened last
-- opens the next.
pub record IsSeat (seats opened : ℕ) (events : List Event) (n : ℕ) (k : Knows) : Type 0 where
  pub own : k.seat ≡ n
  pub all : k.seats ≡ seats
  pub past : (since : List Event) × (events ≡ since ++ k.past)
  pub opens : 0 < k.to_open → n + 1 ≡ opened

-- the table shows what some list of events makes of a counter with that many seats, the adds of each
-- seat are few, and its past is a part of that list
pub record Kept (seats : ℕ) (s : State (Unit {0}) Knows) : Type 0 where
  pub one_word : length s.words ≡ 1
  pub few_seats : (1 ≤ seats) × (seats ≤ 32)
  pub few_adds : All (λ (v : View). v.adds ≤ most_adds) (all_views s.views)
  pub events : List Event
  pub possible : Possible seats events
  pub is : shown s ≡ run seats events
  pub each :
      (n : ℕ) (k : Knows) → get_elem? s.views n ≡ some k
      → IsSeat seats (length s.views) events n k

-- what the pure function of a step asks of the word
abbrev pub Suits : Act → ℕ → Type 0
Suits act.Add w = low w < 2 ^ 62 - 1
Suits act.Sub w = (0 < w) × (w < 2 ^ 62)
Suits act.Finish w = Unit {0}
Suits act.Take w = Unit {0}
Suits act.Load w = Unit {0}
Suits act.Mark w = Unit {0}

-- these events may come to a counter with that many seats, and then the seat has that view
pub record InHistory (seats seat : ℕ) (events : List Event) (v : View) : Type 0 where
  pub possible : Possible seats events
  pub there : seat < length (run seats events).seats
  pub view : v ≡ view_at (run seats events) seat

-- A step found w: the seat's view after it, and what the law tells of the word and of the seat. It
-- is the newest event of a history, and since the seat's last step other events may have come.
pub record Does (a : Act) (k : Knows) (w : ℕ) (k' : Knows) : Type 0 where
  pub view : k'.view ≡ moved a w k.view
  pub seat : k'.seat ≡ k.seat
  pub seats : k'.seats ≡ k.seats
  pub since : List Event
  pub past : k'.past ≡ event k.seat a ∷ since ++ k.past
  pub found : w ≡ (run k.seats (since ++ k.past)).word
  pub before : InHistory k.seats k.seat (since ++ k.past) k.view
  pub after : InHistory k'.seats k'.seat k'.past k'.view
  pub suits : Suits a w
  pub held : k.view.held ≤ value w
  pub once : k'.view.ended ≤ 1
