-- A counter as plain data, and what a list of events makes of it.
use Rattle.std.specs.Prelude.{ℕ, ◌-◌, ◌<◌, List, [], ◌∷◌, length, replicate, slice_index_or, slice_set, ◌==◌, if◌then◌else◌}
use Rattle.sticky_count.specs.declared.view.Act.{Act}
use Rattle.sticky_count.specs.declared.view.Event.{Event}
use Rattle.sticky_count.specs.declared.view.Move.{Move}
use Rattle.sticky_count.specs.declared.view.View.{View}
use Rattle.sticky_count.specs.Views.{fresh, noted, next, moved, May, HasRoom}

-- the word, and the view of each seat
pub record Counter : Type 0 where
  pub word : ℕ
  pub seats : List View

abbrev pub event : ℕ → Act → Event
event n a = record { seat = n; act = a }

-- as it is opened: the word is 1, and seat 0 holds that count
abbrev pub opened : ℕ → Counter
opened seats = record { word = 1; seats = fresh 1 ∷ replicate (seats - 1) (fresh 0) }

abbrev pub view_at : Counter → ℕ → View
view_at c i = slice_index_or c.seats i (fresh 0)

-- the event may come: the counter has that seat, the seat may make that step, and an add has room
pub record Enabled (c : Counter) (e : Event) : Type 0 where
  pub there : e.seat < length c.seats
  pub may : May e.act (view_at c e.seat)
  pub room : HasRoom e.act c.word

-- the counter after an event: the word is the step's, and so is the view of the seat that made it
abbrev pub after : Event → Counter → Counter
after e c = record {
  word = next e.act c.word;
  seats = slice_set c.seats e.seat (moved e.act c.word (view_at c e.seat));
}

-- the counter after a list of events, of which the newest stands first
abbrev pub run : ℕ → List Event → Counter
run seats [] = opened seats
run seats (e ∷ es) = after e (run seats es)

-- each event of the list was enabled when it came
abbrev pub Possible : ℕ → List Event → Type 0
Possible seats [] = Unit {0}
Possible seats (e ∷ es) = Possible seats es × Enabled (run seats es) e

-- the events of one seat, oldest first, each with the word that it found
abbrev pub moves_of : ℕ → List Event → ℕ → List Move
moves_of seats [] i = []
moves_of seats (e ∷ es) i =
    let before = moves_of seats es i in
    if e.seat == i then noted e.act (run seats es).word before else before
