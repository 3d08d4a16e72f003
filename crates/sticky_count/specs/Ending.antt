-- What stays once a counter has ended, or its zero flag stands.
use Rattle.std.specs.Prelude.{ℕ, ◌≡◌, List, ◌∷◌, ◌++◌}
use Rattle.sticky_count.specs.declared.view.Event.{Event}
use Rattle.counter_word.specs.Words.{HasZero}
use Rattle.sticky_count.specs.History.{run, Possible}
use Rattle.sticky_count.specs.Sound.{HasEnded, ended_in}
use Rattle.sticky_count.specs.Seats.{SeatState}

-- This event ended the counter, and no other does: up to it no event of any seat had ended the
-- counter, and whatever comes later it has ended, by one event.
pub record EndsOnce (seats : ℕ) (es : List Event) (e : Event) : Type 0 where
  pub lived : HasEnded (run seats es).word → ⊥
  pub none_before : ended_in (run seats es) ≡ 0
  pub since :
      (later : List Event) → Possible seats (later ++ e ∷ es)
      → HasEnded (run seats (later ++ e ∷ es)).word
      × (ended_in (run seats (later ++ e ∷ es)) ≡ 1)

-- the last step of the seat ended the counter
pub record HasEndedIt (s : SeatState) : Type 0 where
  pub before : List Event
  pub event : Event
  pub own : event.seat ≡ s.seat
  pub past : s.past ≡ event ∷ before
  pub once : EndsOnce s.seats before event

-- at the seat's last step, and whatever comes later, the zero flag stands: no increment counts
abbrev pub IsOver : SeatState → Type 0
IsOver s =
    (later : List Event) → Possible s.seats (later ++ s.past)
    → HasZero (run s.seats (later ++ s.past)).word
