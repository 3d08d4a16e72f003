-- The law of a counter, whatever the steps of its seats were.
use Rattle.std.specs.Prelude.{ℕ, ◌+◌, ◌^◌, ◌<◌, ◌≤◌, ◌≡◌, ◌⊎◌, ◌↔◌, Any, sum_by}
use Rattle.sticky_count.specs.declared.view.View.{View}
use Rattle.counter_word.specs.Words.{HasZero, HasHelp, value, low}
use Rattle.sticky_count.specs.Views.{IsToFinish, IsToHelp}
use Rattle.sticky_count.specs.History.{Counter}

-- the counts that all seats hold together
abbrev pub held_in : Counter → ℕ
held_in c = sum_by (λ (v : View). v.held) c.seats

-- how often a step of any seat has ended the counter
abbrev pub ended_in : Counter → ℕ
ended_in c = sum_by (λ (v : View). v.ended) c.seats

-- the adds that all seats have used
abbrev pub adds_in : Counter → ℕ
adds_in c = sum_by (λ (v : View). v.adds) c.seats

-- the counter has ended: the zero flag stands without the help flag
abbrev pub HasEnded : ℕ → Type 0
HasEnded w = HasZero w × (HasHelp w → ⊥)

pub record IsSound (c : Counter) : Type 0 where
  -- the counts held are the value of the word
  pub counts : held_in c ≡ value c.word
  -- the help flag stands only beside the zero flag
  pub help_beside_zero : HasHelp c.word → HasZero c.word
  -- where the word is 0, some seat is to finish
  pub zero_pending : c.word ≡ 0 → Any IsToFinish c.seats
  -- where the help flag stands, some seat is to finish or to take the flag
  pub help_pending : HasHelp c.word → Any IsToFinish c.seats ⊎ Any IsToHelp c.seats
  -- at most one seat has ever ended the counter, once; one has exactly where the counter has ended
  pub one_ender : (ended_in c ≤ 1) × ((ended_in c ≡ 1) ↔ HasEnded c.word)
  -- the word is a word of 64 bits, and its low part is at most the adds and the first count
  pub fits : c.word < 2 ^ 64
  pub few : low c.word ≤ adds_in c + 1
