-- What a call of a seat does: its steps, with the words that they find, and its answer.
use Rattle.std.specs.Prelude.{ℕ, ◌≡◌, ◌≢◌, ◌⊎◌, Bool, true, false, List, [], ◌∷◌}
use Rattle.sticky_count.specs.declared.view.Act.TheVariants as act
use Rattle.sticky_count.specs.declared.view.Act.{Act}
use Rattle.sticky_count.specs.declared.view.Move.{Move}
use Rattle.sticky_count.specs.declared.view.View.{View}
use Rattle.counter_word.specs.Words.{lives, has_help, value}
use Rattle.sticky_count.specs.Views.{moved}

abbrev pub move : Act → ℕ → Move
move a w = record { act = a; found = w }

-- the view after these steps
abbrev pub walked : List Move → View → View
walked [] v = v
walked (m ∷ ms) v = walked ms (moved m.act m.found v)

-- one add: it counts exactly where it found no zero flag
abbrev pub Increments : List Move → Bool → Type 0
Increments ms b = (w : ℕ) × (ms ≡ move act.Add w ∷ []) × (b ≡ lives w)

-- a subtraction of a count that was not the last
abbrev pub TakesOne : List Move → Bool → Type 0
TakesOne ms b = (w : ℕ) × (w ≢ 1) × (ms ≡ move act.Sub w ∷ []) × (b ≡ false)

-- the last count, and a finish that found the word still 0
abbrev pub Ends : List Move → Bool → Type 0
Ends ms b = (ms ≡ move act.Sub 1 ∷ move act.Finish 0 ∷ []) × (b ≡ true)

-- the last count, and a finish that found neither 0 nor the help flag
abbrev pub Loses : List Move → Bool → Type 0
Loses ms b =
    (w : ℕ) × (w ≢ 0) × (has_help w ≡ false)
    × (ms ≡ move act.Sub 1 ∷ move act.Finish w ∷ []) × (b ≡ false)

-- the last count, a finish that found the help flag, and a take, which ends the counter where it found
-- the flag
abbrev pub TakesHelp : List Move → Bool → Type 0
TakesHelp ms b = (w : ℕ) × (x : ℕ) × (w ≢ 0) × (has_help w ≡ true)
    × (ms ≡ move act.Sub 1 ∷ move act.Finish w ∷ move act.Take x ∷ []) × (b ≡ has_help x)

-- one to three steps
abbrev pub Decrements : List Move → Bool → Type 0
Decrements ms b = TakesOne ms b ⊎ Ends ms b ⊎ Loses ms b ⊎ TakesHelp ms b

-- one load; where it found 0, a mark. The answer is the value of the word found last
abbrev pub Reads : List Move → ℕ → Type 0
Reads ms n =
    ((w : ℕ) × (w ≢ 0) × (ms ≡ move act.Load w ∷ []) × (n ≡ value w))
    ⊎ ((w : ℕ) × (ms ≡ move act.Load 0 ∷ move act.Mark w ∷ []) × (n ≡ value w))
