-- The text of the words that a seed draws.
use Rattle.std.specs.Prelude.{ℕ, zero, suc, ◌+◌, ◌*◌, ◌/◌, ◌%◌, ◌^◌, ◌==◌, ◌||◌, if◌then◌else◌, List, ◌++◌, codes}
use Rattle.std.specs.Fmt.{decimal}
use Rattle.std.specs.List.{flat_map, range_with_len}

-- the number that the next draw gives
abbrev pub next_draw : ℕ → ℕ
next_draw x = (6364136223846793005 * x + 1442695040888963407) % 2 ^ 64

-- the number that draw k gives, counted from 1; the seed before the first
unfoldable pub draw : ℕ → ℕ → ℕ
draw seed zero = seed
draw seed (suc k) = next_draw (draw seed k)

-- the word of such a number: `w`, and its upper bits within the vocabulary
abbrev pub drawn_word : ℕ → ℕ → List ℕ
drawn_word vocabulary x = codes "w" ++ decimal (x / 2 ^ 33 % vocabulary)

-- what follows word k of so many, counted from 1: a line feed after each tenth and after the last, else a space
abbrev pub after_word : ℕ → ℕ → List ℕ
after_word many k = if (k % 10 == 0) || (k == many) then codes "\n" else codes " "

-- word k with what follows it
abbrev pub drawn_part : ℕ → ℕ → ℕ → ℕ → List ℕ
drawn_part seed many vocabulary k = drawn_word vocabulary (draw seed k) ++ after_word many k

-- so many words, one for each draw
unfoldable pub generated_text : ℕ → ℕ → ℕ → List ℕ
generated_text seed many vocabulary = flat_map (drawn_part seed many vocabulary) (range_with_len 1 many)
