-- The word of a counter as a number: 2 ^ 63 is the zero flag, 2 ^ 62 the help flag, the count lies below.
use Rattle.std.specs.Prelude.{ℕ, ◌+◌, ◌-◌, ◌%◌, ◌^◌, ◌≤◌, Bool, nat_lt, nat_le, ◌==◌, if◌then◌else◌}
use Rattle.counter_word.specs.declared.outcome.Sub.{Sub}
use Rattle.counter_word.specs.declared.outcome.Sub.TheVariants as «sub»
use Rattle.counter_word.specs.declared.outcome.Fin.{Fin}
use Rattle.counter_word.specs.declared.outcome.Fin.TheVariants as «fin»

-- the zero flag
abbrev pub ZERO : ℕ
ZERO = 2 ^ 63

-- the help flag
abbrev pub HELP : ℕ
HELP = 2 ^ 62

-- the zero flag stands
abbrev pub HasZero : ℕ → Type 0
HasZero w = ZERO ≤ w

-- the help flag stands
abbrev pub HasHelp : ℕ → Type 0
HasHelp w = HELP ≤ w % ZERO

-- the same as tests
abbrev pub has_zero : ℕ → Bool
has_zero w = nat_le ZERO w

abbrev pub has_help : ℕ → Bool
has_help w = nat_le HELP (w % ZERO)

-- whether the zero flag is absent
abbrev pub lives : ℕ → Bool
lives w = nat_lt w ZERO

-- the count below the flags
abbrev pub low : ℕ → ℕ
low w = w % HELP

-- what the word counts: nothing where the zero flag stands, else the word
abbrev pub value : ℕ → ℕ
value w = if lives w then w else 0

-- each step's new word, and what the step comes to
abbrev pub added : ℕ → ℕ × Bool
added w = (w + 1, lives w)

abbrev pub subbed : ℕ → ℕ × Sub
subbed w = (w - 1, if w == 1 then «sub».Finish else «sub».Done)

abbrev pub finished : ℕ → ℕ × Fin
finished w = (
  if w == 0 then ZERO else w,
  if w == 0 then «fin».Ended else if has_help w then «fin».Help else «fin».Lost,
)

abbrev pub helped : ℕ → ℕ × Bool
helped w = (if has_help w then w - HELP else w, has_help w)

-- a reader that found 0 sets both flags, where the word is still 0
abbrev pub marked : ℕ → ℕ
marked w = if w == 0 then ZERO + HELP else w
