-- What the values of an option say. An option that comes twice has no meaning.
use Rattle.std.specs.Prelude.{ℕ, ◌≡◌, ◌≤◌, ◌⊎◌, ⊤, Bool, true, false, List, [], ◌∷◌, Some, None, codes}
use Rattle.std.specs.declared.option.Option.{Option}
use Rattle.plain_state.specs.Limits.{most_slots}
use Rattle.line_words.specs.Number.{IsNumber}
use Rattle.run_requests.specs.declared.asked.Protect.{Protect}
use Rattle.run_requests.specs.declared.asked.Protect.TheVariants.{Announce, Epoch}
use Rattle.command_line.specs.Parts.{Text}

-- the word spells n, which is within these bounds
abbrev pub IsNumberWithin : ℕ → ℕ → Text → ℕ → Type 0
IsNumberWithin least most word n = IsNumber word n × (least ≤ n) × (n ≤ most)

-- a number within these bounds, by default this one
abbrev pub IsNumberOr : ℕ → ℕ → ℕ → List Text → ℕ → Type 0
IsNumberOr default least most [] n = n ≡ default
IsNumberOr default least most (word ∷ []) n = IsNumberWithin least most word n
IsNumberOr default least most (word ∷ more ∷ words) n = ⊥

abbrev pub IsLanes : List Text → ℕ → Type 0
IsLanes = IsNumberOr 2 1 31

abbrev pub IsRounds : List Text → ℕ → Type 0
IsRounds = IsNumberOr 1 1 1000

-- so many slots as there may be, none by default
abbrev pub IsSlots : List Text → Option ℕ → Type 0
IsSlots [] slots = slots ≡ None
IsSlots (word ∷ []) slots = (n : ℕ) × (slots ≡ Some n) × IsNumberWithin 1 most_slots word n
IsSlots (word ∷ more ∷ words) slots = ⊥

-- whether the queue has double links, by default not
abbrev pub IsQueue : List Text → Bool → Type 0
IsQueue [] double = double ≡ false
IsQueue (word ∷ []) double =
    ((word ≡ codes "linked") × (double ≡ false)) ⊎ ((word ≡ codes "double") × (double ≡ true))
IsQueue (word ∷ more ∷ words) double = ⊥

-- how what lanes read is kept, by default by announcements
abbrev pub IsProtect : List Text → Protect → Type 0
IsProtect [] protect = protect ≡ Announce
IsProtect (word ∷ []) protect =
    ((word ≡ codes "announce") × (protect ≡ Announce))
    ⊎ ((word ≡ codes "epoch") × (protect ≡ Epoch))
IsProtect (word ∷ more ∷ words) protect = ⊥

-- lanes under regions share no queue, so that its option goes with announcements alone
abbrev pub SuitsQueue : List Text → Protect → Type 0
SuitsQueue queue_values Announce = ⊤
SuitsQueue queue_values Epoch = queue_values ≡ []
