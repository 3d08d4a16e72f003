-- What a reader tells of the value that it read.
use Rattle.std.specs.Prelude.{ℕ, ◌≡◌, List, slice_index}
use Rattle.example_setting.specs.Calls.{read_too}
use Rattle.example_setting.specs.declared.view.View.{View}

-- the seat read one value more, whose first word is n
abbrev pub TellsRead : ℕ → View → View → Type 0
TellsRead n old new =
    (value : List ℕ) × (new ≡ read_too value old) × (n ≡ slice_index value 0)
