-- Entries that each add one.
use Rattle.std.specs.Prelude.{◌≡◌, ℕ, ◌+◌, ◌==◌, List, [], ◌∷◌, if◌then◌else◌}
use Rattle.map_trees.specs.declared.change.Change.TheVariants as change
use Rattle.map_trees.specs.declared.change.Entry.{Entry}

-- each entry adds one to its key
abbrev pub AllBumps : List Entry → Type 0
AllBumps [] = Unit {0}
AllBumps (e ∷ es) = (e.change ≡ change.Bump 1) × AllBumps es

-- how many entries are of this key
abbrev pub bumps : ℕ → List Entry → ℕ
bumps k [] = 0
bumps k (e ∷ es) = (if e.key == k then 1 else 0) + bumps k es
