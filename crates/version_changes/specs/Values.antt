-- What a key has after a change.
use Rattle.std.specs.Prelude.{ℕ, Option, Some, None}
use Rattle.map_trees.specs.declared.change.Change.{Change}
use Rattle.map_trees.specs.declared.change.Change.TheVariants as change
use Rattle.map_trees.specs.Maps.{bumped}

-- none where it is absent
abbrev pub value_of : Change → Option ℕ → Option ℕ
value_of (change.Put value) before = Some value
value_of (change.Bump more) before = Some (bumped more before)
value_of change.Take before = None
