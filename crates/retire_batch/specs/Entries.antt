-- What a batch has: two lists of entries, and room for so many in both together.
use Rattle.std.specs.Prelude.{ℕ, ◌+◌, List, length}
use Rattle.plain_state.specs.Lists.{Entry}

pub record Entries : Type 0 where
  pub retired : List Entry
  pub owed : List Entry
  pub room : ℕ

-- how many entries a batch has
abbrev pub entry_count : Entries → ℕ
entry_count batch = length batch.retired + length batch.owed
