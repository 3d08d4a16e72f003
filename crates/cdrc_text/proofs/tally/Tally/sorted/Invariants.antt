use Rattle.std.proofs.Common.{◌≡◌, ◌++◌}
use Rattle.cdrc_text.specs.Tally.{entries_of, shown_entries}
use Rattle.cdrc_text.proofs.tally.Tally.sorted.Given as goal

-- the rows so far and the entries that are left are those of the tally
abbrev pub invariant-loop-word : goal.invariant-loop-word
invariant-loop-word l = shown_entries l.rows.items ++ entries_of l.word-iterator ≡ l.self
