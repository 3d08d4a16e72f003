-- Words spell one line at most.
use Rattle.std.proofs.Common.{ℕ, ◌≡◌, List}
use Rattle.script_law.specs.script_lines.declared.command.ScriptLine.{ScriptLine}
use Rattle.script_law.specs.script_lines.Spelling.{Spells}
use Rattle.script_law.proofs.Below.script_lines_Unique.{one-line}

pub one_line : (words : List (List ℕ)) (l m : ScriptLine) → Spells l words → Spells m words → l ≡ m
one_line = one-line
