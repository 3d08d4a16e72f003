use Rattle.std.proofs.Common.{◌≡◌, Err, rules}
use Rattle.script_law.specs.script_lines.declared.command.ScriptLine.TheVariants.{Command as OnHeap}
use Rattle.script_law.specs.script_lines.declared.refused.CommandRefused.TheVariants.{Syntax}
use Rattle.cdrc_scripts.proofs.lines.command_of.Goals as goal

pub returns-in_err-line-clause-syntax : goal.returns-in_err-line-clause-syntax
returns-in_err-line-clause-syntax c is command spells =
    let refused : c.script_line.result ≡ Err Syntax = search rules in
    c.script_line.ensures.syntax refused (OnHeap command) spells
