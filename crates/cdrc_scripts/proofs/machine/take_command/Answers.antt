use Rattle.std.proofs.Common.{rules}
use Rattle.line_machine.specs.line_words.Words.{texts_of}
use Rattle.script_law.specs.script_lines.Spelling.{SpellsCommand}
use Rattle.domain_desk.specs.Desks.{desk_of}
use Rattle.cdrc_scripts.proofs.Taking.{command_taken, command_refused}
use Rattle.cdrc_scripts.proofs.machine.take_command.Goals as goal

pub returns-clause-taken : goal.returns-clause-taken
returns-clause-taken g c told =
    let spells : SpellsCommand c.in-Ok.command (texts_of c.args.words.now) = search rules in
    command_taken c.args.desk.now c.run_command.new.desk (texts_of c.args.words.now) c.args.text.now.items
    c.run_command.new.text.items c.in-Ok.command spells (c.run_command.ensures.taken told)

pub returns-clause-refused : goal.returns-clause-refused
returns-clause-refused g c reason told =
    let spells : SpellsCommand c.in-Ok.command (texts_of c.args.words.now) = search rules in
    let why = c.run_command.ensures.refused reason told in (
      why.0,
      command_refused (desk_of c.args.desk.now) (texts_of c.args.words.now) c.in-Ok.command reason
          spells why.1,
    )
