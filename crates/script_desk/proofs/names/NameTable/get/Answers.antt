use Rattle.std.proofs.Common.{◌∙◌}
use Rattle.script_desk.proofs.Tables.{bound-get}
use Rattle.script_desk.proofs.names.NameTable.get.Goals as goal

pub returns : goal.returns
returns c = c.get.ensures.value ∙ bound-get c.self.inside.map c.args.self.now c.as_str.result.now c.args.name.now c.self.view_is c.as_str.ensures.text
