use Rattle.std.proofs.Common.{None, ◌∙◌}
use Rattle.script_desk.proofs.Tables.{bound-get, binds_after, counts_removed}
use Rattle.script_desk.proofs.names.NameTable.unbind.Goals as goal

pub returns-clause-was : goal.returns-clause-was
returns-clause-was c = c.remove.ensures.value ∙ bound-get c.self.inside.map c.args.self.now c.as_str.result.now c.args.name.now c.self.view_is c.as_str.ensures.text

pub returns-clause-binds : goal.returns-clause-binds
returns-clause-binds c =
    binds_after c.self.inside.map c.remove.new.self c.args.self.now c.as_str.result.now c.args.name.now None c.self.view_is c.as_str.ensures.text c.remove.ensures.updates

pub returns-clause-fewer : goal.returns-clause-fewer
returns-clause-fewer c =
    counts_removed c.self.inside.map c.remove.new.self c.args.self.now c.as_str.result.now c.remove.result c.self.view_is c.remove.ensures.value c.remove.ensures.entries
