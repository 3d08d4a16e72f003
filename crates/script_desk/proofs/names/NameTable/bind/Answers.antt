use Rattle.std.proofs.Common.{◌∙◌, Some, string_bytes}
use Rattle.script_desk.proofs.Tables.{bound-get, binds_after, counts_inserted}
use Rattle.script_desk.proofs.names.NameTable.bind.Goals as goal
use Rattle.script_desk.proofs.names.NameTable.bind.Goals.{in-Ok-insert, in-Err}

pub returns-clause-binds : goal.returns-clause-binds
returns-clause-binds c = elim c.match-insert.branch [
  | in-Ok-insert w ↦ rw w.result-is
      (binds_after c.self.inside.map c.insert.new.self c.args.self.now (string_bytes c.in-Ok.key) c.args.name.now (Some c.args.handle)
      c.self.view_is (c.in-Ok.ensures.ok ∙ c.as_str.ensures.text) w.in-Ok-insert.ensures.updates)
  | in-Err w ↦ rw w.result-is tt
]

pub returns-clause-more : goal.returns-clause-more
returns-clause-more c = elim c.match-insert.branch [
  | in-Ok-insert w ↦ rw w.result-is
      (counts_inserted c.self.inside.map c.insert.new.self c.args.self.now c.in-Ok.key c.args.handle c.self.view_is c.insert.ensures.was_ordered
      (bound-get c.self.inside.map c.args.self.now (string_bytes c.in-Ok.key) c.args.name.now c.self.view_is (c.in-Ok.ensures.ok ∙ c.as_str.ensures.text) ∙ c.requires)
      w.in-Ok-insert.ensures.entries)
  | in-Err w ↦ rw w.result-is tt
]
