use Rattle.script_desk.specs.Faults.{IsMissing}
use Rattle.script_desk.proofs.Anys.{tests_one}
use Rattle.script_desk.proofs.names.NameTable.lacks.Goals as goal

pub returns-in-Some : goal.returns-in-Some
returns-in-Some c = λ kind. rw c.in-Some.is (tests_one (IsMissing c.args.self.now) c.is_missing.result (c.in-Some.name, kind) c.is_missing.ensures)
