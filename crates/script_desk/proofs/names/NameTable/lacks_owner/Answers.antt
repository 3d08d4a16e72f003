use Rattle.std.proofs.Common.{⊎_elim}
use Rattle.script_desk.specs.Faults.{IsMissing}
use Rattle.script_desk.specs.Handles.{is_firm}
use Rattle.script_desk.proofs.Anys.{tests_one}
use Rattle.script_desk.proofs.names.NameTable.lacks_owner.Goals as goal

pub returns-in-Field : goal.returns-in-Field
returns-in-Field c =
    let one = tests_one (IsMissing c.args.self.now) c.is_missing.result (c.in-Field.name, is_firm) c.is_missing.ensures in
    ⊎_elim (λ x. rw x.1 one) (λ e. rw e one) c.in-Field.is
