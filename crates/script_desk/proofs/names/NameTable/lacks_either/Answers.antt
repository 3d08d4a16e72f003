use Rattle.script_desk.specs.Faults.{IsMissing, need_of}
use Rattle.script_desk.specs.Handles.{is_firm, is_strong}
use Rattle.script_desk.proofs.Anys.{either_first, either_second}
use Rattle.script_desk.proofs.names.NameTable.lacks_either.Goals as goal

pub returns-then-lacks : goal.returns-then-lacks
returns-then-lacks c =
    either_first (IsMissing c.args.self.now) c.lacks.result (need_of c.args.old.now is_firm) (need_of c.args.new.now is_strong) c.if-lacks.true
    (c.lacks.ensures is_firm)

pub returns-else-lacks : goal.returns-else-lacks
returns-else-lacks c =
    either_second (IsMissing c.args.self.now) c.lacks.result c.lacks-else-lacks.result (need_of c.args.old.now is_firm) (need_of c.args.new.now is_strong)
    c.if-lacks.false (c.lacks.ensures is_firm) (c.lacks-else-lacks.ensures is_strong)
