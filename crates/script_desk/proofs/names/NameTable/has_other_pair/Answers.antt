use Rattle.script_desk.specs.Faults.{IsOther, need_of}
use Rattle.script_desk.specs.Handles.{is_firm, is_strong}
use Rattle.script_desk.proofs.Anys.{either_first, either_second}
use Rattle.script_desk.proofs.names.NameTable.has_other_pair.Goals as goal

pub returns-then-is_other_if_some : goal.returns-then-is_other_if_some
returns-then-is_other_if_some c =
    either_first (IsOther c.args.self.now) c.is_other_if_some.result (need_of c.args.old.now is_firm) (need_of c.args.new.now is_strong)
    c.if-is_other_if_some.true c.is_other_if_some.ensures

pub returns-else-is_other_if_some : goal.returns-else-is_other_if_some
returns-else-is_other_if_some c =
    either_second (IsOther c.args.self.now) c.is_other_if_some.result c.is_other_if_some-else-is_other_if_some.result (need_of c.args.old.now is_firm)
    (need_of c.args.new.now is_strong) c.if-is_other_if_some.false c.is_other_if_some.ensures c.is_other_if_some-else-is_other_if_some.ensures
