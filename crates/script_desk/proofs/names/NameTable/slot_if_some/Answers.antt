use Rattle.std.proofs.Common.{[]}
use Rattle.script_desk.specs.Handles.{is_any}
use Rattle.script_desk.proofs.Needs.{first_any}
use Rattle.script_desk.proofs.names.NameTable.slot_if_some.Goals as goal

pub slot-requires : goal.slot-requires
slot-requires c = first_any c.args.self.now c.in-Some.name is_any [] (rw c.in-Some.is at c.requires)
