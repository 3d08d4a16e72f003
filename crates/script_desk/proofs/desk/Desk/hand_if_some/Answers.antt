use Rattle.std.proofs.Common.{[]}
use Rattle.script_desk.specs.Handles.{is_strong}
use Rattle.script_desk.proofs.Needs.{first_met}
use Rattle.script_desk.proofs.desk.Desk.hand_if_some.Goals as goal

pub strong_slot-requires : goal.strong_slot-requires
strong_slot-requires c = first_met c.args.self.now.names c.in-Some.name is_strong [] (rw c.in-Some.is at c.requires)
