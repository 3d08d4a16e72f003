use Rattle.std.proofs.Common.{[]}
use Rattle.script_desk.specs.Handles.{is_firm}
use Rattle.script_desk.proofs.Needs.{first_any}
use Rattle.script_desk.proofs.resolving.place_of.Goals as goal

pub slot-requires : goal.slot-requires
slot-requires c =
    first_any c.args.names.now c.in-Field.name is_firm [] (rw c.in-Field.is at c.requires.needs)

pub slot-requires-in-WeakField : goal.slot-requires-in-WeakField
slot-requires-in-WeakField c =
    first_any c.args.names.now c.in-WeakField.name is_firm []
    (rw c.in-WeakField.is at c.requires.needs)
