use Rattle.core_functions.proofs.Slots.{slot_found}
use Rattle.core_functions.proofs.lists.has_slot.Goals as goal

pub returns : goal.returns
returns c = slot_found c.args.slot c.args.list.now c.contains.result c.contains.ensures.value
