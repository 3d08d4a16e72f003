use Rattle.step_lines.proofs.Places.{slot_reads}
use Rattle.step_lines.proofs.arguments.parse_slot.Goals as goal

pub returns : goal.returns
returns c = slot_reads c.args.word.now c.parse_number.result c.map.result c.map.ensures.cases c.parse_number.ensures
