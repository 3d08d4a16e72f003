use Rattle.std.proofs.Common.{arith}
use Rattle.step_lines.proofs.ShortRows.{slot_alone}
use Rattle.step_lines.proofs.acts.slot.Goals as goal

pub returns : goal.returns
returns c = slot_alone c.args.words.now (omega arith) c.parse_slot.result c.parse_slot.ensures
