use Rattle.std.proofs.Common.{arith}
use Rattle.step_lines.specs.Beyond.{IsBeyondSlot, IsTooLarge}
use Rattle.step_lines.proofs.Readings.{reads_both}
use Rattle.step_lines.proofs.Rows.{see_refused}
use Rattle.step_lines.proofs.Words.{NumberAt, SlotAt}
use Rattle.step_lines.proofs.acts.see.Goals as goal

pub returns-in_err-slot : goal.returns-in_err-slot
returns-in_err-slot c =
    let words = c.args.words.now in
    let all = reads_both (SlotAt words 0) IsBeyondSlot (NumberAt words 1) IsTooLarge
    c.parse_slot.result c.parse_number.result c.both.result c.both.ensures.ok c.both.ensures.syntax c.both.ensures.range
    c.parse_slot.ensures c.parse_number.ensures in
    see_refused words c.from_residual.result c.in_err-slot.field-0.0 c.from_residual.ensures.1 (omega arith) (rw c.in_err-slot.was at all)
