use Rattle.std.proofs.Common.{arith}
use Rattle.core_events.specs.plain_state.declared.slot.Kind.{Kind}
use Rattle.step_lines.specs.Beyond.{IsBeyondSlot, IsTooLarge}
use Rattle.step_lines.proofs.Readings.{reads_both, Both, OneOf}
use Rattle.step_lines.proofs.Rows.{announce_refused}
use Rattle.step_lines.proofs.Words.{KindAt, NumberAt, SlotAt}
use Rattle.step_lines.proofs.acts.announce.Goals as goal

pub returns-in_err-note : goal.returns-in_err-note
returns-in_err-note c =
    let words = c.args.words.now in
    let rest = reads_both (KindAt words 1) (λ (k : Kind). ⊥) (SlotAt words 2) IsBeyondSlot
    c.parse_kind.result c.parse_slot.result c.both-kind.result c.both-kind.ensures.ok c.both-kind.ensures.syntax c.both-kind.ensures.range
    c.parse_kind.ensures c.parse_slot.ensures in
    let all = reads_both (NumberAt words 0) IsTooLarge (Both (KindAt words 1) (SlotAt words 2)) (OneOf (λ (k : Kind). ⊥) IsBeyondSlot)
    c.parse_number.result c.both-kind.result c.both.result c.both.ensures.ok c.both.ensures.syntax c.both.ensures.range
    c.parse_number.ensures rest in
    announce_refused words c.from_residual.result c.in_err-note.field-0.0 c.from_residual.ensures.1 (omega arith) (rw c.in_err-note.was at all)
