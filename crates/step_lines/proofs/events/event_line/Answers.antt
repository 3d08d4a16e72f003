use Rattle.line_words.specs.Words.{texts_of}
use Rattle.step_lines.specs.Beyond.{IsBeyond, IsBeyondAct, IsTooLarge}
use Rattle.step_lines.specs.Reading.{Reads}
use Rattle.step_lines.specs.Spelling.{Number, SpellsAct, SpellsEvent}
use Rattle.step_lines.proofs.Lines.{event_refused}
use Rattle.step_lines.proofs.Readings.{if_range, if_syntax, reads_both}
use Rattle.step_lines.proofs.events.event_line.Goals as goal

refused : (c : goal.After-from_residual) → Reads (SpellsEvent (texts_of c.args.words.now)) IsBeyond c.from_residual.result
refused c =
    let seat = c.in-Some.seat.now in
    let rest = c.in-Some.act.now in
    let both = reads_both (λ n. Number n seat.now) IsTooLarge (SpellsAct (texts_of rest)) IsBeyondAct
    c.parse_number.result c.parse_act.result c.both.result c.both.ensures.ok c.both.ensures.syntax c.both.ensures.range
    c.parse_number.ensures c.parse_act.ensures in
    event_refused c.args.words.now rest seat c.in-Some.ensures.cases.0
    c.from_residual.result c.in_err-seat.field-0.0 c.from_residual.ensures.1 (rw c.in_err-seat.was at both)

pub returns-in_err-seat-clause-syntax : goal.returns-in_err-seat-clause-syntax
returns-in_err-seat-clause-syntax c = if_syntax (SpellsEvent (texts_of c.args.words.now)) IsBeyond c.from_residual.result (refused c)

pub returns-in_err-seat-clause-range : goal.returns-in_err-seat-clause-range
returns-in_err-seat-clause-range c = if_range (SpellsEvent (texts_of c.args.words.now)) IsBeyond c.from_residual.result (refused c)
