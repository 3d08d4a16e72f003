use Rattle.std.proofs.Common.{◌≡◌, rules, arith, codes}
use Rattle.line_words.specs.Words.{texts_of}
use Rattle.step_lines.specs.Beyond.{IsBeyondShape, IsTooLarge}
use Rattle.step_lines.specs.Reading.{Reads}
use Rattle.step_lines.specs.Spelling.{SpellsShape}
use Rattle.step_lines.proofs.Lines.{shape_refused, shape_spelled}
use Rattle.step_lines.proofs.Readings.{if_range, if_syntax, reads_both, Both, OneOf}
use Rattle.step_lines.proofs.Words.{word_at, NumberAt}
use Rattle.step_lines.proofs.shapes.shape_line.Goals as goal

pub returns-clause-ok : goal.returns-clause-ok
returns-clause-ok c =
    let words = c.args.words.now in
    let named : word_at words 0 ≡ codes "shape" = search rules in
    let seats = c.in_ok-seats.ensures.ok in
    let slots = rw seats.1 at c.both-rest-3.ensures.ok in
    let cells = rw slots.1 at c.both-rest-2.ensures.ok in
    let weak_cells = rw cells.1 at c.both-rest.ensures.ok in
    let found = c.in_ok-seats in
    shape_spelled words (omega arith) named (found.seats, (found.slots, (found.cells, (found.weak_cells, found.batch)))) (
      rw seats.0 at c.parse_number-5.ensures,
      (
        rw slots.0 at c.parse_number-4.ensures,
        (
          rw cells.0 at c.parse_number-3.ensures,
          (rw weak_cells.0 at c.parse_number.ensures, rw weak_cells.1 at c.parse_number-2.ensures),
        ),
      ),
    )

refused : (c : goal.After-from_residual) → Reads (SpellsShape (texts_of c.args.words.now)) IsBeyondShape c.from_residual.result
refused c =
    let words = c.args.words.now in
    let named : word_at words 0 ≡ codes "shape" = search rules in
    let last = reads_both (NumberAt words 4) IsTooLarge (NumberAt words 5) IsTooLarge c.parse_number.result c.parse_number-2.result
    c.both-rest.result c.both-rest.ensures.ok c.both-rest.ensures.syntax c.both-rest.ensures.range c.parse_number.ensures c.parse_number-2.ensures in
    let three = reads_both (NumberAt words 3) IsTooLarge (Both (NumberAt words 4) (NumberAt words 5)) (OneOf IsTooLarge IsTooLarge)
    c.parse_number-3.result c.both-rest.result c.both-rest-2.result
    c.both-rest-2.ensures.ok c.both-rest-2.ensures.syntax c.both-rest-2.ensures.range c.parse_number-3.ensures last in
    let four = reads_both (NumberAt words 2) IsTooLarge (Both (NumberAt words 3) (Both (NumberAt words 4) (NumberAt words 5)))
    (OneOf IsTooLarge (OneOf IsTooLarge IsTooLarge)) c.parse_number-4.result c.both-rest-2.result c.both-rest-3.result
    c.both-rest-3.ensures.ok c.both-rest-3.ensures.syntax c.both-rest-3.ensures.range c.parse_number-4.ensures three in
    let five = reads_both (NumberAt words 1) IsTooLarge
    (Both (NumberAt words 2) (Both (NumberAt words 3) (Both (NumberAt words 4) (NumberAt words 5))))
    (OneOf IsTooLarge (OneOf IsTooLarge (OneOf IsTooLarge IsTooLarge))) c.parse_number-5.result c.both-rest-3.result c.both.result
    c.both.ensures.ok c.both.ensures.syntax c.both.ensures.range c.parse_number-5.ensures four in
    shape_refused words (omega arith) named c.from_residual.result c.in_err-seats.field-0.0 c.from_residual.ensures.1 (rw c.in_err-seats.was at five)

pub returns-in_err-seats-clause-syntax : goal.returns-in_err-seats-clause-syntax
returns-in_err-seats-clause-syntax c = if_syntax (SpellsShape (texts_of c.args.words.now)) IsBeyondShape c.from_residual.result (refused c)

pub returns-in_err-seats-clause-range : goal.returns-in_err-seats-clause-range
returns-in_err-seats-clause-range c = if_range (SpellsShape (texts_of c.args.words.now)) IsBeyondShape c.from_residual.result (refused c)
