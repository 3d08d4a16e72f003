use Rattle.std.proofs.Common.{length, sym, ap, ◌∙◌, arith}
use Rattle.cdrc_text.specs.Pieces.{fields_of}
use Rattle.number_text.proofs.Reading.{reading-end, reading-full, reading-push, reading-skip, reading-start, skipped-fits}
use Rattle.number_text.proofs.numbers.read_numbers.Goals as goal

pub loop-field-init : goal.loop-field-init
unfolding fields_of
loop-field-init c =
    reading-start c.args.bytes.now c.args.limit _ _ c.new-numbers.ensures.items
    (c.into_iter-field-iterator.ensures.into_iter_gives ∙ c.fields-field-items.ensures.value)

-- there are no more fields than bytes
pub overflow_add-skipped : goal.overflow_add-skipped
unfolding fields_of
overflow_add-skipped c =
    let fits = skipped-fits c.args.bytes.now c.args.limit _ _ _ c.loop-field.invariant _ _ c.in-Some.ensures.steps (sym c.in-None-number.ensures) in
    omega (arith, fits, ap length c.fields-field-items.ensures.value, c.fields-field-items.ensures.len)

pub loop-field-preserved-in-None-number : goal.loop-field-preserved-in-None-number
loop-field-preserved-in-None-number c =
    reading-skip c.args.bytes.now c.args.limit _ _ _ c.loop-field.invariant _ _ c.in-Some.ensures.steps (sym c.in-None-number.ensures)

pub returns-in-Some-number-clause-refused : goal.returns-in-Some-number-clause-refused
returns-in-Some-number-clause-refused c =
    reading-full c.args.bytes.now c.args.limit _ _ _ c.loop-field.invariant _ _ c.in-Some.ensures.steps c.in-Some-number.field-0
    (sym c.in-Some-number.ensures) (omega arith)

pub loop-field-preserved : goal.loop-field-preserved
loop-field-preserved c =
    reading-push c.args.bytes.now c.args.limit _ _ _ c.loop-field.invariant _ _ c.in-Some.ensures.steps c.in-Some-number.field-0 _
    (sym c.in-Some-number.ensures) (λ full. omega (arith, full)) c.in_ok-push-in-Some-2.ensures.items

pub returns-clause-numbers : goal.returns-clause-numbers
returns-clause-numbers c = (reading-end c.args.bytes.now c.args.limit _ _ _ c.loop-field.invariant c.in-None.ensures.steps.0).0

pub returns-clause-skipped : goal.returns-clause-skipped
returns-clause-skipped c = (reading-end c.args.bytes.now c.args.limit _ _ _ c.loop-field.invariant c.in-None.ensures.steps.0).1

pub returns-clause-within : goal.returns-clause-within
returns-clause-within c =
    let found = (reading-end c.args.bytes.now c.args.limit _ _ _ c.loop-field.invariant c.in-None.ensures.steps.0).0 in
    omega (arith, ap length found, c.loop-field.invariant.room)
