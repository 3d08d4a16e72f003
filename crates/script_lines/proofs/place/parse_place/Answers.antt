use Rattle.std.proofs.Common.{inl, inr, arith}
use Rattle.script_lines.proofs.Bytes.{first-byte, other-byte}
use Rattle.script_lines.proofs.Places.{no-place_at, no-place_field, no-place_tilde}
use Rattle.script_lines.proofs.Refusals.{same-refusal}
use Rattle.script_lines.proofs.place.parse_place.Goals as goal

pub returns-in_err-parse_number-clause-syntax : goal.returns-in_err-parse_number-clause-syntax
returns-in_err-parse_number-clause-syntax c told =
    let index = c.in-Some.index.now in
    let word = c.args.word.now in
    let is = first-byte 64 word index c.in-Some.ensures.cases.0 c.in-Some.ensures.cases.1 in
    no-place_at word index is (c.in_err-parse_number.ensures.syntax (same-refusal _ _ c.from_residual.ensures.1 told))

pub returns-in_err-parse_number-2-clause-syntax : goal.returns-in_err-parse_number-2-clause-syntax
returns-in_err-parse_number-2-clause-syntax c told =
    let cases = c.in-Some-strip_prefix.ensures.cases in
    let index = c.in-Some-strip_prefix.index.now in
    let word = c.args.word.now in
    let is = first-byte 126 word index cases.0 cases.1 in
    no-place_tilde word index is
    (c.in_err-parse_number-2.ensures.syntax (same-refusal _ _ c.from_residual-in_err-parse_number-2.ensures.1 told))

-- what stands in front of the colon is no name
pub returns-in_err-parse-in-48-clause-syntax : goal.returns-in_err-parse-in-48-clause-syntax
returns-in_err-parse-in-48-clause-syntax c told =
    let word = c.args.word.now in
    let parts = c.in-Some-split_field in
    no-place_field word parts.name.now parts.field
    (λ index. other-byte 64 word index c.in_default.ensures.cases)
    (λ index. other-byte 126 word index c.in_default-strip_prefix.ensures.cases)
    parts.ensures.some
    (λ named field. c.in_err-parse-in-48.ensures.refused (same-refusal _ _ c.from_residual-in_err-parse-in-48.ensures.1 told) named)

pub returns-in_err-parse-in-49-clause-syntax : goal.returns-in_err-parse-in-49-clause-syntax
returns-in_err-parse-in-49-clause-syntax c told =
    let word = c.args.word.now in
    let parts = c.in-Some-split_field in
    no-place_field word parts.name.now parts.field
    (λ index. other-byte 64 word index c.in_default.ensures.cases)
    (λ index. other-byte 126 word index c.in_default-strip_prefix.ensures.cases)
    parts.ensures.some
    (λ named field. c.in_err-parse-in-49.ensures.refused (same-refusal _ _ c.from_residual-in_err-parse-in-49.ensures.1 told) named)

pub returns-in_err-parse-in-119-clause-syntax : goal.returns-in_err-parse-in-119-clause-syntax
returns-in_err-parse-in-119-clause-syntax c told =
    let word = c.args.word.now in
    let parts = c.in-Some-split_field in
    no-place_field word parts.name.now parts.field
    (λ index. other-byte 64 word index c.in_default.ensures.cases)
    (λ index. other-byte 126 word index c.in_default-strip_prefix.ensures.cases)
    parts.ensures.some
    (λ named field. c.in_err-parse-in-119.ensures.refused (same-refusal _ _ c.from_residual-in_err-parse-in-119.ensures.1 told) named)

-- the last byte is that of no field
pub returns-in_default-field-clause-syntax : goal.returns-in_default-field-clause-syntax
returns-in_default-field-clause-syntax c told =
    let word = c.args.word.now in
    let parts = c.in-Some-split_field in
    no-place_field word parts.name.now parts.field
    (λ index. other-byte 64 word index c.in_default.ensures.cases)
    (λ index. other-byte 126 word index c.in_default-strip_prefix.ensures.cases)
    parts.ensures.some
    (λ named field. elim field [ inl h ↦ absurd (omega arith) | inr h ↦ elim h [ inl k ↦ absurd (omega arith) | inr k ↦ absurd (omega arith) ] ])
