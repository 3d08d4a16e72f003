use Rattle.std.proofs.Common.{codes, arith}
use Rattle.std.proofs.lemmas.Bool.Decides.{Decides-eqb}
use Rattle.std.proofs.lemmas.Slice.Eq.{strip_prefix_is, strip_suffix_is}
use Rattle.step_lines.proofs.Places.{cell_reads, weak_cell_reads, field_refused, field_spelled, weak_field_reads}
use Rattle.step_lines.proofs.arguments.parse_place.Goals as goal

pub returns-in-Some : goal.returns-in-Some
returns-in-Some c =
    let word = c.args.word.now in
    let is = strip_prefix_is Decides-eqb word (codes "@") c.strip_prefix.result c.strip_prefix.ensures.cases in
    cell_reads word c.in-Some.index.now (rw c.in-Some.is at is) c.parse_number.result c.map.result c.map.ensures.cases c.parse_number.ensures

pub returns-in-Some-strip_prefix : goal.returns-in-Some-strip_prefix
returns-in-Some-strip_prefix c =
    let word = c.args.word.now in
    let is = strip_prefix_is Decides-eqb word (codes "~") c.strip_prefix-2.result c.strip_prefix-2.ensures.cases in
    weak_cell_reads word c.in-Some-strip_prefix.index.now (rw c.in-Some-strip_prefix.is at is)
    c.parse_number-in-Some-strip_prefix.result c.map-in-Some-strip_prefix.result c.map-in-Some-strip_prefix.ensures.cases
    c.parse_number-in-Some-strip_prefix.ensures

pub returns-in-Some-strip_suffix : goal.returns-in-Some-strip_suffix
returns-in-Some-strip_suffix c =
    let word = c.args.word.now in
    let is = strip_suffix_is Decides-eqb word (codes ":0") c.strip_suffix.result c.strip_suffix.ensures.cases in
    field_spelled word c.in-Some-strip_suffix.slot.now 0 (omega arith) (rw c.in-Some-strip_suffix.is at is)
    c.in_ok-parse_slot.field-0 c.in_ok-parse_slot.ensures

pub returns-in_err-parse_slot : goal.returns-in_err-parse_slot
returns-in_err-parse_slot c =
    let word = c.args.word.now in
    let no_cell = strip_prefix_is Decides-eqb word (codes "@") c.strip_prefix.result c.strip_prefix.ensures.cases in
    let no_weak = strip_prefix_is Decides-eqb word (codes "~") c.strip_prefix-2.result c.strip_prefix-2.ensures.cases in
    let is = strip_suffix_is Decides-eqb word (codes ":0") c.strip_suffix.result c.strip_suffix.ensures.cases in
    field_refused word (rw c.in_default.is at no_cell) (rw c.in_default-strip_prefix.is at no_weak)
    c.in-Some-strip_suffix.slot.now 0 (omega arith) (rw c.in-Some-strip_suffix.is at is)
    c.from_residual.result c.in_err-parse_slot.field-0.0 c.from_residual.ensures.1 c.in_err-parse_slot.ensures

pub returns-in-Some-strip_suffix-2 : goal.returns-in-Some-strip_suffix-2
returns-in-Some-strip_suffix-2 c =
    let word = c.args.word.now in
    let is = strip_suffix_is Decides-eqb word (codes ":1") c.strip_suffix-2.result c.strip_suffix-2.ensures.cases in
    field_spelled word c.in-Some-strip_suffix-2.slot.now 1 (omega arith) (rw c.in-Some-strip_suffix-2.is at is)
    c.in_ok-parse_slot-2.field-0 c.in_ok-parse_slot-2.ensures

pub returns-in_err-parse_slot-2 : goal.returns-in_err-parse_slot-2
returns-in_err-parse_slot-2 c =
    let word = c.args.word.now in
    let no_cell = strip_prefix_is Decides-eqb word (codes "@") c.strip_prefix.result c.strip_prefix.ensures.cases in
    let no_weak = strip_prefix_is Decides-eqb word (codes "~") c.strip_prefix-2.result c.strip_prefix-2.ensures.cases in
    let is = strip_suffix_is Decides-eqb word (codes ":1") c.strip_suffix-2.result c.strip_suffix-2.ensures.cases in
    field_refused word (rw c.in_default.is at no_cell) (rw c.in_default-strip_prefix.is at no_weak)
    c.in-Some-strip_suffix-2.slot.now 1 (omega arith) (rw c.in-Some-strip_suffix-2.is at is)
    c.from_residual-in_err-parse_slot-2.result c.in_err-parse_slot-2.field-0.0 c.from_residual-in_err-parse_slot-2.ensures.1 c.in_err-parse_slot-2.ensures

pub returns-in-Some-strip_suffix-3 : goal.returns-in-Some-strip_suffix-3
returns-in-Some-strip_suffix-3 c =
    let word = c.args.word.now in
    let no_cell = strip_prefix_is Decides-eqb word (codes "@") c.strip_prefix.result c.strip_prefix.ensures.cases in
    let no_weak = strip_prefix_is Decides-eqb word (codes "~") c.strip_prefix-2.result c.strip_prefix-2.ensures.cases in
    let is = strip_suffix_is Decides-eqb word (codes ":w") c.strip_suffix-3.result c.strip_suffix-3.ensures.cases in
    weak_field_reads word (rw c.in_default.is at no_cell) (rw c.in_default-strip_prefix.is at no_weak)
    c.in-Some-strip_suffix-3.slot.now (rw c.in-Some-strip_suffix-3.is at is)
    c.parse_slot-in-Some-strip_suffix-3.result c.map-in-Some-strip_suffix-3.result c.map-in-Some-strip_suffix-3.ensures.cases
    c.parse_slot-in-Some-strip_suffix-3.ensures
