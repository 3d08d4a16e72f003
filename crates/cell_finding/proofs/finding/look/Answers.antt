use Rattle.std.proofs.Common.{◌+◌, ◌*◌, length, ap, ◌∙◌, arith}
use Rattle.std.specs.Prelude.{◌%◌}
use Rattle.directory_law.proofs.Bytes.{text_is}
use Rattle.epoch_domain.specs.epoch_core.declared.shape.EpochShape.{EpochShape}
use Rattle.record_texts.specs.Texts.{parts_after, text_of}
use Rattle.record_texts.proofs.Packed.{is_text_of}
use Rattle.cell_finding.specs.Comparing.{sighted}
use Rattle.cell_finding.proofs.Looks.{looks_then}
use Rattle.cell_finding.proofs.Sighted.{is_none_of}
use Rattle.cell_finding.proofs.Walking.{cell_is, found_later, walk_on, walk_still}
use Rattle.cell_finding.proofs.finding.look.Goals as goal

-- NULL
pub returns-in_default-clause-walked : goal.returns-in_default-clause-walked
returns-in_default-clause-walked c =
    walk_still c.args.domain.now (text_of c.args.sought.now.text.now) c.args.passed 1
    c.args.seat.now c.head_in.new.seat c.head_in.ensures.looks c.requires.at

pub returns-in_default-clause-sights : goal.returns-in_default-clause-sights
returns-in_default-clause-sights c =
    c.head_in.ensures.null (is_none_of c.head_in.result c.in_default.is)
    (text_of c.args.sought.now.text.now) c.args.passed
    (cell_is c.args.domain.now c.args.sought.now.text.now c.args.sought.now.head
    c.args.sought.now.hash c.args.passed c.cell_on-cell.result c.requires.over c.requires.sought
    (c.cell_on-cell.ensures.cell
    ∙ ap (λ (z : EpochShape). (c.args.sought.now.hash + c.args.passed) % z.cells) c.shape.ensures))
    c.requires.at

pub returns-in_default-clause-few : goal.returns-in_default-clause-few
returns-in_default-clause-few c = let few = c.head_in.ensures.looks.few in omega (arith, few)

-- OTHER
pub returns-then-not-has_text-clause-few : goal.returns-then-not-has_text-clause-few
returns-then-not-has_text-clause-few c =
    let first = c.head_in.ensures.looks.few in
    let second = c.has_text.ensures.looks.few in
    omega (arith, first, second)

pub returns-then-not-has_text-clause-learns : goal.returns-then-not-has_text-clause-learns
returns-then-not-has_text-clause-learns c =
    (looks_then 1 c.args.seat.now c.head_in.new.seat c.head_in.ensures.looks
    (16 + 17 * parts_after (length c.args.sought.now.text.now))
    (17 + 17 * parts_after (length c.args.sought.now.text.now)) c.has_text.new.seat (omega arith)
    c.has_text.ensures.looks).learns

pub returns-then-not-has_text-clause-keeps : goal.returns-then-not-has_text-clause-keeps
returns-then-not-has_text-clause-keeps c =
    (looks_then 1 c.args.seat.now c.head_in.new.seat c.head_in.ensures.looks
    (16 + 17 * parts_after (length c.args.sought.now.text.now))
    (17 + 17 * parts_after (length c.args.sought.now.text.now)) c.has_text.new.seat (omega arith)
    c.has_text.ensures.looks).keeps

pub returns-then-not-has_text-clause-walked : goal.returns-then-not-has_text-clause-walked
returns-then-not-has_text-clause-walked c =
    walk_still c.args.domain.now (text_of c.args.sought.now.text.now) c.args.passed
    (16 + 17 * parts_after (length c.args.sought.now.text.now)) c.head_in.new.seat
    c.has_text.new.seat c.has_text.ensures.looks
    (walk_still c.args.domain.now (text_of c.args.sought.now.text.now) c.args.passed 1
    c.args.seat.now c.head_in.new.seat c.head_in.ensures.looks c.requires.at)

pub returns-then-not-has_text-clause-sights : goal.returns-then-not-has_text-clause-sights
returns-then-not-has_text-clause-sights c =
    walk_on c.args.domain.now (text_of c.args.sought.now.text.now) c.args.passed
    c.has_text.new.seat (sighted c.head_in.new.seat).cell
    (returns-then-not-has_text-clause-walked c) c.requires.more
    (c.in-Some.ensures.seen.1
    ∙ cell_is c.args.domain.now c.args.sought.now.text.now c.args.sought.now.head
    c.args.sought.now.hash c.args.passed c.cell_on-cell.result c.requires.over c.requires.sought
    (c.cell_on-cell.ensures.cell
    ∙ ap (λ (z : EpochShape). (c.args.sought.now.hash + c.args.passed) % z.cells) c.shape.ensures))
    (c.has_text.ensures.other c.if-not-has_text.true)

-- THE RECORD
pub note_found-requires-clause-whole : goal.note_found-requires-clause-whole
note_found-requires-clause-whole c = (
  text_of c.args.sought.now.text.now,
  c.has_text.ensures.whole c.if-not-has_text.false,
  text_is c.args.sought.now.text.now (text_of c.args.sought.now.text.now)
      (is_text_of c.args.sought.now.text.now c.requires.sought.sized.0 c.requires.sought.sized.1),
)

pub returns-clause-few : goal.returns-clause-few
returns-clause-few c =
    let first = c.head_in.ensures.looks.few in
    let second = c.has_text.ensures.looks.few in
    let third = c.note_found.ensures.looks.few in
    omega (arith, first, second, third)

pub returns-clause-learns : goal.returns-clause-learns
returns-clause-learns c =
    (looks_then 1 c.args.seat.now c.head_in.new.seat c.head_in.ensures.looks
    (17 + 17 * parts_after (length c.args.sought.now.text.now))
    (18 + 17 * parts_after (length c.args.sought.now.text.now)) c.note_found.new.seat (omega arith)
    (looks_then (16 + 17 * parts_after (length c.args.sought.now.text.now)) c.head_in.new.seat
    c.has_text.new.seat c.has_text.ensures.looks 1
    (17 + 17 * parts_after (length c.args.sought.now.text.now)) c.note_found.new.seat (omega arith)
    c.note_found.ensures.looks)).learns

pub returns-clause-keeps : goal.returns-clause-keeps
returns-clause-keeps c =
    (looks_then 1 c.args.seat.now c.head_in.new.seat c.head_in.ensures.looks
    (17 + 17 * parts_after (length c.args.sought.now.text.now))
    (18 + 17 * parts_after (length c.args.sought.now.text.now)) c.note_found.new.seat (omega arith)
    (looks_then (16 + 17 * parts_after (length c.args.sought.now.text.now)) c.head_in.new.seat
    c.has_text.new.seat c.has_text.ensures.looks 1
    (17 + 17 * parts_after (length c.args.sought.now.text.now)) c.note_found.new.seat (omega arith)
    c.note_found.ensures.looks)).keeps

pub returns-clause-walked : goal.returns-clause-walked
returns-clause-walked c =
    walk_still c.args.domain.now (text_of c.args.sought.now.text.now) c.args.passed 1
    c.has_text.new.seat c.note_found.new.seat c.note_found.ensures.looks
    (walk_still c.args.domain.now (text_of c.args.sought.now.text.now) c.args.passed
    (16 + 17 * parts_after (length c.args.sought.now.text.now)) c.head_in.new.seat
    c.has_text.new.seat c.has_text.ensures.looks
    (walk_still c.args.domain.now (text_of c.args.sought.now.text.now) c.args.passed 1
    c.args.seat.now c.head_in.new.seat c.head_in.ensures.looks c.requires.at))

pub returns-clause-sights : goal.returns-clause-sights
returns-clause-sights c =
    let found = c.note_found.ensures.found (text_of c.args.sought.now.text.now)
    (c.has_text.ensures.whole c.if-not-has_text.false) in (
      found_later c.args.domain.now (text_of c.args.sought.now.text.now) c.in-Some.head 1
          c.args.seat.now c.head_in.new.seat c.note_found.new.seat c.head_in.ensures.looks
          (found_later c.args.domain.now (text_of c.args.sought.now.text.now) c.in-Some.head
          (16 + 17 * parts_after (length c.args.sought.now.text.now)) c.head_in.new.seat
          c.has_text.new.seat c.note_found.new.seat c.has_text.ensures.looks
          found.0),
      found.1,
    )
