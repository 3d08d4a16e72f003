use Rattle.std.proofs.Common.{ℕ, ◌+◌, ◌-◌, ◌*◌, length, ap, subst, arith}
use Rattle.epoch_domain.specs.epoch_core.declared.shape.EpochShape.{EpochShape}
use Rattle.record_texts.specs.Texts.{parts_after, text_of}
use Rattle.cell_finding.specs.Finding.{IsOnWalk}
use Rattle.cell_finding.proofs.Looks.{looked}
use Rattle.cell_finding.proofs.Walking.{around_later, around_looks, null_later, walk_still, way_few, way_goes_on, way_looks}
use Rattle.cell_finding.proofs.finding.seek.Goals as goal

-- NULL
pub returns-in-Null-clause-ends : goal.returns-in-Null-clause-ends
returns-in-Null-clause-ends c =
    let cells = ap (λ (z : EpochShape). z.cells) c.shape-passed-end.ensures in
    let low = c.loop-passed-test.true in (
      c.loop-passed.invariant.behind,
      omega (arith, cells, low),
      null_later c.args.domain.now (text_of c.args.sought.now.text.now) c.loop-passed.passed
          ((c.loop-passed.passed - c.args.from)
          * (18 + 17 * parts_after (length c.args.sought.now.text.now)))
          c.args.seat.now c.loop-passed.seat c.look.new.seat c.loop-passed.invariant.looks
          c.in-Null.ensures.sights,
    )

pub returns-in-Null-clause-learns : goal.returns-in-Null-clause-learns
returns-in-Null-clause-learns c =
    (way_looks c.args.domain.now (text_of c.args.sought.now.text.now)
    (18 + 17 * parts_after (length c.args.sought.now.text.now)) c.args.from c.loop-passed.passed
    c.args.seat.now c.loop-passed.seat c.look.new.seat c.loop-passed.invariant
    (looked (18 + 17 * parts_after (length c.args.sought.now.text.now)) c.loop-passed.seat
    c.look.new.seat c.look.ensures.keeps c.look.ensures.learns c.look.ensures.few)).learns

pub returns-in-Null-clause-keeps : goal.returns-in-Null-clause-keeps
returns-in-Null-clause-keeps c =
    (way_looks c.args.domain.now (text_of c.args.sought.now.text.now)
    (18 + 17 * parts_after (length c.args.sought.now.text.now)) c.args.from c.loop-passed.passed
    c.args.seat.now c.loop-passed.seat c.look.new.seat c.loop-passed.invariant
    (looked (18 + 17 * parts_after (length c.args.sought.now.text.now)) c.loop-passed.seat
    c.look.new.seat c.look.ensures.keeps c.look.ensures.learns c.look.ensures.few)).keeps

pub returns-in-Null-clause-few : goal.returns-in-Null-clause-few
returns-in-Null-clause-few c =
    let cells = c.shape-passed-end.ensures in
    let low = c.loop-passed-test.true in
    let few = way_few c.args.domain.now (text_of c.args.sought.now.text.now)
    (18 + 17 * parts_after (length c.args.sought.now.text.now)) c.args.from c.loop-passed.passed
    c.args.seat.now c.loop-passed.seat c.look.new.seat c.loop-passed.invariant
    (looked (18 + 17 * parts_after (length c.args.sought.now.text.now)) c.loop-passed.seat
    c.look.new.seat c.look.ensures.keeps c.look.ensures.learns c.look.ensures.few)
    c.args.domain.now.shape.cells (omega (arith, ap (λ (z : EpochShape). z.cells) cells, low)) in
    omega (arith, few)

pub returns-in-Null-clause-walked : goal.returns-in-Null-clause-walked
returns-in-Null-clause-walked c =
    walk_still c.args.domain.now (text_of c.args.sought.now.text.now) c.args.from
    ((c.loop-passed.passed + 1 - c.args.from)
    * (18 + 17 * parts_after (length c.args.sought.now.text.now)))
    c.args.seat.now c.look.new.seat
    (way_looks c.args.domain.now (text_of c.args.sought.now.text.now)
    (18 + 17 * parts_after (length c.args.sought.now.text.now)) c.args.from c.loop-passed.passed
    c.args.seat.now c.loop-passed.seat c.look.new.seat c.loop-passed.invariant
    (looked (18 + 17 * parts_after (length c.args.sought.now.text.now)) c.loop-passed.seat
    c.look.new.seat c.look.ensures.keeps c.look.ensures.learns c.look.ensures.few))
    c.requires.at

-- RECORD
pub returns-in-Record-clause-learns : goal.returns-in-Record-clause-learns
returns-in-Record-clause-learns c =
    (way_looks c.args.domain.now (text_of c.args.sought.now.text.now)
    (18 + 17 * parts_after (length c.args.sought.now.text.now)) c.args.from c.loop-passed.passed
    c.args.seat.now c.loop-passed.seat c.look.new.seat c.loop-passed.invariant
    (looked (18 + 17 * parts_after (length c.args.sought.now.text.now)) c.loop-passed.seat
    c.look.new.seat c.look.ensures.keeps c.look.ensures.learns c.look.ensures.few)).learns

pub returns-in-Record-clause-keeps : goal.returns-in-Record-clause-keeps
returns-in-Record-clause-keeps c =
    (way_looks c.args.domain.now (text_of c.args.sought.now.text.now)
    (18 + 17 * parts_after (length c.args.sought.now.text.now)) c.args.from c.loop-passed.passed
    c.args.seat.now c.loop-passed.seat c.look.new.seat c.loop-passed.invariant
    (looked (18 + 17 * parts_after (length c.args.sought.now.text.now)) c.loop-passed.seat
    c.look.new.seat c.look.ensures.keeps c.look.ensures.learns c.look.ensures.few)).keeps

pub returns-in-Record-clause-few : goal.returns-in-Record-clause-few
returns-in-Record-clause-few c =
    let cells = c.shape-passed-end.ensures in
    let low = c.loop-passed-test.true in
    let few = way_few c.args.domain.now (text_of c.args.sought.now.text.now)
    (18 + 17 * parts_after (length c.args.sought.now.text.now)) c.args.from c.loop-passed.passed
    c.args.seat.now c.loop-passed.seat c.look.new.seat c.loop-passed.invariant
    (looked (18 + 17 * parts_after (length c.args.sought.now.text.now)) c.loop-passed.seat
    c.look.new.seat c.look.ensures.keeps c.look.ensures.learns c.look.ensures.few)
    c.args.domain.now.shape.cells (omega (arith, ap (λ (z : EpochShape). z.cells) cells, low)) in
    omega (arith, few)

pub returns-in-Record-clause-walked : goal.returns-in-Record-clause-walked
returns-in-Record-clause-walked c =
    walk_still c.args.domain.now (text_of c.args.sought.now.text.now) c.args.from
    ((c.loop-passed.passed + 1 - c.args.from)
    * (18 + 17 * parts_after (length c.args.sought.now.text.now)))
    c.args.seat.now c.look.new.seat
    (way_looks c.args.domain.now (text_of c.args.sought.now.text.now)
    (18 + 17 * parts_after (length c.args.sought.now.text.now)) c.args.from c.loop-passed.passed
    c.args.seat.now c.loop-passed.seat c.look.new.seat c.loop-passed.invariant
    (looked (18 + 17 * parts_after (length c.args.sought.now.text.now)) c.loop-passed.seat
    c.look.new.seat c.look.ensures.keeps c.look.ensures.learns c.look.ensures.few))
    c.requires.at

-- ON
pub loop-passed-preserved : goal.loop-passed-preserved
loop-passed-preserved c =
    way_goes_on c.args.domain.now (text_of c.args.sought.now.text.now)
    (18 + 17 * parts_after (length c.args.sought.now.text.now)) c.args.from c.loop-passed.passed
    c.args.seat.now c.loop-passed.seat c.look.new.seat c.loop-passed.invariant
    (looked (18 + 17 * parts_after (length c.args.sought.now.text.now)) c.loop-passed.seat
    c.look.new.seat c.look.ensures.keeps c.look.ensures.learns c.look.ensures.few)
    c.look.ensures.rest c.in-Other.ensures.sights

-- AROUND
pub returns-clause-ends : goal.returns-clause-ends
returns-clause-ends c =
    let cells = ap (λ (z : EpochShape). z.cells) c.shape-passed-end.ensures in
    let high = c.loop-passed-test.false in
    let end = c.loop-passed.auto.passed-end in
    around_later c.args.domain.now (text_of c.args.sought.now.text.now)
    ((c.loop-passed.passed - c.args.from)
    * (18 + 17 * parts_after (length c.args.sought.now.text.now)))
    c.args.seat.now c.loop-passed.seat c.head_in.new.seat c.loop-passed.invariant.looks
    (c.head_in.ensures.around (text_of c.args.sought.now.text.now)
    (subst (λ (n : ℕ). IsOnWalk c.args.domain.now (text_of c.args.sought.now.text.now) n
    c.loop-passed.seat) (omega (arith, cells, high, end)) c.loop-passed.invariant.walk))

pub returns-clause-learns : goal.returns-clause-learns
returns-clause-learns c =
    (around_looks c.args.domain.now (text_of c.args.sought.now.text.now)
    (18 + 17 * parts_after (length c.args.sought.now.text.now)) c.args.from c.loop-passed.passed
    c.args.seat.now c.loop-passed.seat c.head_in.new.seat c.loop-passed.invariant
    c.head_in.ensures.looks).learns

pub returns-clause-keeps : goal.returns-clause-keeps
returns-clause-keeps c =
    (around_looks c.args.domain.now (text_of c.args.sought.now.text.now)
    (18 + 17 * parts_after (length c.args.sought.now.text.now)) c.args.from c.loop-passed.passed
    c.args.seat.now c.loop-passed.seat c.head_in.new.seat c.loop-passed.invariant
    c.head_in.ensures.looks).keeps

pub returns-clause-few : goal.returns-clause-few
returns-clause-few c =
    (around_looks c.args.domain.now (text_of c.args.sought.now.text.now)
    (18 + 17 * parts_after (length c.args.sought.now.text.now)) c.args.from c.loop-passed.passed
    c.args.seat.now c.loop-passed.seat c.head_in.new.seat c.loop-passed.invariant
    c.head_in.ensures.looks).few

pub returns-clause-walked : goal.returns-clause-walked
returns-clause-walked c =
    walk_still c.args.domain.now (text_of c.args.sought.now.text.now) c.args.from
    ((c.args.domain.now.shape.cells - c.args.from)
    * (18 + 17 * parts_after (length c.args.sought.now.text.now)) + 1)
    c.args.seat.now c.head_in.new.seat
    (around_looks c.args.domain.now (text_of c.args.sought.now.text.now)
    (18 + 17 * parts_after (length c.args.sought.now.text.now)) c.args.from c.loop-passed.passed
    c.args.seat.now c.loop-passed.seat c.head_in.new.seat c.loop-passed.invariant
    c.head_in.ensures.looks) c.requires.at
