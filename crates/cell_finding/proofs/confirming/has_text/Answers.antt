use Rattle.std.proofs.Common.{◌+◌, ◌*◌, sym, ◌∙◌, arith}
use Rattle.directory_law.proofs.Kit.{false≢true}
use Rattle.cell_finding.proofs.Along.{holds_last}
use Rattle.cell_finding.proofs.Looks.{looks_wider}
use Rattle.cell_finding.proofs.Matching.{all_matched, head_differs, head_same, more_follows, part_differs, part_read_looks, part_same, parts_are, read_looks}
use Rattle.cell_finding.proofs.confirming.has_text.Goals as goal

pub returns-then-not-is_payload-clause-other : goal.returns-then-not-is_payload-clause-other
returns-then-not-is_payload-clause-other c is =
    head_differs _ c.args.domain.now c.is_payload.ensures.goes.0 c.args.sought.now.text.now
    c.args.sought.now.head c.args.sought.now.hash c.requires.sought c.args.head c.args.seat.now
    c.is_payload.new.seat c.requires.along c.requires.one (c.is_payload.ensures.goes.1, c.is_payload.ensures.goes.2)
    c.is_payload.ensures.rest
    (λ same. false≢true (sym c.if-not-is_payload.true ∙ c.is_payload.ensures.same.1 same))

pub returns-then-not-is_payload-clause-looks : goal.returns-then-not-is_payload-clause-looks
returns-then-not-is_payload-clause-looks c =
    looks_wider 16 c.args.seat.now c.is_payload.new.seat
    (read_looks _ c.args.domain.now c.is_payload.ensures.goes.0 c.args.head c.args.head
    c.args.seat.now c.is_payload.new.seat c.requires.along
    (c.is_payload.ensures.goes.1, c.is_payload.ensures.goes.2)) _ (omega arith)

pub loop-part-init : goal.loop-part-init
loop-part-init c =
    head_same _ c.args.domain.now c.is_payload.ensures.goes.0 c.args.sought.now.text.now
    c.args.sought.now.head c.args.sought.now.hash c.requires.sought c.args.head c.args.seat.now
    c.is_payload.new.seat c.requires.along c.requires.one (c.is_payload.ensures.goes.1, c.is_payload.ensures.goes.2)
    c.is_payload.ensures.rest (c.is_payload.ensures.same.0 c.if-not-is_payload.false)

pub part_behind-last-requires-clause-more : goal.part_behind-last-requires-clause-more
part_behind-last-requires-clause-more c =
    let some = c.requires.sought.sized.0 in
    let low = c.loop-part-test.true in
    more_follows c.args.domain.now c.args.sought.now.text.now c.loop-part.part c.args.head
    c.loop-part.last c.args.seat.now c.loop-part.seat c.loop-part.invariant
    (omega (arith, some, low)) some c.requires.sought.sized.1

pub is_payload-requires-in-loop-part-clause-held : goal.is_payload-requires-in-loop-part-clause-held
is_payload-requires-in-loop-part-clause-held c =
    holds_last c.args.head c.part_behind-last.result c.part_behind-last.new.seat
    c.part_behind-last.ensures.goes.along

pub returns-then-not-is_payload-2-clause-other : goal.returns-then-not-is_payload-2-clause-other
returns-then-not-is_payload-2-clause-other c is =
    let some = c.requires.sought.sized.0 in
    let low = c.loop-part-test.true in
    part_differs c.args.domain.now c.args.sought.now.text.now c.loop-part.part c.args.head
    c.loop-part.last c.args.seat.now c.loop-part.seat c.loop-part.invariant
    (omega (arith, some, low)) _ c.is_payload-in-loop-part.ensures.goes.0 c.part_behind-last.result
    c.part_behind-last.new.seat c.is_payload-in-loop-part.new.seat c.part_behind-last.ensures.goes
    (c.is_payload-in-loop-part.ensures.goes.1, c.is_payload-in-loop-part.ensures.goes.2)
    c.is_payload-in-loop-part.ensures.rest
    (λ same. false≢true (sym c.if-not-is_payload-2.true
    ∙ c.is_payload-in-loop-part.ensures.same.1 (same ∙ sym c.part_at.ensures)))

pub returns-then-not-is_payload-2-clause-looks : goal.returns-then-not-is_payload-2-clause-looks
returns-then-not-is_payload-2-clause-looks c =
    let some = c.requires.sought.sized.0 in
    let low = c.loop-part-test.true in
    part_read_looks c.args.domain.now c.args.sought.now.text.now c.loop-part.part c.args.head
    c.loop-part.last c.args.seat.now c.loop-part.seat c.loop-part.invariant
    (omega (arith, some, low)) _ c.is_payload-in-loop-part.ensures.goes.0 c.part_behind-last.result
    c.part_behind-last.new.seat c.is_payload-in-loop-part.new.seat c.part_behind-last.ensures.goes
    (c.is_payload-in-loop-part.ensures.goes.1, c.is_payload-in-loop-part.ensures.goes.2)
    c.is_payload-in-loop-part.ensures.rest

pub loop-part-preserved : goal.loop-part-preserved
loop-part-preserved c =
    let some = c.requires.sought.sized.0 in
    let low = c.loop-part-test.true in
    part_same c.args.domain.now c.args.sought.now.text.now c.loop-part.part c.args.head
    c.loop-part.last c.args.seat.now c.loop-part.seat c.loop-part.invariant
    (omega (arith, some, low)) _ c.is_payload-in-loop-part.ensures.goes.0 c.part_behind-last.result
    c.part_behind-last.new.seat c.is_payload-in-loop-part.new.seat c.part_behind-last.ensures.goes
    (c.is_payload-in-loop-part.ensures.goes.1, c.is_payload-in-loop-part.ensures.goes.2)
    c.is_payload-in-loop-part.ensures.rest
    (c.is_payload-in-loop-part.ensures.same.0 c.if-not-is_payload-2.false ∙ c.part_at.ensures)

pub returns-clause-looks : goal.returns-clause-looks
returns-clause-looks c =
    let some = c.requires.sought.sized.0 in
    let high = c.loop-part-test.false in
    let end = c.loop-part.auto.part-end in
    looks_wider (16 + 17 * c.loop-part.part) c.args.seat.now c.loop-part.seat
    c.loop-part.invariant.looks _ (omega (arith, some, high, end))

pub returns-clause-whole : goal.returns-clause-whole
returns-clause-whole c is =
    let some = c.requires.sought.sized.0 in
    let high = c.loop-part-test.false in
    let end = c.loop-part.auto.part-end in
    all_matched c.args.domain.now c.args.sought.now.text.now c.loop-part.part c.args.head
    c.loop-part.last c.args.seat.now c.loop-part.seat c.loop-part.invariant
    (parts_are _ c.loop-part.part some (omega (arith, some, high, end)))
