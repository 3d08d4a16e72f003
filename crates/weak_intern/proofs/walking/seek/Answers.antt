use Rattle.weak_intern.proofs.Sights.{free_still}
use Rattle.std.proofs.Common.{arith, ◌∙◌, ◌+◌, ◌≤◌, length, None}
use Rattle.std.proofs.lemmas.Result.{err_from_is_err_and}
use Rattle.record_making.specs.directory_calls.Directories.{area_of}
use Rattle.record_making.specs.Texts.{text_of}
use Rattle.weak_intern.proofs.Found.{around_found, at_cell, null_found, null_leaves, other_passed, record_costs, record_found, record_leaves, refused_learns, refused_leaves, walk_leaves, walks_none}
use Rattle.record_making.proofs.Below.directory_calls_Parts.{place_of}
use Rattle.weak_intern.proofs.walking.seek.Goals as goal

pub returns-in_err-look-clause-learns : goal.returns-in_err-look-clause-learns
returns-in_err-look-clause-learns g c =
    let p = err_from_is_err_and c.from_residual.result c.from_residual.ensures.1 in
    refused_learns c.args.domain.now
    (place_of g.P.Part.seen g.P.Part.with_seen g.P.Part.reads g.P.Part.puts_back
    g.P.Part.puts_over)
    (area_of (g.P.Part.part c.args.domain.now.protocol)) (text_of c.args.sought.now.text.now)
    c.args.sought.now.head (length c.args.sought.now.text.now ≤ 120) c.args.seat.now
    c.loop-passed.passed c.loop-passed.seat
    c.look.new.seat c.loop-passed.invariant c.args.intern c.from_residual.result p.0 p.1
    c.in_err-look.ensures.learns

pub returns-in-Null-clause-comes : goal.returns-in-Null-clause-comes
returns-in-Null-clause-comes g c =
    (null_found c.args.domain.now
    (place_of g.P.Part.seen g.P.Part.with_seen g.P.Part.reads g.P.Part.puts_back
    g.P.Part.puts_over)
    (area_of (g.P.Part.part c.args.domain.now.protocol)) (text_of c.args.sought.now.text.now)
    c.args.sought.now.head (length c.args.sought.now.text.now ≤ 120) c.args.seat.now
    c.loop-passed.passed c.loop-passed.seat
    c.look.new.seat c.loop-passed.invariant c.args.intern c.cell_on-cell.result
    c.in_ok-look.field-0 c.in-Null.is
    (at_cell (area_of (g.P.Part.part c.args.domain.now.protocol)) (text_of
    c.args.sought.now.text.now)
    c.args.sought.now.hash c.loop-passed.passed c.args.directory.now.cells c.cell_on-cell.result
    c.requires.sought.place c.requires.over.cells c.cell_on-cell.ensures.cell)
    c.in_ok-look.ensures.meets c.in_ok-look.ensures.learns
    (omega (arith, c.loop-passed-test.true, c.requires.over.cells))).0

pub returns-in-Null-clause-leaves : goal.returns-in-Null-clause-leaves
returns-in-Null-clause-leaves g c =
    null_leaves c.args.domain.now
    (place_of g.P.Part.seen g.P.Part.with_seen g.P.Part.reads g.P.Part.puts_back
    g.P.Part.puts_over)
    (area_of (g.P.Part.part c.args.domain.now.protocol)) (text_of c.args.sought.now.text.now)
    c.args.sought.now.head (length c.args.sought.now.text.now ≤ 120) c.args.seat.now
    c.loop-passed.passed c.loop-passed.seat
    c.look.new.seat c.loop-passed.invariant c.in_ok-look.field-0 c.in-Null.is
    c.in_ok-look.ensures.leaves

pub returns-in-Null-clause-learns : goal.returns-in-Null-clause-learns
returns-in-Null-clause-learns g c =
    (null_found c.args.domain.now
    (place_of g.P.Part.seen g.P.Part.with_seen g.P.Part.reads g.P.Part.puts_back
    g.P.Part.puts_over)
    (area_of (g.P.Part.part c.args.domain.now.protocol)) (text_of c.args.sought.now.text.now)
    c.args.sought.now.head (length c.args.sought.now.text.now ≤ 120) c.args.seat.now
    c.loop-passed.passed c.loop-passed.seat
    c.look.new.seat c.loop-passed.invariant c.args.intern c.cell_on-cell.result
    c.in_ok-look.field-0 c.in-Null.is
    (at_cell (area_of (g.P.Part.part c.args.domain.now.protocol)) (text_of
    c.args.sought.now.text.now)
    c.args.sought.now.hash c.loop-passed.passed c.args.directory.now.cells c.cell_on-cell.result
    c.requires.sought.place c.requires.over.cells c.cell_on-cell.ensures.cell)
    c.in_ok-look.ensures.meets c.in_ok-look.ensures.learns
    (omega (arith, c.loop-passed-test.true, c.requires.over.cells))).1

pub returns-in-Record-clause-comes : goal.returns-in-Record-clause-comes
returns-in-Record-clause-comes g c =
    (record_found c.args.domain.now
    (place_of g.P.Part.seen g.P.Part.with_seen g.P.Part.reads g.P.Part.puts_back
    g.P.Part.puts_over)
    (area_of (g.P.Part.part c.args.domain.now.protocol)) (text_of c.args.sought.now.text.now)
    c.args.sought.now.head (length c.args.sought.now.text.now ≤ 120) c.args.seat.now
    c.loop-passed.passed c.loop-passed.seat
    c.look.new.seat c.loop-passed.invariant c.args.intern c.cell_on-cell.result
    c.in_ok-look.field-0 c.in-Record.strong c.in-Record.is c.in_ok-look.ensures.meets
    c.in_ok-look.ensures.learns).0

pub returns-in-Record-clause-leaves : goal.returns-in-Record-clause-leaves
returns-in-Record-clause-leaves g c =
    record_leaves c.args.domain.now
    (place_of g.P.Part.seen g.P.Part.with_seen g.P.Part.reads g.P.Part.puts_back
    g.P.Part.puts_over)
    (area_of (g.P.Part.part c.args.domain.now.protocol)) (text_of c.args.sought.now.text.now)
    c.args.sought.now.head (length c.args.sought.now.text.now ≤ 120) c.args.seat.now
    c.loop-passed.passed c.loop-passed.seat
    c.look.new.seat c.loop-passed.invariant c.in_ok-look.field-0 c.in-Record.strong c.in-Record.is
    c.in_ok-look.ensures.leaves

pub returns-in-Record-clause-learns : goal.returns-in-Record-clause-learns
returns-in-Record-clause-learns g c =
    (record_found c.args.domain.now
    (place_of g.P.Part.seen g.P.Part.with_seen g.P.Part.reads g.P.Part.puts_back
    g.P.Part.puts_over)
    (area_of (g.P.Part.part c.args.domain.now.protocol)) (text_of c.args.sought.now.text.now)
    c.args.sought.now.head (length c.args.sought.now.text.now ≤ 120) c.args.seat.now
    c.loop-passed.passed c.loop-passed.seat
    c.look.new.seat c.loop-passed.invariant c.args.intern c.cell_on-cell.result
    c.in_ok-look.field-0 c.in-Record.strong c.in-Record.is c.in_ok-look.ensures.meets
    c.in_ok-look.ensures.learns).1

pub loop-passed-preserved : goal.loop-passed-preserved
loop-passed-preserved g c =
    other_passed c.args.domain.now
    (place_of g.P.Part.seen g.P.Part.with_seen g.P.Part.reads g.P.Part.puts_back
    g.P.Part.puts_over)
    (area_of (g.P.Part.part c.args.domain.now.protocol)) (text_of c.args.sought.now.text.now)
    c.args.sought.now.head (length c.args.sought.now.text.now ≤ 120) c.args.seat.now
    c.loop-passed.passed c.loop-passed.seat
    c.look.new.seat c.loop-passed.invariant c.args.intern c.cell_on-cell.result
    c.in_ok-look.field-0 c.in-Other.is
    (at_cell (area_of (g.P.Part.part c.args.domain.now.protocol)) (text_of
    c.args.sought.now.text.now)
    c.args.sought.now.hash c.loop-passed.passed c.args.directory.now.cells c.cell_on-cell.result
    c.requires.sought.place c.requires.over.cells c.cell_on-cell.ensures.cell)
    c.in_ok-look.ensures.meets c.in_ok-look.ensures.leaves c.in_ok-look.ensures.learns
    c.look.ensures.room c.look.ensures.rest c.look.ensures.makes c.look.ensures.adds
    ((g.P.Part.part c.args.domain.now.protocol).first + c.cell_on-cell.result) c.in_ok-look.ensures.looks

pub returns-clause-comes : goal.returns-clause-comes
returns-clause-comes g c =
    around_found c.args.domain.now
    (place_of g.P.Part.seen g.P.Part.with_seen g.P.Part.reads g.P.Part.puts_back
    g.P.Part.puts_over)
    (area_of (g.P.Part.part c.args.domain.now.protocol)) (text_of c.args.sought.now.text.now)
    c.args.sought.now.head (length c.args.sought.now.text.now ≤ 120) c.args.seat.now
    c.loop-passed.passed c.loop-passed.seat
    c.come_around.new.seat c.loop-passed.invariant
    (omega (arith, c.loop-passed-test.false, c.requires.over.cells))
    (omega (arith, c.requires.over.some_cells, c.requires.over.cells)) c.come_around.ensures.ends

pub returns-in_err-look-clause-makes : goal.returns-in_err-look-clause-makes
returns-in_err-look-clause-makes g c =
    c.look.ensures.makes ∙ c.loop-passed.invariant.makes

pub returns-in-Null-clause-makes : goal.returns-in-Null-clause-makes
returns-in-Null-clause-makes g c =
    c.look.ensures.makes ∙ c.loop-passed.invariant.makes

pub returns-in-Record-clause-makes : goal.returns-in-Record-clause-makes
returns-in-Record-clause-makes g c =
    c.look.ensures.makes ∙ c.loop-passed.invariant.makes

pub returns-clause-makes : goal.returns-clause-makes
returns-clause-makes g c =
    c.come_around.ensures.makes ∙ c.loop-passed.invariant.makes

pub look-requires-clause-free : goal.look-requires-clause-free
look-requires-clause-free g c =
    free_still c.args.seat.now c.loop-passed.seat c.loop-passed.invariant.leaves.same
    c.requires.free

pub returns-in_err-look-clause-leaves : goal.returns-in_err-look-clause-leaves
returns-in_err-look-clause-leaves g c =
    let p = err_from_is_err_and c.from_residual.result c.from_residual.ensures.1 in
    refused_leaves c.args.domain.now
    (place_of g.P.Part.seen g.P.Part.with_seen g.P.Part.reads g.P.Part.puts_back
    g.P.Part.puts_over)
    (area_of (g.P.Part.part c.args.domain.now.protocol)) (text_of c.args.sought.now.text.now)
    c.args.sought.now.head (length c.args.sought.now.text.now ≤ 120) c.args.seat.now
    c.loop-passed.passed c.loop-passed.seat
    c.look.new.seat c.loop-passed.invariant c.from_residual.result p.0 p.1
    c.in_err-look.ensures.leaves

pub returns-clause-leaves : goal.returns-clause-leaves
returns-clause-leaves g c =
    walk_leaves c.args.domain.now
    (place_of g.P.Part.seen g.P.Part.with_seen g.P.Part.reads g.P.Part.puts_back
    g.P.Part.puts_over)
    (area_of (g.P.Part.part c.args.domain.now.protocol)) (text_of c.args.sought.now.text.now)
    c.args.sought.now.head (length c.args.sought.now.text.now ≤ 120) c.args.seat.now
    c.loop-passed.passed c.loop-passed.seat
    c.come_around.new.seat c.loop-passed.invariant None c.come_around.ensures.leaves

pub returns-in-Record-clause-costs : goal.returns-in-Record-clause-costs
returns-in-Record-clause-costs g c =
    record_costs c.args.domain.now
    (place_of g.P.Part.seen g.P.Part.with_seen g.P.Part.reads g.P.Part.puts_back
    g.P.Part.puts_over)
    (area_of (g.P.Part.part c.args.domain.now.protocol)) (text_of c.args.sought.now.text.now)
    c.args.sought.now.head (length c.args.sought.now.text.now ≤ 120) c.args.seat.now
    c.loop-passed.passed c.loop-passed.seat
    c.look.new.seat c.loop-passed.invariant
    ((g.P.Part.part c.args.domain.now.protocol).first + c.cell_on-cell.result)
    c.in_ok-look.field-0 c.in-Record.strong c.in-Record.is c.in_ok-look.ensures.looks

pub loop-passed-init : goal.loop-passed-init
loop-passed-init g c =
    walks_none c.args.domain.now
    (place_of g.P.Part.seen g.P.Part.with_seen g.P.Part.reads g.P.Part.puts_back
    g.P.Part.puts_over)
    (area_of (g.P.Part.part c.args.domain.now.protocol)) (text_of c.args.sought.now.text.now)
    c.args.sought.now.head (length c.args.sought.now.text.now ≤ 120) c.args.seat.now c.requires.rest c.requires.room

pub returns-in_err-look-clause-adds : goal.returns-in_err-look-clause-adds
returns-in_err-look-clause-adds g c =
    omega (arith, c.look.ensures.adds, c.loop-passed.invariant.adds, c.loop-passed-test.true)

pub returns-in-Null-clause-adds : goal.returns-in-Null-clause-adds
returns-in-Null-clause-adds g c =
    omega (arith, c.look.ensures.adds, c.loop-passed.invariant.adds, c.loop-passed-test.true)

pub returns-in-Record-clause-adds : goal.returns-in-Record-clause-adds
returns-in-Record-clause-adds g c =
    omega (arith, c.look.ensures.adds, c.loop-passed.invariant.adds, c.loop-passed-test.true)

pub returns-clause-adds : goal.returns-clause-adds
returns-clause-adds g c =
    omega (
      arith,
      c.come_around.ensures.adds,
      c.loop-passed.invariant.adds,
      c.loop-passed-test.false,
      c.loop-passed.auto.passed-end,
    )
