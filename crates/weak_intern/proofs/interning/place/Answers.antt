use Rattle.std.proofs.Common.{ap, arith, ◌+◌, ◌∙◌, None, refl, subst, sym}
use Rattle.std.specs.Prelude.{Ok}
use Rattle.std.proofs.lemmas.Result.{err_from_is_err_and}
use Rattle.record_making.specs.directory_calls.Directories.{area_of}
use Rattle.record_making.proofs.Below.directory_calls_Parts.{place_of}
use Rattle.record_making.specs.Texts.{text_of}
use Rattle.weak_intern.specs.Races.{IsWhyShort}
use Rattle.weak_intern.proofs.Found.{at_cell}
use Rattle.weak_intern.proofs.Placed.{bound_knows, bound_places, comes_by, enter_leaves, enters_lost, enters_none, enters_short, found_knows, found_places, not_bound, null_on, other_on, record_leaves, refused_grows, refused_leaves, same_learns}
use Rattle.weak_intern.proofs.Races.{race_before, race_of}
use Rattle.weak_intern.proofs.Sights.{free_still}
use Rattle.weak_intern.proofs.interning.place.Goals as goal

pub loop-init : goal.loop-init
loop-init g c = (
  tt,
  tt,
  enters_none c.args.domain.now
      (place_of g.P.Part.seen g.P.Part.with_seen g.P.Part.reads g.P.Part.puts_back
      g.P.Part.puts_over)
      (area_of (g.P.Part.part c.args.domain.now.protocol)) (text_of c.args.sought.now.text.now)
      c.args.candidate.now.slot c.args.seat.now
      c.args.from c.requires.passed c.requires.quota c.requires.owned c.requires.noted
      c.requires.room c.requires.rest,
)

pub look-requires-clause-free : goal.look-requires-clause-free
look-requires-clause-free g c =
    free_still c.args.seat.now c.loop.seat c.loop.invariant.2.leaves.same c.requires.free

pub bind-requires-clause-comes : goal.bind-requires-clause-comes
bind-requires-clause-comes g c =
    comes_by c.args.domain.now
    (place_of g.P.Part.seen g.P.Part.with_seen g.P.Part.reads g.P.Part.puts_back
    g.P.Part.puts_over)
    (area_of (g.P.Part.part c.args.domain.now.protocol)) (text_of c.args.sought.now.text.now)
    c.args.candidate.now.slot c.args.seat.now c.loop.passed
    c.look.new.seat
    (null_on c.args.domain.now
    (place_of g.P.Part.seen g.P.Part.with_seen g.P.Part.reads g.P.Part.puts_back
    g.P.Part.puts_over)
    (area_of (g.P.Part.part c.args.domain.now.protocol)) (text_of c.args.sought.now.text.now)
    c.args.candidate.now.slot c.args.seat.now c.loop.passed
    c.loop.seat c.loop.invariant.2 c.look.new.seat
    ((g.P.Part.part c.args.domain.now.protocol).first + c.cell_on-cell.result) c.in_ok-look.field-0
    c.in-Null.is (c.in_ok-look.ensures.null (ap Ok c.in-Null.is)) c.in_ok-look.ensures.leaves
    c.in_ok-look.ensures.learns c.look.ensures.makes c.look.ensures.room c.look.ensures.rest)
    c.cell_on-cell.result (at_cell (area_of (g.P.Part.part c.args.domain.now.protocol)) (text_of
    c.args.sought.now.text.now)
    c.args.sought.now.hash c.loop.passed c.args.directory.now.cells c.cell_on-cell.result
    c.requires.sought.place c.requires.over.cells c.cell_on-cell.ensures.cell)

pub returns-in_err-look-clause-leaves : goal.returns-in_err-look-clause-leaves
returns-in_err-look-clause-leaves g c =
    let p = err_from_is_err_and c.from_residual.result c.from_residual.ensures.1 in
    refused_leaves c.args.domain.now
    (place_of g.P.Part.seen g.P.Part.with_seen g.P.Part.reads g.P.Part.puts_back
    g.P.Part.puts_over)
    (area_of (g.P.Part.part c.args.domain.now.protocol)) (text_of c.args.sought.now.text.now)
    c.args.candidate.now.slot c.args.seat.now c.loop.passed
    c.loop.seat c.loop.invariant.2 c.look.new.seat
    c.from_residual.result p.0 p.1 c.in_err-look.ensures.leaves

pub returns-in_err-look-clause-grows : goal.returns-in_err-look-clause-grows
returns-in_err-look-clause-grows g c =
    let p = err_from_is_err_and c.from_residual.result c.from_residual.ensures.1 in
    refused_grows c.args.domain.now
    (place_of g.P.Part.seen g.P.Part.with_seen g.P.Part.reads g.P.Part.puts_back
    g.P.Part.puts_over)
    (area_of (g.P.Part.part c.args.domain.now.protocol)) (text_of c.args.sought.now.text.now)
    c.args.candidate.now.slot c.args.seat.now c.loop.passed
    c.loop.seat c.loop.invariant.2 c.look.new.seat
    c.from_residual.result p.0 p.1 c.in_err-look.ensures.learns

pub returns-in_err-look-clause-short : goal.returns-in_err-look-clause-short
returns-in_err-look-clause-short g c =
    λ err. subst (λ k. IsWhyShort k c.args.seat.now.view.core c.look.new.seat.view.core)
    (sym c.requires.over.cells)
    (enters_short c.args.domain.now
    (place_of g.P.Part.seen g.P.Part.with_seen g.P.Part.reads g.P.Part.puts_back
    g.P.Part.puts_over)
    (area_of (g.P.Part.part c.args.domain.now.protocol)) (text_of c.args.sought.now.text.now)
    c.args.candidate.now.slot c.args.seat.now c.loop.passed
    c.loop.seat c.loop.invariant.2 c.look.new.seat
    (omega (arith, c.loop.invariant.2.low, c.if-passed-directory.false, c.requires.over.cells))
    (c.in_err-look.ensures.spent refl) c.look.ensures.adds c.in_err-look.ensures.leaves.goes
    c.in_err-look.ensures.leaves.same)

pub returns-in_err-look-clause-makes : goal.returns-in_err-look-clause-makes
returns-in_err-look-clause-makes g c =
    c.look.ensures.makes ∙ c.loop.invariant.2.makes

pub returns-in_err-bind-in-Null-clause-leaves : goal.returns-in_err-bind-in-Null-clause-leaves
returns-in_err-bind-in-Null-clause-leaves g c =
    let p = err_from_is_err_and c.from_residual-in_err-bind-in-Null.result
    c.from_residual-in_err-bind-in-Null.ensures.1 in
    refused_leaves c.args.domain.now
    (place_of g.P.Part.seen g.P.Part.with_seen g.P.Part.reads g.P.Part.puts_back
    g.P.Part.puts_over)
    (area_of (g.P.Part.part c.args.domain.now.protocol)) (text_of c.args.sought.now.text.now)
    c.args.candidate.now.slot c.args.seat.now c.loop.passed
    c.look.new.seat
    (null_on c.args.domain.now
    (place_of g.P.Part.seen g.P.Part.with_seen g.P.Part.reads g.P.Part.puts_back
    g.P.Part.puts_over)
    (area_of (g.P.Part.part c.args.domain.now.protocol)) (text_of c.args.sought.now.text.now)
    c.args.candidate.now.slot c.args.seat.now c.loop.passed
    c.loop.seat c.loop.invariant.2 c.look.new.seat
    ((g.P.Part.part c.args.domain.now.protocol).first + c.cell_on-cell.result) c.in_ok-look.field-0
    c.in-Null.is (c.in_ok-look.ensures.null (ap Ok c.in-Null.is)) c.in_ok-look.ensures.leaves
    c.in_ok-look.ensures.learns c.look.ensures.makes c.look.ensures.room c.look.ensures.rest)
    c.bind.new.seat c.from_residual-in_err-bind-in-Null.result p.0 p.1 c.bind.ensures.leaves

pub returns-in_err-bind-in-Null-clause-grows : goal.returns-in_err-bind-in-Null-clause-grows
returns-in_err-bind-in-Null-clause-grows g c =
    let p = err_from_is_err_and c.from_residual-in_err-bind-in-Null.result
    c.from_residual-in_err-bind-in-Null.ensures.1 in
    refused_grows c.args.domain.now
    (place_of g.P.Part.seen g.P.Part.with_seen g.P.Part.reads g.P.Part.puts_back
    g.P.Part.puts_over)
    (area_of (g.P.Part.part c.args.domain.now.protocol)) (text_of c.args.sought.now.text.now)
    c.args.candidate.now.slot c.args.seat.now c.loop.passed
    c.look.new.seat
    (null_on c.args.domain.now
    (place_of g.P.Part.seen g.P.Part.with_seen g.P.Part.reads g.P.Part.puts_back
    g.P.Part.puts_over)
    (area_of (g.P.Part.part c.args.domain.now.protocol)) (text_of c.args.sought.now.text.now)
    c.args.candidate.now.slot c.args.seat.now c.loop.passed
    c.loop.seat c.loop.invariant.2 c.look.new.seat
    ((g.P.Part.part c.args.domain.now.protocol).first + c.cell_on-cell.result) c.in_ok-look.field-0
    c.in-Null.is (c.in_ok-look.ensures.null (ap Ok c.in-Null.is)) c.in_ok-look.ensures.leaves
    c.in_ok-look.ensures.learns c.look.ensures.makes c.look.ensures.room c.look.ensures.rest)
    c.bind.new.seat c.from_residual-in_err-bind-in-Null.result p.0 p.1
    (same_learns c.args.domain.now
    (place_of g.P.Part.seen g.P.Part.with_seen g.P.Part.reads g.P.Part.puts_back
    g.P.Part.puts_over)
    (area_of (g.P.Part.part c.args.domain.now.protocol)) (text_of c.args.sought.now.text.now)
    c.args.candidate.now.slot c.args.seat.now c.loop.passed
    c.look.new.seat
    (null_on c.args.domain.now
    (place_of g.P.Part.seen g.P.Part.with_seen g.P.Part.reads g.P.Part.puts_back
    g.P.Part.puts_over)
    (area_of (g.P.Part.part c.args.domain.now.protocol)) (text_of c.args.sought.now.text.now)
    c.args.candidate.now.slot c.args.seat.now c.loop.passed
    c.loop.seat c.loop.invariant.2 c.look.new.seat
    ((g.P.Part.part c.args.domain.now.protocol).first + c.cell_on-cell.result) c.in_ok-look.field-0
    c.in-Null.is (c.in_ok-look.ensures.null (ap Ok c.in-Null.is)) c.in_ok-look.ensures.leaves
    c.in_ok-look.ensures.learns c.look.ensures.makes c.look.ensures.room c.look.ensures.rest)
    c.bind.new.seat c.in_err-bind-in-Null.ensures.refused)

pub returns-in_err-bind-in-Null-clause-short : goal.returns-in_err-bind-in-Null-clause-short
returns-in_err-bind-in-Null-clause-short g c =
    λ err. subst (λ x. IsWhyShort c.args.directory.now.cells c.args.seat.now.view.core
    x.view.core) (sym c.in_err-bind-in-Null.ensures.refused)
    (subst (λ k. IsWhyShort k c.args.seat.now.view.core c.look.new.seat.view.core)
    (sym c.requires.over.cells)
    (enters_short c.args.domain.now
    (place_of g.P.Part.seen g.P.Part.with_seen g.P.Part.reads g.P.Part.puts_back
    g.P.Part.puts_over)
    (area_of (g.P.Part.part c.args.domain.now.protocol)) (text_of c.args.sought.now.text.now)
    c.args.candidate.now.slot c.args.seat.now c.loop.passed
    c.loop.seat c.loop.invariant.2 c.look.new.seat
    (omega (arith, c.loop.invariant.2.low, c.if-passed-directory.false, c.requires.over.cells))
    (c.in_err-bind-in-Null.ensures.spent.0 refl) c.look.ensures.adds c.in_ok-look.ensures.leaves.goes
    c.in_ok-look.ensures.leaves.same))

pub returns-in_err-bind-in-Null-clause-makes : goal.returns-in_err-bind-in-Null-clause-makes
returns-in_err-bind-in-Null-clause-makes g c =
    c.bind.ensures.makes ∙ c.look.ensures.makes ∙ c.loop.invariant.2.makes

pub returns-then-branch-clause-places : goal.returns-then-branch-clause-places
returns-then-branch-clause-places g c =
    (bound_places c.args.domain.now
    (place_of g.P.Part.seen g.P.Part.with_seen g.P.Part.reads g.P.Part.puts_back
    g.P.Part.puts_over)
    (area_of (g.P.Part.part c.args.domain.now.protocol)) (text_of c.args.sought.now.text.now)
    c.args.candidate.now.slot c.args.seat.now c.loop.passed
    c.look.new.seat
    (null_on c.args.domain.now
    (place_of g.P.Part.seen g.P.Part.with_seen g.P.Part.reads g.P.Part.puts_back
    g.P.Part.puts_over)
    (area_of (g.P.Part.part c.args.domain.now.protocol)) (text_of c.args.sought.now.text.now)
    c.args.candidate.now.slot c.args.seat.now c.loop.passed
    c.loop.seat c.loop.invariant.2 c.look.new.seat
    ((g.P.Part.part c.args.domain.now.protocol).first + c.cell_on-cell.result) c.in_ok-look.field-0
    c.in-Null.is (c.in_ok-look.ensures.null (ap Ok c.in-Null.is)) c.in_ok-look.ensures.leaves
    c.in_ok-look.ensures.learns c.look.ensures.makes c.look.ensures.room c.look.ensures.rest)
    c.bind.new.seat c.in_ok-bind-in-Null.field-0 c.if-branch.true
    c.in_ok-bind-in-Null.ensures.binds c.bind.ensures.leaves).0

pub returns-then-branch-clause-grows : goal.returns-then-branch-clause-grows
returns-then-branch-clause-grows g c =
    (bound_places c.args.domain.now
    (place_of g.P.Part.seen g.P.Part.with_seen g.P.Part.reads g.P.Part.puts_back
    g.P.Part.puts_over)
    (area_of (g.P.Part.part c.args.domain.now.protocol)) (text_of c.args.sought.now.text.now)
    c.args.candidate.now.slot c.args.seat.now c.loop.passed
    c.look.new.seat
    (null_on c.args.domain.now
    (place_of g.P.Part.seen g.P.Part.with_seen g.P.Part.reads g.P.Part.puts_back
    g.P.Part.puts_over)
    (area_of (g.P.Part.part c.args.domain.now.protocol)) (text_of c.args.sought.now.text.now)
    c.args.candidate.now.slot c.args.seat.now c.loop.passed
    c.loop.seat c.loop.invariant.2 c.look.new.seat
    ((g.P.Part.part c.args.domain.now.protocol).first + c.cell_on-cell.result) c.in_ok-look.field-0
    c.in-Null.is (c.in_ok-look.ensures.null (ap Ok c.in-Null.is)) c.in_ok-look.ensures.leaves
    c.in_ok-look.ensures.learns c.look.ensures.makes c.look.ensures.room c.look.ensures.rest)
    c.bind.new.seat c.in_ok-bind-in-Null.field-0 c.if-branch.true
    c.in_ok-bind-in-Null.ensures.binds c.bind.ensures.leaves).1

pub returns-then-branch-clause-knows : goal.returns-then-branch-clause-knows
returns-then-branch-clause-knows g c =
    bound_knows c.args.domain.now
    (place_of g.P.Part.seen g.P.Part.with_seen g.P.Part.reads g.P.Part.puts_back
    g.P.Part.puts_over)
    (area_of (g.P.Part.part c.args.domain.now.protocol)) (text_of c.args.sought.now.text.now)
    c.args.candidate.now.slot c.args.seat.now c.loop.passed
    c.look.new.seat
    (null_on c.args.domain.now
    (place_of g.P.Part.seen g.P.Part.with_seen g.P.Part.reads g.P.Part.puts_back
    g.P.Part.puts_over)
    (area_of (g.P.Part.part c.args.domain.now.protocol)) (text_of c.args.sought.now.text.now)
    c.args.candidate.now.slot c.args.seat.now c.loop.passed
    c.loop.seat c.loop.invariant.2 c.look.new.seat
    ((g.P.Part.part c.args.domain.now.protocol).first + c.cell_on-cell.result) c.in_ok-look.field-0
    c.in-Null.is (c.in_ok-look.ensures.null (ap Ok c.in-Null.is)) c.in_ok-look.ensures.leaves
    c.in_ok-look.ensures.learns c.look.ensures.makes c.look.ensures.room c.look.ensures.rest)
    c.bind.new.seat c.in_ok-bind-in-Null.field-0 c.if-branch.true
    c.in_ok-bind-in-Null.ensures.binds c.bind.ensures.leaves

pub returns-then-branch-clause-leaves : goal.returns-then-branch-clause-leaves
returns-then-branch-clause-leaves g c =
    enter_leaves c.args.domain.now
    (place_of g.P.Part.seen g.P.Part.with_seen g.P.Part.reads g.P.Part.puts_back
    g.P.Part.puts_over)
    (area_of (g.P.Part.part c.args.domain.now.protocol)) (text_of c.args.sought.now.text.now)
    c.args.candidate.now.slot c.args.seat.now c.loop.passed
    c.look.new.seat
    (null_on c.args.domain.now
    (place_of g.P.Part.seen g.P.Part.with_seen g.P.Part.reads g.P.Part.puts_back
    g.P.Part.puts_over)
    (area_of (g.P.Part.part c.args.domain.now.protocol)) (text_of c.args.sought.now.text.now)
    c.args.candidate.now.slot c.args.seat.now c.loop.passed
    c.loop.seat c.loop.invariant.2 c.look.new.seat
    ((g.P.Part.part c.args.domain.now.protocol).first + c.cell_on-cell.result) c.in_ok-look.field-0
    c.in-Null.is (c.in_ok-look.ensures.null (ap Ok c.in-Null.is)) c.in_ok-look.ensures.leaves
    c.in_ok-look.ensures.learns c.look.ensures.makes c.look.ensures.room c.look.ensures.rest)
    c.bind.new.seat None c.bind.ensures.leaves

pub returns-then-branch-clause-makes : goal.returns-then-branch-clause-makes
returns-then-branch-clause-makes g c =
    c.bind.ensures.makes ∙ c.look.ensures.makes ∙ c.loop.invariant.2.makes

pub loop-preserved-else-branch : goal.loop-preserved-else-branch
loop-preserved-else-branch g c = (
  tt,
  tt,
  enters_lost c.args.domain.now
      (place_of g.P.Part.seen g.P.Part.with_seen g.P.Part.reads g.P.Part.puts_back
      g.P.Part.puts_over)
      (area_of (g.P.Part.part c.args.domain.now.protocol)) (text_of c.args.sought.now.text.now)
      c.args.candidate.now.slot c.args.seat.now c.loop.passed
      c.look.new.seat
      (null_on c.args.domain.now
      (place_of g.P.Part.seen g.P.Part.with_seen g.P.Part.reads g.P.Part.puts_back
      g.P.Part.puts_over)
      (area_of (g.P.Part.part c.args.domain.now.protocol)) (text_of c.args.sought.now.text.now)
      c.args.candidate.now.slot c.args.seat.now c.loop.passed
      c.loop.seat c.loop.invariant.2 c.look.new.seat
      ((g.P.Part.part c.args.domain.now.protocol).first + c.cell_on-cell.result) c.in_ok-look.field-0
      c.in-Null.is (c.in_ok-look.ensures.null (ap Ok c.in-Null.is)) c.in_ok-look.ensures.leaves
      c.in_ok-look.ensures.learns c.look.ensures.makes c.look.ensures.room c.look.ensures.rest)
      c.bind.new.seat
      (race_before c.args.seat.now.view.core c.loop.seat.view.core c.bind.new.seat.view.core
      c.loop.invariant.2.leaves.goes
      (race_of ((g.P.Part.part c.args.domain.now.protocol).first + c.cell_on-cell.result)
      (c.in_ok-look.ensures.null (ap Ok c.in-Null.is)).0 c.args.candidate.now.slot
      c.loop.seat.view.core c.look.new.seat.view.core c.bind.new.seat.view.core
      (c.in_ok-look.ensures.null (ap Ok c.in-Null.is)).1
      (c.in_ok-bind-in-Null.ensures.lost (ap Ok c.if-branch.false))))
      (not_bound g.P.Part.seen g.P.Part.with_seen c.args.domain.now
      (area_of (g.P.Part.part c.args.domain.now.protocol)) (text_of c.args.sought.now.text.now)
      c.args.candidate.now.slot c.look.new.seat c.bind.new.seat
      c.in_ok-bind-in-Null.field-0 c.if-branch.false c.in_ok-bind-in-Null.ensures.binds)
      c.bind.ensures.leaves c.bind.ensures.makes c.bind.ensures.room c.bind.ensures.rest,
)

pub returns-in-Record-clause-places : goal.returns-in-Record-clause-places
returns-in-Record-clause-places g c =
    (found_places c.args.domain.now
    (place_of g.P.Part.seen g.P.Part.with_seen g.P.Part.reads g.P.Part.puts_back
    g.P.Part.puts_over)
    (area_of (g.P.Part.part c.args.domain.now.protocol)) (text_of c.args.sought.now.text.now)
    c.args.candidate.now.slot c.args.seat.now c.loop.passed
    c.loop.seat c.loop.invariant.2 c.look.new.seat
    c.cell_on-cell.result c.in_ok-look.field-0 c.in-Record.strong c.in-Record.is
    c.in_ok-look.ensures.meets c.in_ok-look.ensures.learns).0

pub returns-in-Record-clause-grows : goal.returns-in-Record-clause-grows
returns-in-Record-clause-grows g c =
    (found_places c.args.domain.now
    (place_of g.P.Part.seen g.P.Part.with_seen g.P.Part.reads g.P.Part.puts_back
    g.P.Part.puts_over)
    (area_of (g.P.Part.part c.args.domain.now.protocol)) (text_of c.args.sought.now.text.now)
    c.args.candidate.now.slot c.args.seat.now c.loop.passed
    c.loop.seat c.loop.invariant.2 c.look.new.seat
    c.cell_on-cell.result c.in_ok-look.field-0 c.in-Record.strong c.in-Record.is
    c.in_ok-look.ensures.meets c.in_ok-look.ensures.learns).1

pub returns-in-Record-clause-knows : goal.returns-in-Record-clause-knows
returns-in-Record-clause-knows g c =
    found_knows c.args.domain.now
    (place_of g.P.Part.seen g.P.Part.with_seen g.P.Part.reads g.P.Part.puts_back
    g.P.Part.puts_over)
    (area_of (g.P.Part.part c.args.domain.now.protocol)) (text_of c.args.sought.now.text.now)
    c.args.candidate.now.slot c.args.seat.now c.loop.passed
    c.loop.seat c.loop.invariant.2 c.look.new.seat
    c.cell_on-cell.result c.in_ok-look.field-0 c.in-Record.strong c.in-Record.is
    c.in_ok-look.ensures.meets

pub returns-in-Record-clause-leaves : goal.returns-in-Record-clause-leaves
returns-in-Record-clause-leaves g c =
    record_leaves c.args.domain.now
    (place_of g.P.Part.seen g.P.Part.with_seen g.P.Part.reads g.P.Part.puts_back
    g.P.Part.puts_over)
    (area_of (g.P.Part.part c.args.domain.now.protocol)) (text_of c.args.sought.now.text.now)
    c.args.candidate.now.slot c.args.seat.now c.loop.passed
    c.loop.seat c.loop.invariant.2 c.look.new.seat
    c.in_ok-look.field-0 c.in-Record.strong c.in-Record.is c.in_ok-look.ensures.leaves

pub returns-in-Record-clause-makes : goal.returns-in-Record-clause-makes
returns-in-Record-clause-makes g c =
    c.look.ensures.makes ∙ c.loop.invariant.2.makes

pub loop-preserved : goal.loop-preserved
loop-preserved g c = (
  tt,
  tt,
  other_on c.args.domain.now
      (place_of g.P.Part.seen g.P.Part.with_seen g.P.Part.reads g.P.Part.puts_back
      g.P.Part.puts_over)
      (area_of (g.P.Part.part c.args.domain.now.protocol)) (text_of c.args.sought.now.text.now)
      c.args.candidate.now.slot c.args.seat.now c.loop.passed
      c.loop.seat c.loop.invariant.2 c.look.new.seat
      c.cell_on-cell.result c.in_ok-look.field-0 c.in-Other.is
      (at_cell (area_of (g.P.Part.part c.args.domain.now.protocol)) (text_of
      c.args.sought.now.text.now)
      c.args.sought.now.hash c.loop.passed c.args.directory.now.cells c.cell_on-cell.result
      c.requires.sought.place c.requires.over.cells c.cell_on-cell.ensures.cell)
      (omega (arith, c.loop.invariant.2.low, c.if-passed-directory.false, c.requires.over.cells))
      c.in_ok-look.ensures.meets c.in_ok-look.ensures.leaves c.in_ok-look.ensures.learns
      c.look.ensures.makes c.look.ensures.adds c.look.ensures.room c.look.ensures.rest,
)
