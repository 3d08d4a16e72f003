use Rattle.std.proofs.Common.{ℕ, ◌+◌, length, arith, ap, length-append, length-take, ◌∙◌}
use Rattle.lane_gate.proofs.Streams.{Moved-on}
use Rattle.lane_gate.proofs.stream.fill.Goals as goal

pub returns-then-count-eq0-clause-whole : goal.returns-then-count-eq0-clause-whole
returns-then-count-eq0-clause-whole g c = (
  c.loop-got.got + c.in_ok-count.count,
  omega arith,
  Moved-on _ _ _ _ _ _ _ _ c.loop-got.invariant.moved c.in_ok-count.ensures.moved,
  c.in_ok-count.ensures.end c.if-count-eq0.true,
)

pub returns-then-count-eq0-clause-grew : goal.returns-then-count-eq0-clause-grew
returns-then-count-eq0-clause-grew g c =
    let m = Moved-on c.loop-got.got c.in_ok-count.count _ _ _ _ _ _
    c.loop-got.invariant.moved c.in_ok-count.ensures.moved in
    (m.0, m.2)

-- what was got stands in `out`, whose length is below 2^63
pub overflow_add-got : goal.overflow_add-got
overflow_add-got g c =
    let m = Moved-on c.loop-got.got c.in_ok-count.count _ _ _ _ _ _
    c.loop-got.invariant.moved c.in_ok-count.ensures.moved in
    let grown = ap length m.2 ∙ length-append _ m.0 in
    let out = c.read_block.new.out in
    omega (arith, grown, m.1, out.ok.0, out.ok.1, out.small)

pub loop-got-preserved : goal.loop-got-preserved
loop-got-preserved g c = record {
  within = omega (arith, c.in_ok-count.ensures.bound, length-take {A = ℕ});
  moved = Moved-on _ _ _ _ _ _ _ _ c.loop-got.invariant.moved c.in_ok-count.ensures.moved;
  faults = omega (arith, c.in_ok-count.ensures.faults_last);
}
