use Rattle.std.proofs.Common.{ℕ, ◌∙◌, subst}
use Rattle.std.specs.Prelude.{length}
use Rattle.version_reading.specs.Reading.{AtALook}
use Rattle.version_map.specs.Maps.{HasRange}
use Rattle.version_map.proofs.Playing.{has_read}
use Rattle.version_map.proofs.Again.{again_look, again_reads, tried_again}
use Rattle.version_map.proofs.map.VersionMap.range.Goals as goal

pub returns-in-Ok-clause-answer : goal.returns-in-Ok-clause-answer
returns-in-Ok-clause-answer g c =
    again_look c.args.domain.now c.args.seat.now c.loop-try.seat c.loop-try.invariant.0
    c.try_range.new.seat c.try_range.ensures.reads c.try_range.ensures.knows c.args.self.now.cell
    (HasRange c.args.self.now.cell c.args.low c.args.high (length c.args.out.now) c.in-Ok.count
    c.try_range.new.out)
    (subst (λ (room : ℕ). AtALook c.args.domain.now c.args.self.now.cell
    (HasRange c.args.self.now.cell c.args.low c.args.high room c.in-Ok.count c.try_range.new.out)
    c.loop-try.seat c.try_range.new.seat) c.loop-try.invariant.1 c.in-Ok.ensures.answer)

pub returns-in-Ok-clause-reads : goal.returns-in-Ok-clause-reads
returns-in-Ok-clause-reads g c =
    again_reads c.args.domain.now c.args.seat.now c.loop-try.seat c.loop-try.invariant.0
    c.try_range.new.seat c.try_range.ensures.reads c.try_range.ensures.knows

pub returns-in-Ok-clause-plays : goal.returns-in-Ok-clause-plays
returns-in-Ok-clause-plays g c plays =
    has_read c.args.domain.now c.args.seat.now c.try_range.new.seat plays
    (returns-in-Ok-clause-reads g c) c.try_range.ensures.rest

pub loop-try-preserved : goal.loop-try-preserved
loop-try-preserved g c = (
  tried_again c.args.domain.now c.args.seat.now c.loop-try.seat c.loop-try.invariant.0
      c.try_range.new.seat c.try_range.ensures.reads c.try_range.ensures.knows
      c.try_range.ensures.rest,
  c.try_range.ensures.room ∙ c.loop-try.invariant.1,
)
