use Rattle.std.proofs.Common.{refl, arith}
use Rattle.cell_finding.proofs.Compared.{all_same, moves_then, one_differs, one_longer, one_same, read_goes}
use Rattle.directory_law.proofs.Kit.{false≢true}
use Rattle.cell_finding.proofs.comparing.is_payload.Goals as goal

pub returns-then-e_read-payload-clause-same : goal.returns-then-e_read-payload-clause-same
returns-then-e_read-payload-clause-same g c = (
  λ is. absurd (false≢true is),
  λ is. absurd (one_differs g.P.Kind.PayloadKind.fits c.args.domain.now c.args.slot
      c.loop-word.word c.e_read.result c.args.payload.now c.args.seat.now c.loop-word.seat
      c.e_read.new.seat c.requires.held c.loop-word.invariant c.e_read.ensures.read
      c.e_read.ensures.made c.e_read.ensures.rest
      (λ e. omega (arith, c.if-e_read-payload.true, e)) is),
)

pub returns-then-e_read-payload-clause-goes : goal.returns-then-e_read-payload-clause-goes
returns-then-e_read-payload-clause-goes g c =
    let l = one_longer g.P.Kind.PayloadKind.fits c.args.domain.now c.args.slot
    c.loop-word.word c.e_read.result c.args.payload.now c.args.seat.now c.loop-word.seat
    c.e_read.new.seat c.requires.held c.loop-word.invariant c.e_read.ensures.read
    c.e_read.ensures.made c.e_read.ensures.rest in
    let low = c.loop-word-test.true in (
      moves_then g.P.Kind.PayloadKind.fits c.args.domain.now c.args.slot
          c.loop-word.word c.e_read.result c.args.payload.now c.args.seat.now c.loop-word.seat
          c.e_read.new.seat c.requires.held c.loop-word.invariant c.e_read.ensures.read
          c.e_read.ensures.made c.e_read.ensures.rest,
      omega (arith, l, low),
      read_goes g.P.Kind.PayloadKind.fits c.args.domain.now c.args.slot
          c.loop-word.word c.e_read.result c.args.payload.now c.args.seat.now c.loop-word.seat
          c.e_read.new.seat c.requires.held c.loop-word.invariant c.e_read.ensures.read
          c.e_read.ensures.made c.e_read.ensures.rest,
    )

pub loop-word-preserved : goal.loop-word-preserved
loop-word-preserved g c =
    one_same g.P.Kind.PayloadKind.fits c.args.domain.now c.args.slot
    c.loop-word.word c.e_read.result c.args.payload.now c.args.seat.now c.loop-word.seat
    c.e_read.new.seat c.requires.held c.loop-word.invariant c.e_read.ensures.read
    c.e_read.ensures.made c.e_read.ensures.rest
    (omega (arith, c.if-e_read-payload.false))

pub returns-clause-same : goal.returns-clause-same
returns-clause-same g c = (
  λ is. all_same g.P.Kind.PayloadKind.fits c.args.domain.now c.args.slot c.loop-word.word
      c.args.payload.now c.args.seat.now c.loop-word.seat c.loop-word.invariant
      (omega (arith, c.loop-word-test.false, c.loop-word.auto.word-end)),
  λ is. refl,
)
