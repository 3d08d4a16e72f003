use Rattle.std.proofs.Common.{refl, arith, ◌+◌, ◌≡◌}
use Rattle.weak_intern.proofs.Compared.{all_same, one_read, one_same, read_compares, read_leaves, read_makes}
use Rattle.record_making.proofs.Below.directory_law_Kit.{false≢true}
use Rattle.weak_intern.proofs.comparing.is_payload.Goals as goal

pub returns-then-read-payload-clause-compares : goal.returns-then-read-payload-clause-compares
returns-then-read-payload-clause-compares g c =
    read_compares c.args.domain.now c.args.slot (c.loop-word.word + 1) c.args.seat.now c.read.new.seat
    (one_read g.P.Kind.PayloadKind.fits c.args.domain.now c.args.slot c.args.payload.now
    c.args.seat.now c.loop-word.word
    c.read.result c.loop-word.seat c.read.new.seat c.loop-word.invariant c.requires.holds
    c.read.ensures.read c.read.ensures.seen c.read.ensures.client c.read.ensures.objects
    c.read.ensures.room c.read.ensures.rest) c.args.payload.now _
    (λ is. absurd (false≢true is)) (omega (arith, c.loop-word-test.true))

pub returns-then-read-payload-clause-objects : goal.returns-then-read-payload-clause-objects
returns-then-read-payload-clause-objects g c =
    (one_read g.P.Kind.PayloadKind.fits c.args.domain.now c.args.slot c.args.payload.now
    c.args.seat.now c.loop-word.word
    c.read.result c.loop-word.seat c.read.new.seat c.loop-word.invariant c.requires.holds
    c.read.ensures.read c.read.ensures.seen c.read.ensures.client c.read.ensures.objects
    c.read.ensures.room c.read.ensures.rest).knows

pub returns-then-read-payload-clause-leaves : goal.returns-then-read-payload-clause-leaves
returns-then-read-payload-clause-leaves g c =
    read_leaves c.args.domain.now c.args.slot (c.loop-word.word + 1) c.args.seat.now c.read.new.seat
    (one_read g.P.Kind.PayloadKind.fits c.args.domain.now c.args.slot c.args.payload.now
    c.args.seat.now c.loop-word.word
    c.read.result c.loop-word.seat c.read.new.seat c.loop-word.invariant c.requires.holds
    c.read.ensures.read c.read.ensures.seen c.read.ensures.client c.read.ensures.objects
    c.read.ensures.room c.read.ensures.rest)

pub returns-then-read-payload-clause-makes : goal.returns-then-read-payload-clause-makes
returns-then-read-payload-clause-makes g c =
    read_makes c.args.domain.now c.args.slot (c.loop-word.word + 1) c.args.seat.now c.read.new.seat
    (one_read g.P.Kind.PayloadKind.fits c.args.domain.now c.args.slot c.args.payload.now
    c.args.seat.now c.loop-word.word
    c.read.result c.loop-word.seat c.read.new.seat c.loop-word.invariant c.requires.holds
    c.read.ensures.read c.read.ensures.seen c.read.ensures.client c.read.ensures.objects
    c.read.ensures.room c.read.ensures.rest)

pub loop-word-preserved : goal.loop-word-preserved
loop-word-preserved g c =
    one_same g.P.Kind.PayloadKind.fits c.args.domain.now c.args.slot c.args.payload.now
    c.args.seat.now c.loop-word.word
    c.read.result c.loop-word.seat c.read.new.seat c.loop-word.invariant c.requires.holds
    c.read.ensures.read c.read.ensures.seen c.read.ensures.client c.read.ensures.objects
    c.read.ensures.room c.read.ensures.rest (omega (arith, c.if-read-payload.false))

pub returns-clause-same : goal.returns-clause-same
returns-clause-same g c = (
  λ is. all_same g.P.Kind.PayloadKind.fits c.args.domain.now c.args.slot c.args.payload.now
      c.args.seat.now
      c.loop-word.word c.loop-word.seat c.loop-word.invariant
      (omega (arith, c.loop-word-test.false, c.loop-word.auto.word-end)),
  λ is. refl,
)

pub returns-clause-compares : goal.returns-clause-compares
returns-clause-compares g c =
    read_compares c.args.domain.now c.args.slot c.loop-word.word c.args.seat.now c.loop-word.seat
    c.loop-word.invariant.so_far c.args.payload.now _
    (λ is. let whole : c.loop-word.word ≡ 16 =
    omega (arith, c.loop-word-test.false, c.loop-word.auto.word-end) in (
      whole,
      all_same g.P.Kind.PayloadKind.fits c.args.domain.now c.args.slot c.args.payload.now
          c.args.seat.now c.loop-word.word c.loop-word.seat c.loop-word.invariant whole,
    )) (omega (arith, c.loop-word.auto.word-end))

pub returns-clause-leaves : goal.returns-clause-leaves
returns-clause-leaves g c =
    read_leaves c.args.domain.now c.args.slot c.loop-word.word c.args.seat.now c.loop-word.seat
    c.loop-word.invariant.so_far

pub returns-clause-makes : goal.returns-clause-makes
returns-clause-makes g c =
    read_makes c.args.domain.now c.args.slot c.loop-word.word c.args.seat.now c.loop-word.seat
    c.loop-word.invariant.so_far
