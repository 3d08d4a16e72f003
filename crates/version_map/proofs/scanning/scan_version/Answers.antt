use Rattle.std.proofs.Common.{ℕ, arith, length, subst}
use Rattle.std.specs.Prelude.{Option}
use Rattle.version_reading.specs.Reading.{Sought, pair_by}
use Rattle.version_map.proofs.Scans.{ends_high, ends_null, ends_past, more_reads, now_root, scans_more}
use Rattle.version_map.proofs.scanning.scan_version.Goals as goal

pub seek-requires-clause-node : goal.seek-requires-clause-node
seek-requires-clause-node c =
    now_root c.args.domain.now c.args.root c.args.free c.args.low c.args.high (length c.args.out.now)
    c.args.seat.now c.requires.reading c.requires.node c.requires.first c.requires.free
    c.loop-count.count c.loop-count.least c.loop-count.out c.loop-count.seat c.loop-count.invariant

pub returns-in_err-found-clause-reads : goal.returns-in_err-found-clause-reads
returns-in_err-found-clause-reads c =
    more_reads c.args.domain.now c.args.root c.args.free c.args.low c.args.high (length c.args.out.now)
    c.args.seat.now c.requires.reading c.requires.node c.requires.first c.requires.free
    c.loop-count.count c.loop-count.least c.loop-count.out c.loop-count.seat c.loop-count.invariant
    c.seek.new.seat c.seek.ensures.reads c.seek.ensures.knows

pub returns-in_default-clause-scanned : goal.returns-in_default-clause-scanned
returns-in_default-clause-scanned c =
    ends_null c.args.domain.now c.args.root c.args.free c.args.low c.args.high (length c.args.out.now)
    c.args.seat.now c.requires.reading c.requires.node c.requires.first c.requires.free
    c.loop-count.count c.loop-count.least c.loop-count.out c.loop-count.seat c.loop-count.invariant
    c.seek.new.seat c.seek.ensures.reads c.seek.ensures.knows
    (omega (arith, c.loop-count-test.true, c.loop-count.invariant.long))
    (subst (λ (x : Option (ℕ × ℕ)). Sought c.args.root c.loop-count.least (pair_by x) c.seek.new.seat)
    c.in_default.is c.in_ok-found.ensures.sought)

pub returns-in_default-clause-reads : goal.returns-in_default-clause-reads
returns-in_default-clause-reads c =
    more_reads c.args.domain.now c.args.root c.args.free c.args.low c.args.high (length c.args.out.now)
    c.args.seat.now c.requires.reading c.requires.node c.requires.first c.requires.free
    c.loop-count.count c.loop-count.least c.loop-count.out c.loop-count.seat c.loop-count.invariant
    c.seek.new.seat c.seek.ensures.reads c.seek.ensures.knows

pub returns-then-key-high-clause-scanned : goal.returns-then-key-high-clause-scanned
returns-then-key-high-clause-scanned c =
    ends_past c.args.domain.now c.args.root c.args.free c.args.low c.args.high (length c.args.out.now)
    c.args.seat.now c.requires.reading c.requires.node c.requires.first c.requires.free
    c.loop-count.count c.loop-count.least c.loop-count.out c.loop-count.seat c.loop-count.invariant
    c.seek.new.seat c.seek.ensures.reads c.seek.ensures.knows
    (omega (arith, c.loop-count-test.true, c.loop-count.invariant.long))
    c.in-Some.key c.in-Some.value
    (subst (λ (x : Option (ℕ × ℕ)). Sought c.args.root c.loop-count.least (pair_by x) c.seek.new.seat)
    c.in-Some.is c.in_ok-found.ensures.sought)
    c.if-key-high.true

pub returns-then-key-high-clause-reads : goal.returns-then-key-high-clause-reads
returns-then-key-high-clause-reads c =
    more_reads c.args.domain.now c.args.root c.args.free c.args.low c.args.high (length c.args.out.now)
    c.args.seat.now c.requires.reading c.requires.node c.requires.first c.requires.free
    c.loop-count.count c.loop-count.least c.loop-count.out c.loop-count.seat c.loop-count.invariant
    c.seek.new.seat c.seek.ensures.reads c.seek.ensures.knows

pub returns-then-key-high-2-clause-scanned : goal.returns-then-key-high-2-clause-scanned
returns-then-key-high-2-clause-scanned c =
    ends_high c.args.domain.now c.args.root c.args.free c.args.low c.args.high (length c.args.out.now)
    c.args.seat.now c.requires.reading c.requires.node c.requires.first c.requires.free
    c.loop-count.count c.loop-count.least c.loop-count.out c.loop-count.seat c.loop-count.invariant
    c.seek.new.seat c.seek.ensures.reads c.seek.ensures.knows
    (omega (arith, c.loop-count-test.true, c.loop-count.invariant.long))
    c.in-Some.key c.in-Some.value
    (subst (λ (x : Option (ℕ × ℕ)). Sought c.args.root c.loop-count.least (pair_by x) c.seek.new.seat)
    c.in-Some.is c.in_ok-found.ensures.sought)
    (omega (arith, c.if-key-high.false)) c.if-key-high-2.true

pub returns-then-key-high-2-clause-reads : goal.returns-then-key-high-2-clause-reads
returns-then-key-high-2-clause-reads c =
    more_reads c.args.domain.now c.args.root c.args.free c.args.low c.args.high (length c.args.out.now)
    c.args.seat.now c.requires.reading c.requires.node c.requires.first c.requires.free
    c.loop-count.count c.loop-count.least c.loop-count.out c.loop-count.seat c.loop-count.invariant
    c.seek.new.seat c.seek.ensures.reads c.seek.ensures.knows

pub loop-count-preserved : goal.loop-count-preserved
loop-count-preserved c =
    scans_more c.args.domain.now c.args.root c.args.free c.args.low c.args.high (length c.args.out.now)
    c.args.seat.now c.requires.reading c.requires.node c.requires.first c.requires.free
    c.loop-count.count c.loop-count.least c.loop-count.out c.loop-count.seat c.loop-count.invariant
    c.seek.new.seat c.seek.ensures.reads c.seek.ensures.knows
    (omega (arith, c.loop-count-test.true, c.loop-count.invariant.long))
    c.in-Some.key c.in-Some.value
    (subst (λ (x : Option (ℕ × ℕ)). Sought c.args.root c.loop-count.least (pair_by x) c.seek.new.seat)
    c.in-Some.is c.in_ok-found.ensures.sought)
    (omega (arith, c.if-key-high.false))
