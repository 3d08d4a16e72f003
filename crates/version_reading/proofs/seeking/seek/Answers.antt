use Rattle.std.proofs.Common.{arith}
use Rattle.version_reading.specs.Reading.{pair_by}
use Rattle.version_reading.proofs.Walking.{begins, down_knows, end_knows, end_reads, finds_below, finds_here, is_longer, null_reads, steps_down, two_words}
use Rattle.version_reading.proofs.seeking.seek.Goals as goal

pub loop-level-init : goal.loop-level-init
loop-level-init c =
    begins c.args.domain.now c.args.root c.args.free c.args.key c.args.seat.now c.requires.reading
    c.requires.node c.read_word-levels.ensures.four c.requires.first c.requires.free
    c.read_word-levels.new.seat c.read_word-levels.ensures.reads c.read_word-levels.ensures.knows

pub returns-then-found-key-clause-sought : goal.returns-then-found-key-clause-sought
returns-then-found-key-clause-sought c =
    let words = two_words c.args.domain.now c.args.root c.args.free c.args.key c.args.seat.now c.requires.reading
    c.requires.node c.read_word-levels.ensures.four c.requires.first c.requires.free
    c.loop-level._level (pair_by c.loop-level.best) c.loop-level.at c.loop-level.held
    c.loop-level.seat c.read_word-found.new.seat c.read_word-value.new.seat
    c.read_word-found.result c.read_word-value.result c.loop-level.invariant
    c.read_word-found.ensures.reads c.read_word-found.ensures.knows c.read_word-found.ensures.word
    c.read_word-value.ensures.reads c.read_word-value.ensures.knows c.read_word-value.ensures.word in
    finds_here c.args.domain.now c.args.root c.args.free c.args.key c.args.seat.now c.requires.reading
    c.requires.node c.read_word-levels.ensures.four c.requires.first c.requires.free
    c.loop-level._level (pair_by c.loop-level.best) c.loop-level.at c.loop-level.held
    c.read_word-value.new.seat words.there
    c.let_go.new.seat c.let_go.ensures.reads c.let_go.ensures.knows c.read_word-found.result
    c.read_word-value.result words.key_is words.value_is c.if-found-key.true

pub returns-then-found-key-clause-reads : goal.returns-then-found-key-clause-reads
returns-then-found-key-clause-reads c =
    let words = two_words c.args.domain.now c.args.root c.args.free c.args.key c.args.seat.now c.requires.reading
    c.requires.node c.read_word-levels.ensures.four c.requires.first c.requires.free
    c.loop-level._level (pair_by c.loop-level.best) c.loop-level.at c.loop-level.held
    c.loop-level.seat c.read_word-found.new.seat c.read_word-value.new.seat
    c.read_word-found.result c.read_word-value.result c.loop-level.invariant
    c.read_word-found.ensures.reads c.read_word-found.ensures.knows c.read_word-found.ensures.word
    c.read_word-value.ensures.reads c.read_word-value.ensures.knows c.read_word-value.ensures.word in
    end_reads c.args.domain.now c.args.root c.args.free c.args.key c.args.seat.now c.requires.reading
    c.requires.node c.read_word-levels.ensures.four c.requires.first c.requires.free
    c.loop-level._level (pair_by c.loop-level.best) c.loop-level.at c.loop-level.held
    c.read_word-value.new.seat words.there
    c.let_go.new.seat c.let_go.ensures.reads c.let_go.ensures.knows

pub returns-then-found-key-clause-knows : goal.returns-then-found-key-clause-knows
returns-then-found-key-clause-knows c =
    let words = two_words c.args.domain.now c.args.root c.args.free c.args.key c.args.seat.now c.requires.reading
    c.requires.node c.read_word-levels.ensures.four c.requires.first c.requires.free
    c.loop-level._level (pair_by c.loop-level.best) c.loop-level.at c.loop-level.held
    c.loop-level.seat c.read_word-found.new.seat c.read_word-value.new.seat
    c.read_word-found.result c.read_word-value.result c.loop-level.invariant
    c.read_word-found.ensures.reads c.read_word-found.ensures.knows c.read_word-found.ensures.word
    c.read_word-value.ensures.reads c.read_word-value.ensures.knows c.read_word-value.ensures.word in
    end_knows c.args.domain.now c.args.root c.args.free c.args.key c.args.seat.now c.requires.reading
    c.requires.node c.read_word-levels.ensures.four c.requires.first c.requires.free
    c.loop-level._level (pair_by c.loop-level.best) c.loop-level.at c.loop-level.held
    c.read_word-value.new.seat words.there
    c.let_go.new.seat c.let_go.ensures.reads c.let_go.ensures.knows

pub hold_side-below-requires-clause-node : goal.hold_side-below-requires-clause-node
hold_side-below-requires-clause-node c =
    let words = two_words c.args.domain.now c.args.root c.args.free c.args.key c.args.seat.now c.requires.reading
    c.requires.node c.read_word-levels.ensures.four c.requires.first c.requires.free
    c.loop-level._level (pair_by c.loop-level.best) c.loop-level.at c.loop-level.held
    c.loop-level.seat c.read_word-found.new.seat c.read_word-value.new.seat
    c.read_word-found.result c.read_word-value.result c.loop-level.invariant
    c.read_word-found.ensures.reads c.read_word-found.ensures.knows c.read_word-found.ensures.word
    c.read_word-value.ensures.reads c.read_word-value.ensures.knows c.read_word-value.ensures.word in
    words.there.node

pub returns-in_default-clause-sought : goal.returns-in_default-clause-sought
returns-in_default-clause-sought c =
    let words = two_words c.args.domain.now c.args.root c.args.free c.args.key c.args.seat.now c.requires.reading
    c.requires.node c.read_word-levels.ensures.four c.requires.first c.requires.free
    c.loop-level._level (pair_by c.loop-level.best) c.loop-level.at c.loop-level.held
    c.loop-level.seat c.read_word-found.new.seat c.read_word-value.new.seat
    c.read_word-found.result c.read_word-value.result c.loop-level.invariant
    c.read_word-found.ensures.reads c.read_word-found.ensures.knows c.read_word-found.ensures.word
    c.read_word-value.ensures.reads c.read_word-value.ensures.knows c.read_word-value.ensures.word in
    finds_below c.args.domain.now c.args.root c.args.free c.args.key c.args.seat.now c.requires.reading
    c.requires.node c.read_word-levels.ensures.four c.requires.first c.requires.free
    c.loop-level._level (pair_by c.loop-level.best) c.loop-level.at c.loop-level.held
    c.read_word-value.new.seat words.there
    c.read_word-found.result c.read_word-value.result words.key_is words.value_is
    c.turn-side.result.0 (pair_by c.turn-side.result.1) c.turn-side.ensures c.other_word-word.result
    c.other_word-word.ensures c.hold_side-below.result c.hold_side-below.new.seat
    c.let_go-in-loop-level.new.seat c.hold_side-below.ensures.reads c.hold_side-below.ensures.knows
    c.hold_side-below.ensures.side
    c.let_go-in-loop-level.ensures.reads c.let_go-in-loop-level.ensures.knows c.in_default.is

pub returns-in_default-clause-reads : goal.returns-in_default-clause-reads
returns-in_default-clause-reads c =
    let words = two_words c.args.domain.now c.args.root c.args.free c.args.key c.args.seat.now c.requires.reading
    c.requires.node c.read_word-levels.ensures.four c.requires.first c.requires.free
    c.loop-level._level (pair_by c.loop-level.best) c.loop-level.at c.loop-level.held
    c.loop-level.seat c.read_word-found.new.seat c.read_word-value.new.seat
    c.read_word-found.result c.read_word-value.result c.loop-level.invariant
    c.read_word-found.ensures.reads c.read_word-found.ensures.knows c.read_word-found.ensures.word
    c.read_word-value.ensures.reads c.read_word-value.ensures.knows c.read_word-value.ensures.word in
    null_reads c.args.domain.now c.args.root c.args.free c.args.key c.args.seat.now c.requires.reading
    c.requires.node c.read_word-levels.ensures.four c.requires.first c.requires.free
    c.loop-level._level (pair_by c.loop-level.best) c.loop-level.at c.loop-level.held
    c.read_word-value.new.seat words.there
    c.read_word-found.result c.read_word-value.result words.key_is words.value_is
    c.turn-side.result.0 (pair_by c.turn-side.result.1) c.turn-side.ensures c.other_word-word.result
    c.other_word-word.ensures c.hold_side-below.result c.hold_side-below.new.seat
    c.let_go-in-loop-level.new.seat c.hold_side-below.ensures.reads c.hold_side-below.ensures.knows
    c.hold_side-below.ensures.side
    c.let_go-in-loop-level.ensures.reads c.let_go-in-loop-level.ensures.knows c.in_default.is

pub returns-in_default-clause-knows : goal.returns-in_default-clause-knows
returns-in_default-clause-knows c =
    let words = two_words c.args.domain.now c.args.root c.args.free c.args.key c.args.seat.now c.requires.reading
    c.requires.node c.read_word-levels.ensures.four c.requires.first c.requires.free
    c.loop-level._level (pair_by c.loop-level.best) c.loop-level.at c.loop-level.held
    c.loop-level.seat c.read_word-found.new.seat c.read_word-value.new.seat
    c.read_word-found.result c.read_word-value.result c.loop-level.invariant
    c.read_word-found.ensures.reads c.read_word-found.ensures.knows c.read_word-found.ensures.word
    c.read_word-value.ensures.reads c.read_word-value.ensures.knows c.read_word-value.ensures.word in
    down_knows c.args.domain.now c.args.root c.args.free c.args.key c.args.seat.now c.requires.reading
    c.requires.node c.read_word-levels.ensures.four c.requires.first c.requires.free
    c.loop-level._level (pair_by c.loop-level.best) c.loop-level.at c.loop-level.held
    c.read_word-value.new.seat words.there
    c.read_word-found.result c.read_word-value.result words.key_is words.value_is
    c.turn-side.result.0 (pair_by c.turn-side.result.1) c.turn-side.ensures c.other_word-word.result
    c.other_word-word.ensures c.hold_side-below.result c.hold_side-below.new.seat
    c.let_go-in-loop-level.new.seat c.hold_side-below.ensures.reads c.hold_side-below.ensures.knows
    c.hold_side-below.ensures.side
    c.let_go-in-loop-level.ensures.reads c.let_go-in-loop-level.ensures.knows

pub loop-level-preserved : goal.loop-level-preserved
loop-level-preserved c =
    let words = two_words c.args.domain.now c.args.root c.args.free c.args.key c.args.seat.now c.requires.reading
    c.requires.node c.read_word-levels.ensures.four c.requires.first c.requires.free
    c.loop-level._level (pair_by c.loop-level.best) c.loop-level.at c.loop-level.held
    c.loop-level.seat c.read_word-found.new.seat c.read_word-value.new.seat
    c.read_word-found.result c.read_word-value.result c.loop-level.invariant
    c.read_word-found.ensures.reads c.read_word-found.ensures.knows c.read_word-found.ensures.word
    c.read_word-value.ensures.reads c.read_word-value.ensures.knows c.read_word-value.ensures.word in
    steps_down c.args.domain.now c.args.root c.args.free c.args.key c.args.seat.now c.requires.reading
    c.requires.node c.read_word-levels.ensures.four c.requires.first c.requires.free
    c.loop-level._level (pair_by c.loop-level.best) c.loop-level.at c.loop-level.held
    c.read_word-value.new.seat words.there
    c.read_word-found.result c.read_word-value.result words.key_is words.value_is
    c.turn-side.result.0 (pair_by c.turn-side.result.1) c.turn-side.ensures c.other_word-word.result
    c.other_word-word.ensures c.hold_side-below.result c.hold_side-below.new.seat
    c.let_go-in-loop-level.new.seat c.hold_side-below.ensures.reads c.hold_side-below.ensures.knows
    c.hold_side-below.ensures.side
    c.let_go-in-loop-level.ensures.reads c.let_go-in-loop-level.ensures.knows c.in-Some.kid c.in-Some.is
    c.in-Some.ensures.node

pub returns-clause-longer : goal.returns-clause-longer
returns-clause-longer c =
    λ none. is_longer c.args.domain.now c.args.root c.args.free c.args.key c.args.seat.now c.requires.reading
    c.requires.node c.read_word-levels.ensures.four c.requires.first c.requires.free
    c.loop-level._level (pair_by c.loop-level.best) c.loop-level.at c.loop-level.held
    c.loop-level.seat c.loop-level.invariant
    c.let_go-2.new.seat c.let_go-2.ensures.reads c.let_go-2.ensures.knows _
    (omega (arith, c.loop-level-test.false, c.loop-level.auto._level-end, c.read_word-levels.ensures.word))

pub returns-clause-reads : goal.returns-clause-reads
returns-clause-reads c =
    end_reads c.args.domain.now c.args.root c.args.free c.args.key c.args.seat.now c.requires.reading
    c.requires.node c.read_word-levels.ensures.four c.requires.first c.requires.free
    c.loop-level._level (pair_by c.loop-level.best) c.loop-level.at c.loop-level.held
    c.loop-level.seat c.loop-level.invariant
    c.let_go-2.new.seat c.let_go-2.ensures.reads c.let_go-2.ensures.knows

pub returns-clause-knows : goal.returns-clause-knows
returns-clause-knows c =
    end_knows c.args.domain.now c.args.root c.args.free c.args.key c.args.seat.now c.requires.reading
    c.requires.node c.read_word-levels.ensures.four c.requires.first c.requires.free
    c.loop-level._level (pair_by c.loop-level.best) c.loop-level.at c.loop-level.held
    c.loop-level.seat c.loop-level.invariant
    c.let_go-2.new.seat c.let_go-2.ensures.reads c.let_go-2.ensures.knows
