use Rattle.std.proofs.Common.{[], refl, rules, arith}
use Rattle.lane_files.proofs.Read.{has_begun, only, reads, reads_if}
use Rattle.lane_files.proofs.SeatsKept.{owns_by, owns_on}
use Rattle.lane_files.proofs.taking.tally_slot.Goals as goal

pub read_text-size-requires-clause-begun : goal.read_text-size-requires-clause-begun
read_text-size-requires-clause-begun c =
    has_begun c.args.slot c.args.seat.now c.begin_read.new.seat c.begin_read.ensures.begun

pub returns-clause-counts : goal.returns-clause-counts
returns-clause-counts c =
    reads_if c.args.slot _ c.args.seat.now c.read_text-size.new.seat c.args.tally.now
    c.add.new.self c.add.result
    (reads c.args.slot c.args.seat.now c.begin_read.new.seat c.begin_read.ensures.begun _
    c.read_text-size.new.seat c.read_text-size.new.seat c.read_text-size.ensures.learns refl
    (c.begin_read.ensures.owns.knows c.args.slot (search rules) (search rules))
    (c.read_text-size.ensures.leaves.knows c.args.slot (search rules) (search rules))
    c.read_text-size.ensures.reads.0 c.read_text-size.ensures.reads.1.same
    c.read_text-size.ensures.reads.2)
    c.add.ensures.ok c.add.ensures.err c.add.ensures.new_word

pub returns-clause-only : goal.returns-clause-only
returns-clause-only c =
    only c.args.slot c.args.seat.now c.begin_read.new.seat c.begin_read.ensures.begun []
    c.read_text-size.new.seat c.read_text-size.new.seat c.read_text-size.ensures.learns refl
    (c.begin_read.ensures.owns.knows c.args.slot (search rules) (search rules))
    (c.read_text-size.ensures.leaves.knows c.args.slot (search rules) (search rules))

pub returns-clause-owns : goal.returns-clause-owns
returns-clause-owns c =
    owns_on c.args.seat.now.view.core.owned c.args.seat.now c.begin_read.new.seat
    c.read_text-size.new.seat c.begin_read.ensures.owns (λ x. omega arith)
    (owns_by c.begin_read.new.seat c.read_text-size.new.seat c.read_text-size.ensures.leaves)
