use Rattle.std.proofs.Common.{◌∙◌}
use Rattle.lane_files.proofs.SeatsKept.{drop_counts, gave_item}
use Rattle.lane_files.proofs.taking.tally_item.Goals as goal

pub returns-clause-owns : goal.returns-clause-owns
returns-clause-owns c =
    gave_item _ c.args.domain.now c.args.item.slot c.slot.result c.slot.ensures c.args.seat.now
    c.tally_slot-counted.new.seat c.drop_strong.new.seat c.tally_slot-counted.ensures.owns
    c.drop_strong.ensures.dropped c.drop_strong.ensures.objects c.requires.owned

pub returns-clause-makes : goal.returns-clause-makes
returns-clause-makes c =
    (drop_counts _ c.args.domain.now c.args.item.slot c.tally_slot-counted.new.seat
    c.drop_strong.new.seat c.drop_strong.ensures.dropped).1
    ∙ c.tally_slot-counted.ensures.makes
