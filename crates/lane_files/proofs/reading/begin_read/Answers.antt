use Rattle.lane_files.proofs.Begun.{owns}
use Rattle.lane_files.proofs.reading.begin_read.Goals as goal

pub returns-clause-owns : goal.returns-clause-owns
returns-clause-owns c =
    owns c.args.slot c.args.seat.now c.requires.owned _ c.args.domain.now _ c.look.new.seat
    c.look.result c.look.ensures
