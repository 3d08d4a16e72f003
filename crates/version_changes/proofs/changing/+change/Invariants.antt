use Rattle.std.proofs.Common.{◌+◌, ◌*◌}
use Rattle.version_changes.proofs.changing.+change.Given as goal

abbrev pub decreases-change_below : goal.decreases-change_below
decreases-change_below l = l.levels * 2

abbrev pub decreases-change_left : goal.decreases-change_left
decreases-change_left l = l.levels * 2 + 1

abbrev pub decreases-change_right : goal.decreases-change_right
decreases-change_right l = l.levels * 2 + 1
