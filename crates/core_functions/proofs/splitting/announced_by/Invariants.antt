use Rattle.std.proofs.Common.{◌≡◌, ◌+◌, length, take}
use Rattle.eject_scan.specs.Seen.{noted}
use Rattle.core_functions.proofs.splitting.announced_by.Given as goal

abbrev pub invariant-loop-word : goal.invariant-loop-word
invariant-loop-word l =
    (l.all.rows ≡ noted (take l.word-index l.seen)) × (l.all.room ≡ length l.seen + 1)
