use Rattle.std.proofs.Common.{◌≤◌, ◌-◌}
use Rattle.epoch_refs.specs.Searching.{Misses, slots_from}
use Rattle.epoch_refs.proofs.claiming.claim_between.Given as goal

abbrev pub invariant-loop-number : goal.invariant-loop-number
invariant-loop-number g l =
    (l.fn.from ≤ l.number)
    × Misses g.P.Kind.PayloadKind.fits l.domain (slots_from l.fn.from (l.number - l.fn.from)) l.fn.seat
    l.seat
