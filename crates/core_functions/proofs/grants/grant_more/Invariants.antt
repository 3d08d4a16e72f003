use Rattle.std.proofs.Common.{◌≡◌, ◌+◌, take}
use Rattle.core_events.specs.Views.{granted}
use Rattle.core_functions.proofs.grants.grant_more.Given as goal

abbrev pub invariant-loop-ticket : goal.invariant-loop-ticket
invariant-loop-ticket l = l.left + granted l.grants (take l.ticket-index l.tickets) ≡ l.used
