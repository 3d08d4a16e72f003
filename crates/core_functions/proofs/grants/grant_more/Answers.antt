use Rattle.std.proofs.Common.{rules}
use Rattle.core_functions.proofs.NextGrants.{next_granted}
use Rattle.core_functions.proofs.grants.grant_more.Goals as goal

pub returns-then-left-grant : goal.returns-then-left-grant
returns-then-left-grant c = (
  λ _. next_granted c.args.grants.now c.args.tickets.now c.loop-ticket.ticket-index
      c.loop-ticket.left c.args.used c.loop-ticket-test.true c.loop-ticket.invariant
      (rw (← c.grant_of-grant.ensures) c.if-left-grant.true),
  λ _. search rules,
)
