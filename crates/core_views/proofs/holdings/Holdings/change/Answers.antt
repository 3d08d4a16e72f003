use Rattle.std.proofs.Common.{arith}
use Rattle.core_views.proofs.holdings.Holdings.change.Goals as goal

pub found_in-requires : goal.found_in-requires
found_in-requires c = let h = rw c.in-Look.is at c.requires.content in omega arith

pub check-requires-clause-content : goal.check-requires-clause-content
check-requires-clause-content c = let h = rw c.in-Check.is at c.requires.content in omega arith

pub swap-requires : goal.swap-requires
swap-requires c = let h = rw c.in-Swap.is at c.requires.content in omega arith

pub cas-requires : goal.cas-requires
cas-requires c = let h = rw c.in-Cas.is at c.requires.content in omega arith
