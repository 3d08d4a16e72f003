use Rattle.std.proofs.Common.{◌≡◌, ◌+◌, ◌^◌, take, sum}
use Rattle.core_functions.proofs.fields.are_grants.Given as goal

abbrev pub invariant-loop-grant : goal.invariant-loop-grant
invariant-loop-grant l = l.left + sum (take l.grant-index l.grants) ≡ 2 ^ 40
