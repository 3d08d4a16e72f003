use Rattle.std.proofs.Common.{◌≡◌, drop}
use Rattle.plain_state.specs.Lists.{times}
use Rattle.plain_store.proofs.store_hands.index_of.Given as goal

abbrev pub invariant-loop-i : goal.invariant-loop-i
invariant-loop-i l = times l.slot (drop l.i l.list) ≡ 0
