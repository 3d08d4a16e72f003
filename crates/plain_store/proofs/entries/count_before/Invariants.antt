use Rattle.std.proofs.Common.{◌≡◌, take}
use Rattle.plain_state.specs.Lists.{entry_times}
use Rattle.plain_store.proofs.entries.count_before.Given as goal

abbrev pub invariant-loop-i : goal.invariant-loop-i
invariant-loop-i l = l.count ≡ entry_times l.kind l.slot (take l.i l.list.items)
