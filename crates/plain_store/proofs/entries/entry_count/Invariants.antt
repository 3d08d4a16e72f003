use Rattle.std.proofs.Common.{◌≡◌, take}
use Rattle.plain_state.specs.Lists.{entry_times}
use Rattle.plain_store.proofs.entries.entry_count.Given as goal

abbrev pub invariant-loop-entry : goal.invariant-loop-entry
invariant-loop-entry l = l.count ≡ entry_times l.kind l.slot (take l.entry-index l.list)
