use Rattle.std.proofs.Common.{rules}
use Rattle.deleter.specs.plain_state.Lists.{entry_times}
use Rattle.heap_audit.proofs.obeying.entries_with.Goals as goal

pub returns : goal.returns
unfolding entry_times
returns c = search rules
