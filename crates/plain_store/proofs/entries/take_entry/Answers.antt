use Rattle.plain_store.proofs.Losing.{loses_at}
use Rattle.plain_store.proofs.entries.take_entry.Goals as goal

pub returns-in-Some : goal.returns-in-Some
returns-in-Some c =
    let found = rw c.deref.ensures.value at c.in-Some.ensures.found in
    loses_at _ _ c.in-Some.at _ (c.args.kind, c.args.slot) found.0 found.1 c.remove.ensures.by_index.2
