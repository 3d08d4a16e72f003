use Rattle.example_threads.proofs.domains.end.Goals as goal

pub close-requires-clause-may : goal.close-requires-clause-may
close-requires-clause-may g c =
    let free = c.settle_and_audit.ensures.free in
    (free.rest.idle, free.rest.owes_nothing, free.none)

pub returns : goal.returns
returns g c = record {
  last = c.settle_and_audit.new.root;
  settled = c.in_ok-found.ensures.found;
  kept = c.close.ensures;
}
