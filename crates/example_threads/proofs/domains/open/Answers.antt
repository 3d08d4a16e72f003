use Rattle.std.proofs.Common.{subst, sym}
use Rattle.example_threads.specs.Free.{IsRoot}
use Rattle.example_threads.proofs.domains.open.Goals as goal

pub returns-clause-root : goal.returns-clause-root
returns-clause-root g c =
    let opened = c.in_ok-domain.ensures in
    let other = c.remove-root.result in
    subst (IsRoot c.in_ok-domain.domain) (sym c.remove-root.ensures.value)
    (opened.free 0 other opened.some, opened.first other)
