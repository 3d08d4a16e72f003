use Rattle.std.proofs.lemmas.List.Elements.{All-pop}
use Rattle.epoch_refs.specs.Walks.{IsFree}
use Rattle.epoch_thread_tests.proofs.threads.leave_last.Goals as goal

pub returns-clause-done : goal.returns-clause-done
returns-clause-done c =
    (All-pop (λ d. IsFree c.args.domain.now d.seat) c.args.done.now.items c.pop.new.self.items
    c.pop.result c.pop.ensures.items c.requires.done).0
