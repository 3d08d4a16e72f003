use Rattle.std.proofs.Common.{◌≤◌, All, subst, sym}
use Rattle.epoch_core.specs.declared.act.Dated.{Dated}
use Rattle.epoch_parts.specs.Pending.{IsInOrder, Queue}
use Rattle.epoch_parts.proofs.Queues.{order_push}
use Rattle.epoch_parts.proofs.dated_queue.DatedQueue.push.Goals as goal

pub invariant_of-self : goal.invariant_of-self
invariant_of-self c =
    subst IsInOrder (sym c.push_back_reserved.ensures.items)
    (order_push _ _ c.self.invariant
    (subst (λ (q : Queue). All (λ (x : Dated). x.date ≤ c.args.entry.date) q.entries)
    (sym c.self.view_is) c.requires.order))
