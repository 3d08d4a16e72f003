use Rattle.std.proofs.Common.{rules, ◌≡◌, ◌++◌, ◌<◌, ℕ, List, length, get_or, map, ap, ◌∙◌}
use Rattle.epoch_parts.specs.Pending.{Queue, deferred_of}
use Rattle.epoch_parts.proofs.Queues.{deferred_more}
use Rattle.epoch_parts.proofs.pending.Pending.push_deferred.Goals as goal

pub loop-list-preserved : goal.loop-list-preserved
loop-list-preserved c =
    let qs : List Queue = c.args.self.now.queues in
    let i : ℕ = c.loop-list.list in
    let there : i < length qs = search rules in
    let at : c.index.result.now ≡ get_or qs i c.index.result.now = search rules in
    let more : c.push_deferred.new.deferred.items
    ≡ c.loop-list.deferred.items ++ map deferred_of c.index.result.now.entries = search rules in
    deferred_more c.index.result.now qs i _ _ _ there c.loop-list.invariant
    (more ∙ ap (λ (q : Queue). c.loop-list.deferred.items ++ map deferred_of q.entries) at)
