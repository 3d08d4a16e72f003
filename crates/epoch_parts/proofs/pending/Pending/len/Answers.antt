use Rattle.std.proofs.Common.{rules, ◌≡◌, ◌+◌, ◌-◌, ◌^◌, ◌<◌, ℕ, List, length, get_or, ap, arith}
use Rattle.std.specs.Prelude.{min}
use Rattle.epoch_parts.specs.Pending.{Queue}
use Rattle.epoch_parts.proofs.Queues.{count_more}
use Rattle.epoch_parts.proofs.pending.Pending.len.Goals as goal

pub loop-list-preserved : goal.loop-list-preserved
loop-list-preserved c =
    let qs : List Queue = c.args.self.now.queues in
    let i : ℕ = c.loop-list.list in
    let there : i < length qs = search rules in
    let at : c.index.result.now ≡ get_or qs i c.index.result.now = search rules in
    let more = count_more c.index.result.now qs i there in
    let here = ap (λ (q : Queue). length q.entries) at in
    let size : c.len.result ≡ length c.index.result.now.entries = search rules in
    let before = c.loop-list.invariant in
    let sum : c.saturating_add-count.result ≡ min (c.loop-list.count + c.len.result) (2 ^ 64 - 1) = search rules in
    grind (arith)
