use Rattle.std.proofs.Common.{rules, ◌≡◌, ℕ, ◌+◌, ◌-◌, ◌≤◌, ◌++◌, List, length, get_or, set, sym, subst, ◌∙◌, ap}
use Rattle.std.specs.Prelude.{OnOk}
use Rattle.epoch_core.specs.declared.act.Dated.{Dated}
use Rattle.epoch_parts.specs.Pending.{Queue, entries, spare}
use Rattle.epoch_parts.proofs.Queues.{last_entries, last_spare}
use Rattle.epoch_parts.proofs.pending.Pending.reserve.Goals as goal

pub returns-clause-entries : goal.returns-clause-entries
returns-clause-entries c =
    let n : ℕ = c.len-last.result - 1 in
    let long : n + 1 ≡ length c.args.self.now.queues = search rules in
    let at : c.index_mut.result.now ≡ get_or c.args.self.now.queues n c.index_mut.result.now =
    search rules in
    let inside : c.self.inside.queues.items ≡ c.args.self.now.queues = search rules in
    let e = last_entries c.index_mut.result.now c.args.self.now.queues n long in
    ap (λ (qs : List Queue). entries (set qs n c.reserve.new.self)) inside ∙ (e.2 c.reserve.new.self
    ∙ (ap (λ (ds : List Dated). e.0 ++ ds) (c.reserve.ensures.entries
    ∙ ap (λ (q : Queue). q.entries) at) ∙ sym e.1))

pub returns-clause-spare : goal.returns-clause-spare
returns-clause-spare c =
    let n : ℕ = c.len-last.result - 1 in
    let long : n + 1 ≡ length c.args.self.now.queues = search rules in
    let inside : c.self.inside.queues.items ≡ c.args.self.now.queues = search rules in
    let s = last_spare c.index_mut.result.now c.args.self.now.queues n long in
    subst (λ (room : ℕ). OnOk c.reserve.result (c.args.more ≤ room))
    (sym (ap (λ (qs : List Queue). spare (set qs n c.reserve.new.self)) inside
    ∙ s.1 c.reserve.new.self)) c.reserve.ensures.room
