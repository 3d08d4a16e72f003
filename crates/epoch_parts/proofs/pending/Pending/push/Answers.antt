use Rattle.std.proofs.Common.{rules, ◌≡◌, ℕ, ◌+◌, ◌-◌, ◌≤◌, ◌∷◌, [], ◌++◌, All, List, length, get_or, set, sym, subst, ◌∙◌, ap, arith, append_assoc}
use Rattle.epoch_core.specs.declared.act.Dated.{Dated}
use Rattle.epoch_parts.specs.Pending.{Queue, entries, spare}
use Rattle.epoch_parts.proofs.Queues.{all_behind, last_entries, last_spare}
use Rattle.epoch_parts.proofs.pending.Pending.push.Goals as goal

pub push-requires-clause-room : goal.push-requires-clause-room
push-requires-clause-room c =
    let n : ℕ = c.len-last.result - 1 in
    let long : n + 1 ≡ length c.args.self.now.queues = search rules in
    let at : c.index_mut.result.now ≡ get_or c.args.self.now.queues n c.index_mut.result.now =
    search rules in
    let s = last_spare c.index_mut.result.now c.args.self.now.queues n long in
    let room = c.requires.room in
    let same = ap (λ (q : Queue). q.spare) at in omega (arith, room, s.0, same)

pub push-requires-clause-order : goal.push-requires-clause-order
push-requires-clause-order c =
    let n : ℕ = c.len-last.result - 1 in
    let long : n + 1 ≡ length c.args.self.now.queues = search rules in
    let at : c.index_mut.result.now ≡ get_or c.args.self.now.queues n c.index_mut.result.now =
    search rules in
    let e = last_entries c.index_mut.result.now c.args.self.now.queues n long in
    let T : Dated → Type 0 = λ (x : Dated). x.date ≤ c.args.entry.date in
    subst (λ (q : Queue). All T q.entries) (sym at)
    (all_behind T e.0 _ (subst (All T) e.1 c.requires.order))

pub returns-clause-entries : goal.returns-clause-entries
returns-clause-entries c =
    let n : ℕ = c.len-last.result - 1 in
    let long : n + 1 ≡ length c.args.self.now.queues = search rules in
    let at : c.index_mut.result.now ≡ get_or c.args.self.now.queues n c.index_mut.result.now =
    search rules in
    let inside : c.self.inside.queues.items ≡ c.args.self.now.queues = search rules in
    let e = last_entries c.index_mut.result.now c.args.self.now.queues n long in
    ap (λ (qs : List Queue). entries (set qs n c.push.new.self)) inside ∙ (e.2 c.push.new.self
    ∙ (ap (λ (ds : List Dated). e.0 ++ ds) (c.push.ensures.entries
    ∙ ap (λ (q : Queue). q.entries ++ c.args.entry ∷ []) at)
    ∙ (sym (append_assoc e.0 (get_or c.args.self.now.queues n c.index_mut.result.now).entries
    (c.args.entry ∷ []))
    ∙ ap (λ (ds : List Dated). ds ++ c.args.entry ∷ []) (sym e.1))))

pub returns-clause-spare : goal.returns-clause-spare
returns-clause-spare c =
    let n : ℕ = c.len-last.result - 1 in
    let long : n + 1 ≡ length c.args.self.now.queues = search rules in
    let at : c.index_mut.result.now ≡ get_or c.args.self.now.queues n c.index_mut.result.now =
    search rules in
    let inside : c.self.inside.queues.items ≡ c.args.self.now.queues = search rules in
    let s = last_spare c.index_mut.result.now c.args.self.now.queues n long in
    let same = ap (λ (q : Queue). q.spare) at in
    let now = ap (λ (qs : List Queue). spare (set qs n c.push.new.self)) inside ∙ s.1 c.push.new.self in
    let less = c.push.ensures.room in omega (arith, now, less, same, s.0)
