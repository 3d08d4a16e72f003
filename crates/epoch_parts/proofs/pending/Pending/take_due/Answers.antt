use Rattle.std.proofs.Common.{rules, ◌≡◌, ℕ, ◌+◌, ◌<◌, ◌≤◌, List, length, get_or, set, take, sym, subst, ◌∙◌, ap, arith}
use Rattle.std.specs.Prelude.{All}
use Rattle.std.proofs.lemmas.List.{set-get_or, take_all}
use Rattle.epoch_core.specs.Steps.{dated_times, without_dated}
use Rattle.epoch_parts.specs.Pending.{Queue, entries, spare}
use Rattle.epoch_parts.proofs.Queues.{NotDue, front_taken, none_more, spare_grows}
use Rattle.epoch_parts.proofs.pending.Pending.take_due.Goals as goal

pub returns-in-Some-clause-among : goal.returns-in-Some-clause-among
returns-in-Some-clause-among c =
    let qs : List Queue = c.loop-list.self-inside.queues.items in
    let i : ℕ = c.loop-list.list in
    let there : i < length qs = search rules in
    let at : c.index_mut.result.now ≡ get_or qs i c.index_mut.result.now = search rules in
    let old : qs ≡ c.args.self.now.queues = search rules in
    let t = front_taken c.index_mut.result.now c.args.known qs i c.in-Some.entry c.take_due.new.self
    there (ap (λ (q : Queue). q.entries) (sym at) ∙ c.in-Some.ensures.first) c.in-Some.ensures.due
    c.loop-list.invariant.3 in
    subst (λ (xs : List Queue). 0 < dated_times c.in-Some.entry (entries xs)) old t.1

pub returns-in-Some-clause-taken : goal.returns-in-Some-clause-taken
returns-in-Some-clause-taken c =
    let qs : List Queue = c.loop-list.self-inside.queues.items in
    let i : ℕ = c.loop-list.list in
    let there : i < length qs = search rules in
    let at : c.index_mut.result.now ≡ get_or qs i c.index_mut.result.now = search rules in
    let old : qs ≡ c.args.self.now.queues = search rules in
    let t = front_taken c.index_mut.result.now c.args.known qs i c.in-Some.entry c.take_due.new.self
    there (ap (λ (q : Queue). q.entries) (sym at) ∙ c.in-Some.ensures.first) c.in-Some.ensures.due
    c.loop-list.invariant.3 in
    t.0 ∙ ap (λ (xs : List Queue). without_dated c.in-Some.entry (entries xs)) old

pub returns-in-Some-clause-spare : goal.returns-in-Some-clause-spare
returns-in-Some-clause-spare c =
    let qs : List Queue = c.loop-list.self-inside.queues.items in
    let i : ℕ = c.loop-list.list in
    let there : i < length qs = search rules in
    let at : c.index_mut.result.now ≡ get_or qs i c.index_mut.result.now = search rules in
    let old : qs ≡ c.args.self.now.queues = search rules in
    let same = ap (λ (q : Queue). q.spare) at in
    let more = c.in-Some.ensures.room in
    let g = spare_grows c.index_mut.result.now qs i c.take_due.new.self there
    (omega (arith, same, more)) in
    subst (λ (xs : List Queue). spare xs ≤ spare (set qs i c.take_due.new.self)) old g

pub loop-list-preserved : goal.loop-list-preserved
loop-list-preserved c =
    let qs : List Queue = c.loop-list.self-inside.queues.items in
    let i : ℕ = c.loop-list.list in
    let there : i < length qs = search rules in
    let at : c.index_mut.result.now ≡ get_or qs i c.index_mut.result.now = search rules in
    let same : c.take_due.new.self ≡ c.index_mut.result.now = search rules in
    let set_is : set qs i c.take_due.new.self ≡ qs =
    ap (set qs i) (same ∙ at) ∙ set-get_or qs i c.index_mut.result.now in
    let none : All (NotDue c.args.known) c.index_mut.result.now.entries = search rules in (
      set_is ∙ c.loop-list.invariant.0,
      search rules,
      search rules,
      subst (λ (xs : List Queue). All (NotDue c.args.known) (entries (take (i + 1) xs))) (sym set_is)
          (none_more c.index_mut.result.now c.args.known qs i there c.loop-list.invariant.3
          (subst (λ (q : Queue). All (NotDue c.args.known) q.entries) at none)),
    )

pub returns-clause-none : goal.returns-clause-none
returns-clause-none c = λ _.
    let qs : List Queue = c.loop-list.self-inside.queues.items in
    let past : length qs ≤ c.loop-list.list = search rules in
    let old : qs ≡ c.args.self.now.queues = search rules in
    subst (λ (xs : List Queue). All (NotDue c.args.known) (entries xs))
    (take_all c.loop-list.list qs past ∙ old) c.loop-list.invariant.3
