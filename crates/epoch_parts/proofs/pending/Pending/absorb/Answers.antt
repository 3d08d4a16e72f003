use Rattle.std.proofs.Common.{rules, ◌≡◌, ◌++◌, ap, ◌∙◌}
use Rattle.epoch_parts.specs.Pending.{entries}
use Rattle.epoch_parts.proofs.Queues.{entries_append}
use Rattle.epoch_parts.proofs.pending.Pending.absorb.Goals as goal

pub returns-clause-entries : goal.returns-clause-entries
returns-clause-entries c =
    let all : c.append.new.self.items ≡ c.args.self.now.queues ++ c.args.other.queues =
    search rules in
    ap entries all ∙ entries_append c.args.self.now.queues c.args.other.queues
