use Rattle.std.proofs.Common.{arith}
use Rattle.heap_audit.proofs.Holding.{word_counted, null_counted}
use Rattle.heap_audit.proofs.fields.count_field.Goals as goal

pub returns-then-word-ne0-clause-counted : goal.returns-then-word-ne0-clause-counted
returns-then-word-ne0-clause-counted c = word_counted c.args.counts.now c.args.word (omega arith) c.requires.within

pub returns-else-word-ne0-clause-counted : goal.returns-else-word-ne0-clause-counted
returns-else-word-ne0-clause-counted c = null_counted c.args.counts.now c.args.word (omega arith)
