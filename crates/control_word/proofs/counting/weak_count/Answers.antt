use Rattle.control_word.proofs.CountSteps.{counts_weak}
use Rattle.control_word.proofs.counting.weak_count.Goals as goal

pub returns-in-Word-clause-counted : goal.returns-in-Word-clause-counted
returns-in-Word-clause-counted g c =
    counts_weak c.args.domain.now c.args.seat.now c.wcount.new.seat c.args.slot c.wcount.result
    c.in-Word.count c.wcount.ensures c.in-Word.is c.requires.holds
