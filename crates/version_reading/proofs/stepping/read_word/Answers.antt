use Rattle.std.proofs.Common.{arith}
use Rattle.protected_loads.proofs.Telling.{four_notes}
use Rattle.version_reading.proofs.Events.{word_is, word_reads}
use Rattle.version_reading.proofs.stepping.read_word.Goals as goal

pub returns-in-Word-clause-word : goal.returns-in-Word-clause-word
returns-in-Word-clause-word c =
    word_is c.args.domain.now c.args.slot c.args.word c.in-Word.found c.args.seat.now
    c.see.new.seat c.see.result c.see.ensures (omega arith) c.requires.within c.requires.held
    c.in-Word.is

pub returns-in-Word-clause-four : goal.returns-in-Word-clause-four
returns-in-Word-clause-four c = four_notes c.see.ensures.told

pub returns-in-Word-clause-reads : goal.returns-in-Word-clause-reads
returns-in-Word-clause-reads c =
    word_reads c.args.domain.now c.args.slot c.args.word 0 c.args.seat.now c.see.new.seat
    c.see.result c.see.ensures
