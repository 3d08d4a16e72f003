use Rattle.slot_store.proofs.Seeing.{sees}
use Rattle.slot_store.proofs.reading.read.Goals as goal

pub returns-in-Word-clause-read : goal.returns-in-Word-clause-read
returns-in-Word-clause-read g c =
    (sees c.args.domain.now c.args.seat.now c.see.new.seat c.args.slot c.args.word c.in-Word.found
    c.requires.within c.requires.holds c.see.result c.see.ensures c.in-Word.is c.requires.rest).1

pub returns-in-Word-clause-seen : goal.returns-in-Word-clause-seen
returns-in-Word-clause-seen g c =
    (sees c.args.domain.now c.args.seat.now c.see.new.seat c.args.slot c.args.word c.in-Word.found
    c.requires.within c.requires.holds c.see.result c.see.ensures c.in-Word.is c.requires.rest).0
