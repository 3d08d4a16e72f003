use Rattle.text_reading.proofs.LetGo.{let_go_word}
use Rattle.text_reading.proofs.going_on.let_go.Goals as goal

pub returns-in-Some-clause-objects : goal.returns-in-Some-clause-objects
returns-in-Some-clause-objects g c =
    (let_go_word c.args.domain.now c.args.seat.now c.args.last.slot c.requires.rest
    c.args.last.word c.requires.held c.in-Some.word c.in-Some.is c.release.new.seat
    c.release.result c.release.ensures).0.1
