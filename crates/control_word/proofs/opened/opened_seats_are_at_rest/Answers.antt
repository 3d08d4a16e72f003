use Rattle.control_word.proofs.Beginning.{all_at_rest}
use Rattle.control_word.proofs.opened.opened_seats_are_at_rest.Goals as goal

pub returns : goal.returns
returns g c = λ of d shape. all_at_rest (g.P.Protocol.first of) d shape
