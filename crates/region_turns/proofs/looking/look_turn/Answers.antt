use Rattle.region_turns.proofs.Visiting.{has_visited}
use Rattle.region_turns.proofs.looking.look_turn.Goals as goal

pub returns-clause-turn : goal.returns-clause-turn
returns-clause-turn c all =
    has_visited c.look_all-all.new.seat c.enter.ensures.entered (c.look_all-all.ensures.looked all)
    c.exit.ensures.exited
