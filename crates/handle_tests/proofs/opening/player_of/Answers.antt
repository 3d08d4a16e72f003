use Rattle.handle_tests.proofs.Changing.{plays_none}
use Rattle.handle_tests.proofs.opening.player_of.Goals as goal

pub returns-clause-plays : goal.returns-clause-plays
returns-clause-plays c =
    plays_none c.requires.rest c.requires.room c.new.ensures.items c.new-2.ensures.items
