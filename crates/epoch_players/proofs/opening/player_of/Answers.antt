use Rattle.epoch_players.proofs.Changing.{plays_none}
use Rattle.epoch_players.proofs.opening.player_of.Goals as goal

pub returns-clause-plays : goal.returns-clause-plays
returns-clause-plays c = plays_none c.requires c.new_list-strongs.ensures c.new_list-seen.ensures
