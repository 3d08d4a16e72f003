use Rattle.epoch_players.proofs.Called.{by_look, by_null}
use Rattle.epoch_players.proofs.Changing.{kept, saw_more}
use Rattle.epoch_players.proofs.region_acts.look.Goals as goal

pub note_seen-requires : goal.note_seen-requires
note_seen-requires c =
    saw_more c.e_look.ensures.rest c.in-Some-e_look.slot
    (by_look c.e_look.ensures.looked c.in-Some-e_look.is) c.requires

pub returns-in-None : goal.returns-in-None
returns-in-None c =
    kept c.e_look.ensures.rest (by_null c.e_look.ensures.looked c.in-None.is) c.requires
