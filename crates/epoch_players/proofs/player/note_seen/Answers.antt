use Rattle.std.proofs.Common.{List, subst, sym}
use Rattle.epoch_refs.specs.plain_protocol.plain_state.declared.slot.SlotId.{SlotId}
use Rattle.epoch_players.specs.Plays.{Plays}
use Rattle.epoch_players.proofs.Changing.{unseen}
use Rattle.epoch_players.proofs.player.note_seen.Goals as goal

pub returns-in-Err : goal.returns-in-Err
returns-in-Err c =
    subst
    (λ (ys : List SlotId). Plays c.args.domain.now c.args.player.now.seat c.args.player.now.strongs.items ys c.args.player.now.inside)
    (sym c.in-Err.ensures.items) (unseen c.args.player.now.strongs.items c.args.player.now.seen.items c.args.slot c.requires)
