use Rattle.std.proofs.Common.{List, subst, sym}
use Rattle.epoch_refs.specs.plain_protocol.plain_state.declared.slot.SlotId.{SlotId}
use Rattle.epoch_players.specs.Plays.{Plays}
use Rattle.epoch_players.proofs.Changing.{unlisted}
use Rattle.epoch_players.proofs.player.note_strong.Goals as goal

pub returns-in-Err : goal.returns-in-Err
returns-in-Err c =
    subst
    (λ (xs : List SlotId). Plays c.args.domain.now c.args.player.now.seat xs c.args.player.now.seen.items c.args.player.now.inside)
    (sym c.in-Err.ensures.items) (unlisted c.args.player.now.strongs.items c.args.player.now.seen.items c.args.strong.slot c.requires)
