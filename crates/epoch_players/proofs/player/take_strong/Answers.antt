use Rattle.std.proofs.Common.{◌<◌, List, subst, sym}
use Rattle.epoch_refs.specs.plain_protocol.plain_state.declared.slot.SlotId.{SlotId}
use Rattle.epoch_refs.specs.plain_protocol.plain_state.Lists.{times}
use Rattle.epoch_players.specs.Plays.{Plays}
use Rattle.epoch_players.proofs.Changing.{owned_last}
use Rattle.epoch_players.proofs.player.take_strong.Goals as goal

pub returns-clause-owned : goal.returns-clause-owned
returns-clause-owned c =
    let listed =
    subst
    (λ (xs : List SlotId). Plays c.args.domain.now c.args.player.now.seat xs c.args.player.now.seen.items c.args.player.now.inside)
    c.pop.ensures.items c.requires in
    let last = rw c.in_ok-slot.was at listed in
    subst (λ (s : SlotId). 0 < times s c.args.player.now.seat.view.core.owned)
    (sym c.of.ensures) (owned_last c.pop.new.self.items c.args.player.now.seen.items c.in_ok-slot.slot last)
